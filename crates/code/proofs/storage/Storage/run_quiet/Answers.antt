use Rattle.std.proofs.Common.{◌≡◌, ◌∙◌, ◌+◌, ◌-◌, ℕ, Option, sym, ap, subst, arith, pos}
use Rattle.code.specs.Registers.{Registers, Storage, machine_of, machine_if}
use Rattle.code.specs.Machine.{want_next}
use Rattle.code.specs.ReachedMachines.{HasRunQuiet}
use Rattle.code.proofs.QuietRuns.{taken, not_taken, coasted_step}
use Rattle.code.proofs.storage.Storage.run_quiet.Goals as goal
use Rattle.code.proofs.storage.Storage.run_quiet.Goals.{else-loop-left-test, then-loop-left-test+in-None}

pub loop-left-preserved : goal.loop-left-preserved
loop-left-preserved c =
    let m = machine_of c.loop-left.registers c.loop-left.self in
    let next = machine_of c.in-Some.next c.run_instr.new.self in
    let code = c.args.program.now in
    let i = c.instr_at-instr.result.now in
    let old = machine_of c.args.from c.args.self.now in
    let step =
    taken code m next i
    (λ reply. ap (λ (o : Option Registers). machine_if o c.run_instr.new.self) (sym c.in-Some.is) ∙
    c.run_instr.ensures.next reply)
    in
    let more = coasted_step code old m next _ i c.loop-left.invariant.coasted c.instr_at-instr.ensures.next.here step in
    let count : c.args.most - c.loop-left.left + 1 ≡ c.args.most - (c.loop-left.left - 1) =
    omega (arith, c.loop-left-test.true, c.loop-left.invariant.within) in
    record {
      coasted = subst (λ (n : ℕ). HasRunQuiet code old n next) count more;
      within = omega (arith, c.loop-left.invariant.within);
    }

pub returns-clause-ends : goal.returns-clause-ends
returns-clause-ends c = λ some quiet.
    elim c.loop-left-test.branch [
      | else-loop-left-test w ↦ absurd (omega (arith, some, w.loop-left-test.false))
      | then-loop-left-test+in-None w ↦
          let code = c.args.program.now in
          let m = machine_of c.loop-left.registers c.loop-left.self in
          let i = w.instr_at-instr.result.now in
          let none =
          ap (λ (o : Option Registers). machine_if o w.run_instr.new.self) (sym w.in-None.is) ∙
          w.run_instr.ensures.next (pos 0) in
          let same = w.self-is ∙ w.run_instr.ensures.stays w.in-None.is in
          not_taken code m i w.instr_at-instr.ensures.next.here none
          (ap (λ (s : Storage). want_next code (machine_of c.loop-left.registers s)) (sym same) ∙ quiet)
    ]

pub returns-clause-coasted : goal.returns-clause-coasted
returns-clause-coasted c =
    let same : c.loop-left-test.self ≡ c.loop-left.self = elim c.loop-left-test.branch [
      | else-loop-left-test w ↦ w.self-is
      | then-loop-left-test+in-None w ↦ w.self-is ∙ w.run_instr.ensures.stays w.in-None.is
    ] in
    rw same c.loop-left.invariant.coasted
