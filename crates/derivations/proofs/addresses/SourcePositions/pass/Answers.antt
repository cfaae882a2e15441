use Rattle.std.proofs.Common.{arith}
use Rattle.derivations.proofs.Passing.{begins, is_step, passed, stays}
use Rattle.derivations.proofs.RunningShort.{gives_up, lacks_place, lacks_steps}
use Rattle.derivations.proofs.addresses.SourcePositions.pass.Goals as goal

pub loop-step-init : goal.loop-step-init
loop-step-init c = begins c.args.profile c.args.automaton.now c.args.self.now c.args.next.now c.args.after.now

pub loop-step-preserved : goal.loop-step-preserved
loop-step-preserved c =
    stays c.args.profile c.args.automaton.now c.loop-step.automaton c.step.new.self c.args.self.now c.loop-step.self
    c.keep.new.self c.args.next.now c.args.after.now c.loop-step._step c.loop-step.invariant
    (is_step c.args.profile c.args.next.now c.args.after.now c.loop-step.automaton c.step.new.self c.loop-step.self
    c.keep.new.self c.step.result c.in-Stepped.is c.step.ensures.ends c.step.ensures.moves
    (c.keep.ensures.keeps c.if-not-keep.false)) (omega (arith, c.place-place.ensures, c.place.ensures))

pub returns-then-place-clause-passes : goal.returns-then-place-clause-passes
returns-then-place-clause-passes c =
    λ fits. passed c.args.profile c.args.automaton.now c.loop-step.automaton c.step.new.self c.args.self.now
    c.loop-step.self c.keep.new.self c.args.next.now c.args.after.now c.loop-step._step c.loop-step.invariant
    (is_step c.args.profile c.args.next.now c.args.after.now c.loop-step.automaton c.step.new.self c.loop-step.self
    c.keep.new.self c.step.result c.in-Stepped.is c.step.ensures.ends c.step.ensures.moves
    (c.keep.ensures.keeps c.if-not-keep.false)) (omega (arith, c.place-place.ensures, c.place.ensures))

pub returns-then-not-keep-clause-short : goal.returns-then-not-keep-clause-short
returns-then-not-keep-clause-short c =
    λ short. lacks_place c.args.profile c.args.automaton.now c.loop-step.automaton c.args.self.now c.loop-step.self
    c.args.next.now c.args.after.now c.loop-step._step c.loop-step.invariant (c.keep.ensures.full c.if-not-keep.true)

pub returns-in_default : goal.returns-in_default
returns-in_default c = record {
  passes = λ fits. absurd cc;
  short = λ short. gives_up c.args.profile c.args.automaton.now c.loop-step.automaton c.args.self.now c.loop-step.self
      c.args.next.now c.args.after.now c.loop-step._step c.loop-step.invariant c.step.result
      c.in_default.not-Stepped c.step.ensures.ends c.step.ensures.full;
}

pub returns-clause-short : goal.returns-clause-short
returns-clause-short c =
    λ short. lacks_steps c.args.profile c.args.automaton.now c.loop-step.automaton c.args.self.now c.loop-step.self
    c.args.next.now c.args.after.now c.loop-step._step c.loop-step.invariant (omega (arith, c.loop-step-test.false))
