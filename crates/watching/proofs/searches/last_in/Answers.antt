use Rattle.std.proofs.Common.{◌≡◌, ◌+◌, ◌-◌, ◌∙◌, ap, arith, inl, inr, refl, sym}
use Rattle.std.proofs.lemmas.Bool.{cases_eq}
use Rattle.battles.specs.Battle.{last_cycle}
use Rattle.watching.proofs.Playing.{seats_length}
use Rattle.watching.specs.Searches.{Happens}
use Rattle.watching.proofs.Searching.{ends_most, last_found, last_none, last_step}
use Rattle.watching.proofs.searches.last_in.Goals as goal

pub loop-init : goal.loop-init
loop-init c = record {
  manned = c.requires.manned;
  pilots = refl;
  codes = refl;
  limit = refl;
  cycles = c.requires.begins;
  battle = λ robots s are come. come;
  last = λ robots s code are here come. last_none (Happens robots code s c.args.robot c.args.sought.now);
}

pub loop-preserved : goal.loop-preserved
loop-preserved c =
    let codes = c.step.ensures.codes ∙ c.loop.invariant.codes in
    record {
      manned = c.step.ensures.manned;
      pilots = sym (seats_length c.args.pilots.now c.step.new.pilots codes);
      codes = codes;
      limit = c.step.ensures.next.limit ∙ c.loop.invariant.limit;
      cycles = c.step.ensures.next.cycles ∙ ap (λ n. n + 1) c.loop.invariant.cycles;
      battle = λ robots s are come.
          (rw c.loop.invariant.codes at (c.step.ensures.battle robots s)) are
          (c.loop.invariant.battle robots s are come);
      last = λ robots s code are here come.
          rw c.or-found.ensures
          (last_step (Happens robots code s c.args.robot c.args.sought.now) c.loop.counter c.step.result c.loop.found
          (rw c.loop.invariant.cycles at ((rw c.loop.invariant.codes at (c.step.ensures.found robots s code)) are here
          (c.loop.invariant.battle robots s are come)))
          (c.loop.invariant.last robots s code are here come));
    }

pub returns : goal.returns
returns c = λ robots s code are here come.
    let now = c.loop.invariant.battle robots s are come in
    let most = ends_most (last_cycle robots s c.args.game.now.limit) c.loop.game.ending
    (rw c.loop.invariant.limit at now.ends) in
    let all : c.loop.counter ≡ c.args.before - 1 =
    omega (arith, c.saturating_sub-end.ensures, c.loop-test.false, c.loop.auto) in
    last_found (Happens robots code s c.args.robot c.args.sought.now) c.loop.counter c.args.before
    (last_cycle robots s c.args.game.now.limit) c.loop.found (c.loop.invariant.last robots s code are here come)
    (omega (arith, most, c.loop.invariant.cycles))
    (elim (cases_eq c.loop.counter 0) [ inl none ↦ inl none | inr some ↦ inr (omega (arith, all, some)) ])
    (λ n below within. omega (arith, below, all))
