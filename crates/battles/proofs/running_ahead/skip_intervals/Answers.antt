use Rattle.std.proofs.Common.{◌≡◌, length, ap, ◌∙◌, arith}
use Rattle.battles.specs.Battle.{BattleState}
use Rattle.arena.specs.Field.{live_count}
use Rattle.arena.specs.Arena.{Arena}
use Rattle.battles.proofs.Skipping.{skips, skips_alive, skips_none}
use Rattle.battles.proofs.running_ahead.skip_intervals.Goals as goal

pub returns-then-not-updates_only_count-clause-state : goal.returns-then-not-updates_only_count-clause-state
returns-then-not-updates_only_count-clause-state c = λ exes robots s are reached. record {
  reached = rw (skips_none robots s) reached;
  alive = λ n within.
      let none : n ≡ 0 = omega arith in
      rw none (ap (λ (t : BattleState). live_count t.field) (skips_none robots s));
}

pub returns-clause-state : goal.returns-clause-state
returns-clause-state c = λ exes robots s are reached. record {
  reached = rw c.update_times.ensures.value
      (skips exes robots c.args.runners.now c.advance_all.new.runners c.args.arena.now s
      c.intervals_ahead-intervals.result are
      reached
      (c.updates_only_count.ensures c.if-not-updates_only_count.false) c.intervals_ahead-intervals.ensures.ahead
      (c.advance_all.ensures.state exes robots s are reached));
  alive = λ n within.
      skips_alive exes robots c.args.runners.now c.args.arena.now s c.intervals_ahead-intervals.result n are reached
      (c.updates_only_count.ensures c.if-not-updates_only_count.false) c.intervals_ahead-intervals.ensures.ahead within;
}

pub returns-clause-manned : goal.returns-clause-manned
returns-clause-manned c = λ exes manned. record {
  few = manned.few;
  fits = c.advance_all.ensures.fits exes manned.fits;
  robots = ap (λ (g : Arena). length g.robots) c.update_times.ensures.value ∙ manned.robots;
}
