use Rattle.std.proofs.Common.{◌≡◌, ℕ, List, ap, ◌∙◌, arith}
use Rattle.std.specs.Prelude.{nat_lt, nat_le, not}
use Rattle.std.proofs.lemmas.Bool.Decides.{nat_tests}
use Rattle.battles.specs.Battle.{Behaviour, BattleState}
use Rattle.battles.specs.Carrying.{AreRobotsOf, HasReached}
use Rattle.battles.proofs.Cycles.{updated_reached}
use Rattle.battles.proofs.Manned.{have_field_robots}
use Rattle.battles.specs.Intervals.{cycles_without_updates, period}
use Rattle.battles.proofs.scheduler.play_period.Goals as goal
use Rattle.battles.proofs.scheduler.play_period.Goals.{then-not-advance_if_ahead, else-not-advance_if_ahead}

pub advance_if_ahead-requires : goal.advance_if_ahead-requires
advance_if_ahead-requires c =
    have_field_robots c.args.executables.now c.args.runners.now c.args.arena.now c.requires.manned

-- no two are at most one
not_two : (n : ℕ) → not (nat_lt 1 n) ≡ nat_le n 1
not_two n = grind (arith, nat_tests)

-- the cycles up to the update
turned : (c : goal.After-has_two_live) (robots : List Behaviour) (s : BattleState) →
    AreRobotsOf c.args.executables.now robots
    → HasReached c.args.runners.now c.args.executables.now c.args.arena.now s
    →
    HasReached c.if-not-advance_if_ahead.runners c.args.executables.now c.if-not-advance_if_ahead.arena
    (cycles_without_updates robots 15 s)
turned c robots s are reached = elim c.if-not-advance_if_ahead.branch [
  | then-not-advance_if_ahead w ↦
      rw (w.runners-is, w.arena-is)
      (w.play_interval.ensures.state robots s are
      (rw (c.advance_if_ahead.ensures.stays w.if-not-advance_if_ahead.true) reached))
  | else-not-advance_if_ahead w ↦
      rw (w.runners-is, w.arena-is)
      (c.advance_if_ahead.ensures.state w.if-not-advance_if_ahead.false c.args.executables.now robots s are reached)
]

pub returns-clause-state : goal.returns-clause-state
unfolding period
returns-clause-state c = λ robots s are reached.
    let now = turned c robots s are reached in
    record {
      reached = updated_reached _ c.args.executables.now _ _ (cycles_without_updates robots 15 s) now
          (c.update.ensures.stands _ now.field);
      decided = ap not (c.has_two_live.ensures _ (c.update.ensures.stands _ now.field)) ∙ not_two _;
    }
