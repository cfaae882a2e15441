use Rattle.std.proofs.Common.{◌≡◌, ◌<◌, ◌≤◌, ◌+◌, ◌/◌, ◌*◌, List, sym, ap, ◌∙◌, arith}
use Rattle.std.specs.Prelude.{nat_le}
use Rattle.arena.specs.Field.{live_count}
use Rattle.battles.specs.Battle.{Behaviour, BattleState, state_after}
use Rattle.battles.specs.Carrying.{AreRobotsOf, HasReached}
use Rattle.battles.proofs.Cycles.{state_none, first_begins}
use Rattle.battles.proofs.Spans.{state_segment, state_segments, state_rest, first_decided, first_undecided, first_skipped, first_limit}
use Rattle.battles.proofs.Manned.{have_field_robots}
use Rattle.battles.proofs.scheduler.play_cycles.Goals as goal

pub loop-number-init : goal.loop-number-init
loop-number-init c = record {
  within = omega arith;
  manned = c.requires.manned;
  updates = c.requires.updates;
  state = λ robots s are reached. rw state_none reached;
  cycles = λ robots s are reached. first_begins robots s c.args.limit;
}

pub returns-then-play_period-clause-state : goal.returns-then-play_period-clause-state
returns-then-play_period-clause-state c = λ robots s are reached.
    rw (state_segment robots s c.loop-number.number)
    (c.play_period.ensures.state robots _ are (c.loop-number.invariant.state robots s are reached)).reached

pub returns-then-play_period-clause-cycles : goal.returns-then-play_period-clause-cycles
returns-then-play_period-clause-cycles c = λ robots s are reached.
    let within : c.loop-number.number < c.args.limit / 15 = c.loop-number-test.true in
    let now = c.loop-number.invariant.state robots s are reached in
    first_decided robots s c.loop-number.number c.args.limit _ (omega arith)
    (c.loop-number.invariant.cycles robots s are reached)
    (sym (c.if-play_period.ensures.state robots _ are now).decided)

pub skip_intervals-number-requires-clause-field_robots : goal.skip_intervals-number-requires-clause-field_robots
skip_intervals-number-requires-clause-field_robots c =
    have_field_robots c.args.executables.now c.play_period.new.runners c.play_period.new.arena
    c.play_period.ensures.manned

pub loop-number-preserved : goal.loop-number-preserved
loop-number-preserved c =
    let within : c.loop-number.number < c.args.limit / 15 = c.loop-number-test.true in
    let exes = c.args.executables.now in
    let n = c.loop-number.number in
    let k = c.skip_intervals-number.result in
    let most : n + 1 + k ≤ c.args.limit / 15 = omega (arith, c.skip_intervals-number.ensures.most) in
    let segmented : (robots : List Behaviour) (s : BattleState) → AreRobotsOf exes robots →
    HasReached c.args.runners.now exes c.args.arena.now s
    → HasReached c.play_period.new.runners exes c.play_period.new.arena (state_after robots s (15 * (n + 1))) =
    λ robots s are reached.
    rw (state_segment robots s n)
    (c.play_period.ensures.state robots _ are (c.loop-number.invariant.state robots s are reached)).reached in
    record {
      within = most;
      manned = c.skip_intervals-number.ensures.manned exes c.play_period.ensures.manned;
      updates = omega (
        arith,
        c.skip_intervals-number.ensures.updates,
        c.play_period.ensures.updates,
        c.loop-number.invariant.updates,
      );
      state = λ robots s are reached.
          rw (state_segments robots s (n + 1) k)
          (c.skip_intervals-number.ensures.state exes robots _ are (segmented robots s are reached)).reached;
      cycles = λ robots s are reached.
          let now = c.loop-number.invariant.state robots s are reached in
          let undecided = sym (c.if-play_period.ensures.state robots _ are now).decided in
          let next =
          first_undecided robots s n c.args.limit _ (omega arith)
          (c.loop-number.invariant.cycles robots s are reached) undecided in
          let few = λ (t : BattleState). nat_le (live_count t.field) 1 in
          first_skipped robots s (n + 1) k c.args.limit _ (omega arith) next
          (λ j low. ap (λ count. nat_le count 1)
          ((c.skip_intervals-number.ensures.state exes robots _ are (segmented robots s are reached)).alive j low)
          ∙ ap few (state_segment robots s n) ∙ undecided);
    }

pub returns-clause-state : goal.returns-clause-state
returns-clause-state c = λ robots s are reached.
    let all : c.loop-number.number ≡ c.args.limit / 15 = omega arith in
    rw (state_rest robots s c.loop-number.number c.args.limit all)
    (c.play_interval.ensures.state robots _ are (c.loop-number.invariant.state robots s are reached))

pub returns-clause-cycles : goal.returns-clause-cycles
returns-clause-cycles c = λ robots s are reached.
    let all : c.loop-number.number ≡ c.args.limit / 15 = omega arith in
    first_limit robots s (15 * c.loop-number.number) c.args.limit _ (omega arith) (omega arith) (omega arith)
    (c.loop-number.invariant.cycles robots s are reached)
