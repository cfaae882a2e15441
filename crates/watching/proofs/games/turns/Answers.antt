use Rattle.std.proofs.Common.{◌≡◌, ◌∙◌, ◌++◌, [], ap, arith, get_or, length, refl}
use Rattle.std.proofs.lemmas.List.{length-set}
use Rattle.battles.specs.Battle.{turns}
use Rattle.battles.proofs.States.{turns_none}
use Rattle.code.specs.Machine.{want_code}
use Rattle.watching.specs.Pilot.{Pilot}
use Rattle.watching.specs.Played.{codes_of}
use Rattle.watching.proofs.Playing.{codes_stay, lives_are, one_turned, robot_wants, robots_as_seats, seat_reached}
use Rattle.watching.specs.Sights.{turn_sights, turns_sights}
use Rattle.watching.proofs.Telling.{none_told, two_told, none_seen, turn_seen}
use Rattle.watching.proofs.games.turns.Goals as goal

pub loop-robot-init : goal.loop-robot-init
loop-robot-init g c = record {
  robots = refl;
  updates = refl;
  codes = refl;
  pilots = refl;
  kept = refl;
  state = λ robots s are played. rw (turns_none robots s) played;
  told = λ robots s sights are played told.
      rw (none_seen robots c.args.cycle s) (none_told (g.W.Watcher.told c.args.watcher.now) sights told);
}

pub loop-robot-preserved : goal.loop-robot-preserved
loop-robot-preserved g c = record {
  robots = c.turn.ensures.field.manned ∙ c.loop-robot.invariant.robots;
  updates = c.turn.ensures.field.updates ∙ c.loop-robot.invariant.updates;
  codes =
      codes_stay c.loop-robot.pilots c.loop-robot.robot c.index-pilots-robot.result c.turn.new.self
      c.turn.ensures.program
      ∙ c.loop-robot.invariant.codes;
  pilots = length-set c.loop-robot.pilots c.loop-robot.robot c.turn.new.self ∙ c.loop-robot.invariant.pilots;
  state = λ robots s are played.
      one_turned (codes_of c.args.pilots.now) robots c.loop-robot.pilots c.loop-robot.robot c.index-pilots-robot.result
      c.turn.new.self c.loop-robot.arena c.turn.new.arena s are c.loop-robot.invariant.codes (omega arith)
      (record {
        live = λ f stands. lives_are c.loop-robot.arena f c.loop-robot.robot stands;
        dead = λ dead.
            let same = c.turn.ensures.dead dead in (ap (λ (seat : Pilot). seat.state) same.0, same.1);
        lives = c.turn.ensures.lives;
      }) (c.loop-robot.invariant.state robots s are played);
  kept = c.turn.ensures.kept ∙ c.loop-robot.invariant.kept;
  told = λ robots s sights are played told.
      let i = c.loop-robot.robot in
      let now = turns robots i s in
      let trace = get_or now.traces i [] in
      let before = c.loop-robot.invariant.state robots s are played in
      let codes = codes_of c.args.pilots.now in
      let seats = c.loop-robot.pilots in
      let none = c.index-pilots-robot.result in
      let same = c.loop-robot.invariant.codes in
      rw (turn_seen robots c.args.cycle s i, robot_wants codes robots seats i none trace are same (omega arith))
      (two_told (g.W.Watcher.told c.turn.new.watcher) sights (turns_sights robots c.args.cycle s i)
      (turn_sights c.args.cycle i (want_code (get_or seats i none).code trace) now.field trace)
      (c.turn.ensures.told (sights ++ turns_sights robots c.args.cycle s i) now.field trace before.field
      (seat_reached codes seats c.loop-robot.arena now i none same (omega arith) before)
      (c.loop-robot.invariant.told robots s sights are played told)));
}

pub returns-clause-state : goal.returns-clause-state
returns-clause-state g c = λ robots s are played.
    let count =
    robots_as_seats (codes_of c.args.pilots.now) robots c.loop-robot.pilots are c.loop-robot.invariant.codes in
    let all : c.loop-robot.robot ≡ length robots =
    omega (arith, count, c.loop-robot.invariant.pilots, c.loop-robot-test.false, c.loop-robot.auto) in
    rw all at (c.loop-robot.invariant.state robots s are played)

pub returns-clause-told : goal.returns-clause-told
returns-clause-told g c = λ robots s sights are played told.
    let count =
    robots_as_seats (codes_of c.args.pilots.now) robots c.loop-robot.pilots are c.loop-robot.invariant.codes in
    let all : c.loop-robot.robot ≡ length robots =
    omega (arith, count, c.loop-robot.invariant.pilots, c.loop-robot-test.false, c.loop-robot.auto) in
    rw all at (c.loop-robot.invariant.told robots s sights are played told)
