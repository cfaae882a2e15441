use Rattle.std.proofs.Common.{refl}
use Rattle.watching.specs.Played.{codes_of}
use Rattle.watching.proofs.Happening.{happens_so}
use Rattle.watching.proofs.sought.happens.Goals as goal

pub returns-clause-battle : goal.returns-clause-battle
returns-clause-battle c = λ robots s are come.
    c.end_cycle.ensures.battle (codes_of c.args.pilots.now) robots s c.take_turns.new.pilots
    (c.take_turns.ensures.turns.battle robots s are come)

pub returns-clause-yes : goal.returns-clause-yes
returns-clause-yes c = λ robots s code are here come yes.
    let codes = codes_of c.args.pilots.now in
    let took = c.take_turns.ensures.turns.battle robots s are come in
    (happens_so codes robots s c.args.pilots.now c.take_turns.new.pilots c.args.robot c.index-pilots-robot.result
    c.index-pilots-robot-2.result c.args.game.now c.take_turns.new.self c.end_cycle.new.self code c.args.sought.now
    c.look-before.result c.look-after.result c.hits_after_turns-is_hit.result are refl c.take_turns.ensures.turns.codes
    c.requires.inside come took (c.end_cycle.ensures.battle codes robots s c.take_turns.new.pilots took)
    c.take_turns.ensures.turns.ending c.end_cycle.ensures.next.cycles here c.look-before.ensures c.look-after.ensures
    c.hits_after_turns-is_hit.ensures).0 (c.seems.ensures.yes yes)

pub returns-clause-no : goal.returns-clause-no
returns-clause-no c = λ robots s code are here come happens.
    let codes = codes_of c.args.pilots.now in
    let took = c.take_turns.ensures.turns.battle robots s are come in
    let seems = (happens_so codes robots s c.args.pilots.now c.take_turns.new.pilots c.args.robot
    c.index-pilots-robot.result c.index-pilots-robot-2.result c.args.game.now c.take_turns.new.self
    c.end_cycle.new.self code c.args.sought.now c.look-before.result c.look-after.result
    c.hits_after_turns-is_hit.result are refl c.take_turns.ensures.turns.codes c.requires.inside come took
    (c.end_cycle.ensures.battle codes robots s c.take_turns.new.pilots took) c.take_turns.ensures.turns.ending
    c.end_cycle.ensures.next.cycles here c.look-before.ensures c.look-after.ensures
    c.hits_after_turns-is_hit.ensures).1 happens in c.seems.ensures.no seems.0 seems.1
