use Rattle.std.proofs.Common.{◌≡◌, length, sym, ◌∙◌}
use Rattle.battles.specs.Battle.{first_state}
use Rattle.battles.specs.Carrying.{AreRobotsOf, HasReached}
use Rattle.battles.specs.Pairing.{robots_of}
use Rattle.battles.proofs.Beginnings.{robots_are, opening_reached, battle_is}
use Rattle.battles.proofs.States.{robots_length}
use Rattle.battles.proofs.battles.battle.Goals as goal

pub returns-clause-battle : goal.returns-clause-battle
returns-clause-battle c = λ p files are.
    let robots = robots_of p files in
    let exes = c.new-executables.result in
    let each : AreRobotsOf exes robots =
    robots_are exes c.args.programs.now p files c.new-executables.ensures are in
    let reached : HasReached c.begin_runners.new.runners exes c.new-arena.result
    (first_state (length robots) c.args.seed c.args.number) =
    opening_reached c.begin_runners.new.runners exes c.new-arena.result robots _ c.args.seed c.args.number each
    c.len-robots.ensures.robots (rw c.from.ensures at c.new-arena.ensures.stands) c.begin_runners.ensures.begins in
    let ended = c.play_cycles-cycles.ensures.state robots _ each reached in
    let all : c.len-robots.result ≡ length robots =
    c.len-robots.ensures.robots ∙ sym (robots_length exes robots each) in
    c.new.ensures
    ∙
    battle_is robots c.args.seed c.args.number c.args.limit _ _
    (c.play_cycles-cycles.ensures.cycles robots _ each reached)
    (rw all at (c.damages.ensures.damages _ ended.field))
