use Rattle.std.proofs.Common.{length, ◌∙◌, arith}
use Rattle.battles.specs.Battle.{first_state}
use Rattle.watching.specs.Played.{codes_of}
use Rattle.watching.proofs.Playing.{seats_length}
use Rattle.watching.proofs.Moments.{moment_is}
use Rattle.watching.proofs.moment.moment_at.Goals as goal

pub returns-clause-moment : goal.returns-clause-moment
returns-clause-moment c = λ robots are.
    let s = first_state (length robots) c.args.seed c.args.number in
    let codes = codes_of c.args.pilots.now in
    let same = c.play_to-last.ensures.codes ∙ c.new-game.ensures.codes in
    let played =
    (rw c.new-game.ensures.codes at (c.play_to-last.ensures.battle robots s)) are
    (c.new-game.ensures.battle robots are) in
    moment_is codes robots s c.args.limit c.args.robot c.args.cycle c.play_to-last.new.pilots
    c.index-pilots-robot.result c.play_to-last.new.game c.play_to-last.result c.seen.result are same
    (omega (arith, c.requires.inside, seats_length c.args.pilots.now c.play_to-last.new.pilots same))
    (rw c.new-game.ensures.limit at played) c.seen.ensures
