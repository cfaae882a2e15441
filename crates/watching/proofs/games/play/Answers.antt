use Rattle.std.proofs.Common.{◌≡◌, ◌∙◌, ◌++◌, ◌∷◌, [], length, arith}
use Rattle.battles.specs.Battle.{battle, first_state}
use Rattle.battles.proofs.Cycles.{state_none}
use Rattle.watching.specs.Sights.{Begins}
use Rattle.watching.proofs.games.play.Goals as goal

pub returns-clause-battle : goal.returns-clause-battle
unfolding battle
returns-clause-battle g c = λ robots are.
    let come =
    (rw c.new-game.ensures.codes at
    (c.play_on.ensures.battle robots (first_state (length robots) c.args.seed c.args.number)))
    are (c.new-game.ensures.battle robots are) in
    let limit : c.play_on.new.game.limit ≡ c.args.limit = c.play_on.ensures.limit ∙ c.new-game.ensures.limit in
    rw c.ending.ensures.ending (rw limit at come.ends)

pub returns-clause-limit : goal.returns-clause-limit
returns-clause-limit g c =
    omega (arith, c.ending.ensures.limit, c.play_on.ensures.limit, c.new-game.ensures.limit)

pub returns-clause-told : goal.returns-clause-told
returns-clause-told g c = λ robots sights are told.
    let opening = first_state (length robots) c.args.seed c.args.number in
    let come = c.new-game.ensures.battle robots are in
    let stands = rw (c.new-game.ensures.begins, state_none robots opening) at come.played.field in
    rw c.ending.ensures.ending
    ((rw c.new-game.ensures.codes at (c.play_on.ensures.told robots opening (sights ++ Begins opening.field ∷ []))) are
    come (c.begins.ensures.told sights opening.field (rw c.arena.ensures stands) told))
