use Rattle.std.proofs.Common.{◌∙◌, ap, refl, w32}
use Rattle.std.proofs.lemmas.Int.{to_z-of_z}
use Rattle.code.specs.Machine.{Machine}
use Rattle.watching.specs.Played.{codes_of}
use Rattle.watching.specs.declared.games.PlayEnd.{PlayEnd}
use Rattle.watching.specs.Moments.{asked_in, last_of}
use Rattle.watching.proofs.Asking.{question_is, wanted_is}
use Rattle.watching.proofs.asked.go_on.Goals as goal

pub returns-clause-asks : goal.returns-clause-asks
returns-clause-asks c = λ robots s are come.
    let codes = codes_of c.args.pilots.now in
    let came = c.cycle.ensures.battle robots s are come in
    let is =
    wanted_is codes robots c.args.pilots.now c.args.game.now.arena s c.args.robot c.index-pilots-robot.result
    c.wanted-wanted.result are refl c.requires.inside c.args.game.now come refl c.wanted-wanted.ensures in
    c.asked_in.ensures
    ∙ ap (asked_in c.wanted-wanted.result c.ending.result.cycles)
    (to_z-of_z w32 c.top_word.result (record { sfits = c.top_word.type_inv }))
    ∙ ap (λ (ending : PlayEnd). asked_in c.wanted-wanted.result ending.cycles c.top_word.result)
    c.ending.ensures.ending
    ∙ ap (asked_in c.wanted-wanted.result c.cycle.new.self.ending.cycles)
    (c.top_word.ensures ∙ ap (λ (t : Machine). last_of t.words) c.machine.ensures.state)
    ∙ question_is codes robots s c.args.pilots.now c.cycle.new.pilots c.args.robot c.index-pilots-robot.result
    c.index-pilots-robot-2.result c.wanted-wanted.result c.args.game.now c.cycle.new.self are refl c.cycle.ensures.codes
    c.requires.inside come came c.cycle.ensures.next.cycles is
