use Rattle.std.proofs.Common.{rules, ◌∙◌, ◌++◌, ◌∷◌, [], FitsSigned, sym, w32}
use Rattle.std.proofs.lemmas.Int.{to_z-of_z}
use Rattle.arena.specs.Answer.{answer}
use Rattle.code.specs.Machine.{want_code}
use Rattle.code.specs.declared.want.Want.TheVariants.{Ask, Quiet, Restart}
use Rattle.watching.specs.Pilot.{Pilot}
use Rattle.watching.specs.Sights.{Runs}
use Rattle.watching.proofs.Telling.{live_told, none_told, pilot_wants, sights_dead}
use Rattle.watching.proofs.pilot.Pilot.turn.Goals as goal

pub returns-then-not-alive-clause-told : goal.returns-then-not-alive-clause-told
returns-then-not-alive-clause-told g c = λ sights f trace stands at told.
    let turn = c.args.turn in
    rw (sights_dead turn.cycle turn.robot (want_code c.args.self.now.code trace) f trace
    (sym (c.alive.ensures.stands f stands) ∙ c.if-not-alive.true))
    (none_told (g.W.Watcher.told c.args.watcher.now) sights told)

pub returns-in-Quiet-clause-told : goal.returns-in-Quiet-clause-told
returns-in-Quiet-clause-told g c = λ sights f trace stands at told.
    let turn = c.args.turn in
    let here : Pilot = record { code = c.self.inside.program.now; state = c.self.inside.machine } in
    let wants = pilot_wants here c.args.self.now Quiet trace c.self.view_is c.in-Quiet.ensures.code at
    in
    live_told (g.W.Watcher.told c.turn.new.self) sights turn.cycle turn.robot Quiet
    (want_code c.args.self.now.code trace) f trace (sym (c.alive.ensures.stands f stands) ∙ c.if-not-alive.false) wants
    (none_told (g.W.Watcher.told c.turn.new.self) (sights ++ Runs turn.cycle turn.robot trace ∷ [])
    (c.turn.ensures.told sights trace at told))

pub returns-in-Restart-clause-told : goal.returns-in-Restart-clause-told
returns-in-Restart-clause-told g c = λ sights f trace stands at told.
    let turn = c.args.turn in
    let here : Pilot = record { code = c.self.inside.program.now; state = c.self.inside.machine } in
    let wants = pilot_wants here c.args.self.now Restart trace c.self.view_is
    c.in-Restart.ensures.code at in
    live_told (g.W.Watcher.told c.restart.new.watcher) sights turn.cycle turn.robot Restart
    (want_code c.args.self.now.code trace) f trace (sym (c.alive.ensures.stands f stands) ∙ c.if-not-alive.false) wants
    (c.restart.ensures.told (sights ++ Runs turn.cycle turn.robot trace ∷ [])
    (c.turn.ensures.told sights trace at told))

pub returns-in-Ask-clause-told : goal.returns-in-Ask-clause-told
returns-in-Ask-clause-told g c = λ sights f trace stands at told.
    let turn = c.args.turn in
    let fits : FitsSigned w32 c.ask-reply.result = search rules in
    let asks = Ask c.in-Ask.intrinsic c.in-Ask.arguments in
    let here : Pilot = record { code = c.self.inside.program.now; state = c.self.inside.machine } in
    let wants = pilot_wants here c.args.self.now asks trace c.self.view_is c.in-Ask.ensures.code at in
    live_told (g.W.Watcher.told c.asked.new.self) sights turn.cycle turn.robot asks
    (want_code c.args.self.now.code trace) f trace (sym (c.alive.ensures.stands f stands) ∙ c.if-not-alive.false) wants
    (rw (← c.ask-reply.ensures.reply f stands)
    (rw (to_z-of_z w32 c.ask-reply.result fits) at
    (c.asked.ensures.told (sights ++ Runs turn.cycle turn.robot trace ∷ [])
    (answer f turn.robot c.in-Ask.intrinsic c.in-Ask.arguments).1 (c.ask-reply.ensures.stands f stands)
    (c.turn.ensures.told sights trace at told))))
