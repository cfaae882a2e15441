use Rattle.std.proofs.Common.{rules, ◌∙◌, ◌++◌, ◌∷◌, [], pos, ap, ap₂, arith, FitsSigned, w32, get_or, map}
use Rattle.std.proofs.lemmas.Int.{to_z-of_z}
use Rattle.arena.specs.Field as field
use Rattle.arena.specs.Leg.{place_x, place_y}
use Rattle.watching.specs.declared.events.Field.TheVariants.{Number}
use Rattle.watching.proofs.Hearing.{both, fired_heard, four, is_nothing, is_something, refused_heard}
use Rattle.watching.proofs.cameras.Camera.shoot.Goals.{then-reply-eq0, else-reply-eq0}
use Rattle.watching.proofs.cameras.Camera.shoot.Goals as goal

pub returns-clause-heard : goal.returns-clause-heard
returns-clause-heard g c = λ events f stands heard.
    let arguments = c.args.arguments in
    let first : FitsSigned w32 (get_or arguments 0 (pos 0)) = search rules in
    let second : FitsSigned w32 (get_or arguments 1 (pos 0)) = search rules in
    let given = both arguments (search rules) in
    let event = c.if-reply-eq0.event in
    let leg = (field.robot_at f c.args.robot).leg in
    let told = c.tell.ensures.heard events heard in
    elim c.if-reply-eq0.branch [
      | then-reply-eq0 w ↦
          rw (
          ← refused_heard c.args.cycle c.args.robot event arguments c.args.reply f
          (is_nothing c.args.reply c.ranges.reply w.if-reply-eq0.true)
          (ap (λ (e : _). e.kind.now) w.event-is ∙ w.of_numbers-event.ensures.kind)
          (ap (λ (e : _). e.fields.items) w.event-is
          ∙ w.of_numbers-event.ensures.fields (omega arith)
          ∙ ap₂ (λ a b. Number a ∷ Number b ∷ []) (to_z-of_z w32 _ first) (to_z-of_z w32 _ second)
          ∙ ap (map Number) given)
          ) told
      | else-reply-eq0 w ↦
          rw (
          ← fired_heard c.args.cycle c.args.robot event arguments c.args.reply f
          (is_something c.args.reply w.if-reply-eq0.false)
          (ap (λ (e : _). e.kind.now) w.event-is ∙ w.of_numbers-event-else-reply-eq0.ensures.kind)
          (ap (λ (e : _). e.fields.items) w.event-is
          ∙ w.of_numbers-event-else-reply-eq0.ensures.fields (omega arith)
          ∙ four (to_z-of_z w32 _ first) (to_z-of_z w32 _ second)
          (to_z-of_z w32 w.from.result (search rules) ∙ w.from.ensures ∙ ap pos (w.place-x.ensures.x f stands))
          (to_z-of_z w32 w.from-else-reply-eq0.result (search rules)
          ∙ w.from-else-reply-eq0.ensures
          ∙ ap pos (w.place-x.ensures.y f stands))
          ∙ ap (λ l. map Number (l ++ pos (place_x leg) ∷ pos (place_y leg) ∷ [])) given)
          ) told
    ]
