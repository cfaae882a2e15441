use Rattle.std.proofs.Common.{rules, ◌≡◌, ◌∙◌, ◌++◌, ◌∷◌, [], pos, true, false, sym, ap, arith, FitsSigned, w32, get_or, map}
use Rattle.std.specs.Prelude.{◌&&◌}
use Rattle.std.proofs.lemmas.Bool.{and_left, and_right}
use Rattle.std.proofs.lemmas.Int.{to_z-of_z}
use Rattle.watching.specs.declared.events.Field.TheVariants.{Number}
use Rattle.watching.specs.Heard.{is_first_scan}
use Rattle.watching.proofs.Hearing.{both, not_noted, noted_of, scan_told, silent, three}
use Rattle.watching.proofs.cameras.Camera.scan.Goals.{else-scan-via-then-scan+else-follows, else-scan-via-else-scan}
use Rattle.watching.proofs.cameras.Camera.scan.Goals as goal

pub returns-in_default-clause-heard : goal.returns-in_default-clause-heard
returns-in_default-clause-heard g c = λ events heard.
    let none = not_noted c.args.self.now.seen c.args.robot (search (rules, c.in_default.ensures.lookup)) in
    silent (g.R.Listener.heard c.args.self.now.rows) events c.args.cycle c.args.robot c.args.arguments c.args.reply _
    (and_left _ (g.R.Listener.shows c.args.self.now.rows c.args.cycle c.args.robot) none) heard

pub returns-then-follows-clause-heard : goal.returns-then-follows-clause-heard
returns-then-follows-clause-heard g c = λ events heard.
    let arguments = c.args.arguments in
    let first : FitsSigned w32 (get_or arguments 0 (pos 0)) = search rules in
    let second : FitsSigned w32 (get_or arguments 1 (pos 0)) = search rules in
    let given = both arguments (search rules) in
    let noted =
    noted_of c.args.self.now.seen c.args.robot c.in-Some.seen.now (search (rules, c.in-Some.ensures.lookup))
    (search (rules, c.in-Some.ensures.lookup)) in
    let new : is_first_scan c.args.self.now.seen c.args.robot ≡ true =
    noted ∙ sym c.scan.ensures.first ∙ c.if-scan.true in
    let shown : g.R.Listener.shows c.args.self.now.rows c.args.cycle c.args.robot ≡ true =
    sym c.follows.ensures ∙ c.if-follows.true in
    rw (
      new,
      shown,
      ← scan_told c.args.cycle c.args.robot c.of_numbers-event.result arguments c.args.reply
          c.of_numbers-event.ensures.kind
          (c.of_numbers-event.ensures.fields (omega arith)
          ∙ three (to_z-of_z w32 _ first) (to_z-of_z w32 _ second) (to_z-of_z w32 _ c.ranges.reply)
          ∙ ap (λ l. map Number (l ++ c.args.reply ∷ [])) given),
    ) (c.tell.ensures.heard events heard)

pub returns-else-scan-clause-heard : goal.returns-else-scan-clause-heard
returns-else-scan-clause-heard g c = λ events heard.
    let noted =
    noted_of c.args.self.now.seen c.args.robot c.in-Some.seen.now (search (rules, c.in-Some.ensures.lookup))
    (search (rules, c.in-Some.ensures.lookup)) in
    silent (g.R.Listener.heard c.args.self.now.rows) events c.args.cycle c.args.robot c.args.arguments c.args.reply _
    (elim c.else-scan.branch [
      | else-scan-via-then-scan+else-follows w ↦
          and_right (is_first_scan c.args.self.now.seen c.args.robot) _ (sym w.follows.ensures ∙ w.if-follows.false)
      | else-scan-via-else-scan w ↦ and_left _ _ (noted ∙ sym c.scan.ensures.first ∙ w.if-scan.false)
    ]) heard
