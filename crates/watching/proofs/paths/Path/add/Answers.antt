use Rattle.std.proofs.Common.{◌≡◌, ◌∙◌, ap, subst, sym, arith, refl, length, List}
use Rattle.std.proofs.lemmas.Bool.{eqb-true}
use Rattle.watching.specs.Path.{Path, Keeps}
use Rattle.watching.specs.declared.places.Place.{Place}
use Rattle.watching.specs.contracts.paths.Path.{the_view}
use Rattle.watching.proofs.Keeping.{keeps_skipped, keeps_pushed, keeps_thinned}
use Rattle.watching.proofs.paths.Path.add.Goals as goal
use Rattle.watching.proofs.paths.Path.add.Goals.{then-is_full+else-self, else-is_full}

along : (t u : Path) (places : List Place) → t ≡ u → Keeps t places → Keeps u places
along t u places e keeps = subst (λ v. Keeps v places) e keeps

pub returns-then-self-gt0 : goal.returns-then-self-gt0
returns-then-self-gt0 c = λ places small keeps.
    let now = along c.args.self.now (the_view c.self.inside) places (sym c.self.view_is) keeps in
    keeps_skipped (the_view c.self.inside) _ places c.args.place now c.self.invariant.1 refl refl
    (omega (arith, c.if-self-gt0.true))

pub returns : goal.returns
returns c = λ places small keeps.
    let none : c.self.inside.skip ≡ 0 = omega (arith, c.if-self-gt0.false) in
    let due : c.args.self.now.skip ≡ 0 = ap (λ (t : Path). t.skip) (sym c.self.view_is) ∙ none in
    let before : Keeps c.if-is_full.self places × (c.if-is_full.self.skip ≡ 0) = elim c.if-is_full.branch [
      | then-is_full+else-self w ↦
          let most : length c.self.inside.places.items ≡ 2000 =
          eqb-true (length c.self.inside.places.items) 2000 (sym c.is_full.ensures.value ∙ w.if-is_full.true) in
          let full : length c.args.self.now.places ≡ 2000 =
          ap (λ (t : Path). length t.places) (sym c.self.view_is) ∙ most in
          let undue : w.thin.new.self.skip ≡ 0 = w.thin.ensures.skip ∙ due in
          let thinned =
          keeps_thinned c.args.self.now w.thin.new.self places keeps due undue full w.thin.ensures.each
          w.thin.ensures.half w.thin.ensures.stride in (
            along w.thin.new.self c.if-is_full.self places (sym w.self-is) thinned,
            ap (λ (t : Path). t.skip) w.self-is ∙ undue,
          )
      | else-is_full w ↦ (
        along c.args.self.now c.if-is_full.self places (sym w.self-is) keeps,
        ap (λ (t : Path). t.skip) w.self-is ∙ due,
      )
    ] in
    let view = along c.if-is_full.self (the_view c.self-2.inside) places (sym c.self-2.view_is) before.0 in
    let still : c.self-2.inside.skip ≡ 0 = ap (λ (t : Path). t.skip) c.self-2.view_is ∙ before.1 in
    keeps_pushed (the_view c.self-2.inside) _ places c.args.place view still (omega (arith, c.self-2.invariant.1))
    c.push.ensures.items refl (omega (arith, c.self-2.invariant.1))
