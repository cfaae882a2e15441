use Rattle.std.proofs.Common.{ℕ, ◌<◌, ap, length, subst, sym, ◌∙◌}
use Rattle.std.specs.List.{All}
use Rattle.arena.proofs.Represents.{manned}
use Rattle.arena.proofs.AddsUp.{adds_up}
use Rattle.arena.proofs.laws.damage_adds_up.Goals as goal

pub returns : goal.returns
returns c = λ f s.
    let count = ap length (sym c.missiles-missiles.ensures.value) ∙ c.missiles-missiles.ensures.count in
    adds_up f
    (subst (λ (n : ℕ). All (λ s. s.owner < n) f.shots) (count ∙ manned c.args.arena.now f s) s.missiles.owned)
