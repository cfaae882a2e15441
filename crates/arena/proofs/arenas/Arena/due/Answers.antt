use Rattle.std.proofs.Common.{◌≡◌, ◌+◌, List, length, sym, ap, subst, ◌∙◌}
use Rattle.std.specs.List.{flat_map, range_with_len}
use Rattle.arena.specs.Arena.{Missile}
use Rattle.arena.specs.Representing.{HoldsShots}
use Rattle.arena.specs.Outlook.{own_bursts, due}
use Rattle.arena.proofs.Represents.{manned}
use Rattle.arena.proofs.arenas.Arena.due.Goals as goal

pub returns : goal.returns
unfolding due
returns c = λ f s.
    let slots = c.missiles.result.now in
    let held : HoldsShots f.updates slots f.shots =
    subst (λ (slots : List (List Missile)). HoldsShots f.updates slots f.shots) (sym c.missiles.ensures.value)
    s.missiles in
    let update : c.next_update.result ≡ f.updates + 1 = c.next_update.ensures ∙ ap (λ n. n + 1) s.updates in
    let count : length slots ≡ length f.robots = c.missiles.ensures.count ∙ manned c.args.self.now f s in
    c.bursts.ensures.bursts f.updates f.shots held ∙
    ap (λ u. flat_map (own_bursts u f.updates f.shots) (range_with_len 0 (length slots))) update
    ∙ ap (λ n. flat_map (own_bursts (f.updates + 1) f.updates f.shots) (range_with_len 0 n)) count
