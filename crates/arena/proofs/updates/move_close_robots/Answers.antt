use Rattle.std.proofs.Common.{◌≡◌, ℕ, ◌+◌, ◌<◌, List, length, sum, subst, ◌∙◌, arith}
use Rattle.std.proofs.lemmas.List.{length-map}
use Rattle.arena.specs.Collisions.{AttemptedMove, attempted_move, collision_count}
use Rattle.arena.specs.Shots.{bursts}
use Rattle.arena.proofs.InPlace.{ahead_of_all}
use Rattle.arena.proofs.updates.move_close_robots.Goals as goal

pub returns-then-not-any_are_close : goal.returns-then-not-any_are_close
returns-then-not-any_are_close c = λ f u e holds.
    let movers = c.as_slice.ensures.value ∙ c.move_all_with_attempts-movers.ensures.movers f.robots e in
    let touched =
    subst (λ (ms : List AttemptedMove). (i : ℕ) → i < length ms → collision_count ms i ≡ 0) movers
    (c.any_are_close.ensures c.if-not-any_are_close.true) in
    let none : (x y : ℕ) → sum (bursts (f.updates + 1) f.shots x y) ≡ 0 =
    λ x y. subst (λ n. sum (bursts n f.shots x y) ≡ 0) u
    (c.has_no_burst_by.ensures c.if-has_no_burst_by.true f.updates f.shots x y u holds) in
    c.move_all_with_attempts-movers.ensures.ahead f.robots e ∙
    ahead_of_all f (λ i l. touched i (omega (arith, l, length-map f.robots attempted_move))) none
