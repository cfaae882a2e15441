use Rattle.std.proofs.Common.{◌≡◌, ℕ, ◌+◌, ◌<◌, List, length, sum, sym, subst, ap, ◌∙◌, arith}
use Rattle.std.proofs.lemmas.List.{length-map}
use Rattle.arena.specs.Arena.{Robot, robot_of}
use Rattle.arena.specs.Shots.{bursts}
use Rattle.arena.specs.Apart.{robot_in, IsNearby, AreApartFor}
use Rattle.arena.proofs.InPlace.{ahead_of_all}
use Rattle.arena.proofs.Calm.{calm, far_one, far_less}
use Rattle.arena.proofs.updates.move_apart_robots.Goals as goal
use Rattle.arena.proofs.updates.move_apart_robots.Goals.{then-not-has_no_burst_by, else-not-has_no_burst_by}

pub returns-clause-far : goal.returns-clause-far
returns-clause-far c =
    let P : List Robot → Type 0 = λ robots. (k : ℕ) → k < length c.args.robots.now →
    IsNearby (robot_in c.args.robots.now k).motion (robot_in robots k).motion in
    let near : P c.if-not-has_no_burst_by.robots = elim c.if-not-has_no_burst_by.branch [
      | then-not-has_no_burst_by w ↦
          subst P (sym w.robots-is)
          (λ k l. let near = c.move_all.ensures.nearby k l in
          let same = w.hurt_near_bursts.ensures.places k (omega (arith, l, c.move_all.auto.robots)) in
          record { on_x = omega (arith, near.on_x, same.on_x); on_y = omega (arith, near.on_y, same.on_y) })
      | else-not-has_no_burst_by w ↦ subst P (sym w.robots-is) c.move_all.ensures.nearby
    ] in
    far_less c.args.apart c.args.robots.now c.if-not-has_no_burst_by.robots
    (c.if-not-has_no_burst_by.auto.robots ∙ c.move_all.auto.robots) near c.requires.far

pub returns-clause-robots : goal.returns-clause-robots
returns-clause-robots c = λ f u e holds.
    let there = c.move_all.ensures.ahead f.robots e in
    let size = ap length e ∙ length-map f.robots robot_of in
    let far : AreApartFor 1 c.args.robots.now =
    far_one c.args.apart c.args.robots.now (λ z. absurd (omega (arith, z, c.requires.some))) c.requires.far in
    let untouched = calm f c.args.robots.now c.move_all.new.robots size there c.move_all.ensures.nearby far in
    elim c.if-not-has_no_burst_by.branch [
      | then-not-has_no_burst_by w ↦ w.robots-is ∙ w.hurt_near_bursts.ensures.robots f u there holds untouched
      | else-not-has_no_burst_by w ↦
          let none : (x y : ℕ) → sum (bursts (f.updates + 1) f.shots x y) ≡ 0 =
          λ x y. subst (λ n. sum (bursts n f.shots x y) ≡ 0) u
          (c.has_no_burst_by.ensures w.if-not-has_no_burst_by.false f.updates f.shots x y u holds) in
          w.robots-is ∙ there ∙ ahead_of_all f untouched none
    ]
