use Rattle.std.proofs.Common.{◌≡◌, ◌+◌, List, sym, ap, subst, ◌∙◌, refl, length, arith}
use Rattle.arena.specs.Arena.{Robot, Missile, Arena}
use Rattle.arena.specs.Representing.{HoldsShots, RepresentsField}
use Rattle.arena.specs.contracts.arenas.Arena.{the_view}
use Rattle.arena.specs.Still.{IsStill}
use Rattle.arena.proofs.Represents.{refill_is, updates}
use Rattle.arena.proofs.Still.{only_counts}
use Rattle.arena.proofs.arenas.Arena.update.Goals as goal

still : {robots bodies : List Robot} {slots held : List (List Missile)} → robots ≡ bodies → slots ≡ held →
    IsStill robots slots → IsStill bodies held
still e f s = rw (sym e, sym f) s

pub returns-then-self-clause-stands : goal.returns-then-self-clause-stands
returns-then-self-clause-stands c = λ f s.
    let now : RepresentsField (the_view c.self.inside) f = rw c.self.view_is s in
    only_counts (the_view c.self.inside) f now (c.self.invariant.4 c.if-self.true)

pub invariant_of-self-2 : goal.invariant_of-self-2
invariant_of-self-2 c =
    let i = c.self.invariant in
    let len = c.move_robots-self-inside.auto.robots ∙ ap length c.as_mut_slice.ensures.value in
    let refilled = refill_is c.self.inside.robots.items c.move_robots-self-inside.new.robots len in
    rw refilled (
      omega (arith, ap (λ (g : Arena). g.updates) c.self.view_is),
      c.land.ensures.count ∙ i.1 ∙ sym len,
      omega (arith, len, i.2),
      c.land.ensures.two i.3,
      λ e. still (c.as_slice.ensures.value ∙ refilled) refl (c.only_counts-self-inside.ensures e),
      c.move_robots-self-inside.ensures.far,
    )

pub returns-clause-stands : goal.returns-clause-stands
returns-clause-stands c = λ f s.
    let now : RepresentsField (the_view c.self.inside) f = rw c.self.view_is s in
    let next = ap (λ n. n + 1) now.updates in
    let len = c.move_robots-self-inside.auto.robots ∙ ap length c.as_mut_slice.ensures.value in
    let robots =
    c.move_robots-self-inside.ensures.robots f next (c.as_mut_slice.ensures.value ∙ now.robots) now.missiles in
    let missiles = c.land.ensures.shots f.updates f.shots next now.missiles in
    let held : HoldsShots (f.updates + 1) c.land.new.self f.shots =
    subst (λ n. HoldsShots n c.land.new.self f.shots) next missiles in
    rw (refill_is c.self.inside.robots.items c.move_robots-self-inside.new.robots len)
    (updates (the_view c.self.inside)
    (record {
      updates = c.self.inside.updates + 1;
      robots = c.move_robots-self-inside.new.robots;
      slots = c.land.new.self;
      random = c.self.inside.random;
    }) f now refl refl robots held)
