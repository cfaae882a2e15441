use Rattle.std.proofs.Common.{sym, ap, subst, ◌∙◌, length, rules, arith}
use Rattle.std.proofs.lemmas.Int.{to_z-of_z}
use Rattle.arena.specs.Field.{Field}
use Rattle.arena.specs.Answer.{answer, argument_at}
use Rattle.arena.specs.Arena.{Arena, motion_of, robot_of}
use Rattle.arena.specs.contracts.arenas.Arena.{the_view}
use Rattle.arena.specs.Representing.{RepresentsField}
use Rattle.arena.proofs.Represents.{inside_if_lives, same_live, keeps_fire, fires_reply, fires}
use Rattle.arena.proofs.arenas.Arena.cannon.Goals as goal

pub may_fire-requires : goal.may_fire-requires
may_fire-requires c =
    let slots = c.self.invariant.1 in
    let manned = ap (λ (g : Arena). length g.robots) c.self.view_is in
    let inside = inside_if_lives c.args.self.now c.args.robot c.requires in
    omega (arith, slots, manned, inside)

pub fire-requires-clause-inside : goal.fire-requires-clause-inside
fire-requires-clause-inside c =
    let slots = c.self.invariant.1 in
    let manned = ap (λ (g : Arena). length g.robots) c.self.view_is in
    let inside = inside_if_lives c.args.self.now c.args.robot c.requires in
    omega (arith, slots, manned, inside)

pub robot-requires : goal.robot-requires
robot-requires c =
    let manned = ap (λ (g : Arena). length g.robots) c.self.view_is in
    let inside = inside_if_lives c.args.self.now c.args.robot c.requires in
    omega (arith, manned, inside)

pub returns-then-not-may_fire : goal.returns-then-not-may_fire
unfolding answer argument_at
returns-then-not-may_fire c =
    let now : (f : Field) → RepresentsField c.args.self.now f → RepresentsField (the_view c.self.inside) f =
    λ f s. rw c.self.view_is s in
    let kept = λ (f : Field) (s : RepresentsField c.args.self.now f).
    keeps_fire f _ _ _ (sym (c.may_fire.ensures.shots f.updates f.shots (now f s).missiles) ∙ c.if-not-may_fire.true)
    in
    record {
      reply = λ f s. (kept f s).0;
      stands = λ f s.
          let P : Field → Type 0 = λ x. RepresentsField c.args.self.now x in
          subst P (kept f s).1 s;
      updates = search rules;
      manned = search rules;
      alive = search rules;
    }

pub invariant_of-self : goal.invariant_of-self
invariant_of-self c =
    let i = c.self.invariant in
    (i.0, c.fire.ensures.count ∙ i.1, i.2, c.fire.ensures.two i.3, λ e. absurd (cc), i.5)

pub returns : goal.returns
unfolding answer argument_at robot_of motion_of
returns c =
    let now : (f : Field) → RepresentsField c.args.self.now f → RepresentsField (the_view c.self.inside) f =
    λ f s. rw c.self.view_is s in
    let free = λ (f : Field) (s : RepresentsField c.args.self.now f).
    sym (c.may_fire.ensures.shots f.updates f.shots (now f s).missiles) ∙ c.if-not-may_fire.false in
    record {
      reply = λ f s. fires_reply f _ _ _ (free f s);
      stands = λ f s.
          let degree_fits = c.ranges.degree in
          let range_fits = c.ranges.range in
          let missile =
          simp (
            c.place-from.ensures,
            c.robot.ensures.stands f s,
            c.norm_degree.ensures.value,
            c.clamped_argument-range.ensures.value,
            to_z-of_z,
          ) at c.new-missile.ensures in
          fires (the_view c.self.inside) f _ _ _ c.fire.new.self c.new-missile.result (now f s) (free f s) missile
          c.fire.ensures.shots;
      updates = search rules;
      manned = search rules;
      alive = same_live c.args.self.now _ c.args.robot (ap (λ (g : Arena). g.robots) c.self.view_is) ∙ c.requires;
    }
