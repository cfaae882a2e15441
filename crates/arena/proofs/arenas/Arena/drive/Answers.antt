use Rattle.std.proofs.Common.{◌<◌, get_or, sym, ap, subst, refl, ◌∙◌, length, arith, rules}
use Rattle.std.proofs.lemmas.List.{get_or_read, length-set}
use Rattle.std.proofs.lemmas.Int.{to_z-of_z}
use Rattle.arena.specs.Field.{no_robot, robot_at}
use Rattle.arena.specs.Answer.{answer, argument_at}
use Rattle.arena.specs.Arena.{Arena, Robot, robot_of, is_live}
use Rattle.arena.specs.Representing.{RepresentsField}
use Rattle.arena.specs.contracts.arenas.Arena.{the_view}
use Rattle.arena.specs.Apart.{IsAtPlace}
use Rattle.arena.proofs.Calm.{far_set}
use Rattle.arena.proofs.Loops.{mapped_is}
use Rattle.arena.proofs.Represents.{inside_if_lives, put_is, directs, lives_as}
use Rattle.arena.proofs.arenas.Arena.drive.Goals as goal

pub offset_bounds-deref_mut-robot : goal.offset_bounds-deref_mut-robot
offset_bounds-deref_mut-robot c =
    let few = c.self.invariant.2 in
    let robots = ap (λ (g : Arena). length g.robots) c.self.view_is in
    let among = inside_if_lives c.args.self.now c.args.robot c.requires in
    record { fits = omega (arith, few, robots, among) }

pub bounds-deref_mut-robot : goal.bounds-deref_mut-robot
bounds-deref_mut-robot c =
    let lent = ap length c.deref_mut.ensures.value in
    let robots = ap (λ (g : Arena). length g.robots) c.self.view_is in
    let among = inside_if_lives c.args.self.now c.args.robot c.requires in
    omega (arith, lent, robots, among)

pub invariant_of-self : goal.invariant_of-self
invariant_of-self c =
    let i = c.self.invariant in
    let items = c.self.inside.robots.items in
    let robots = ap (λ (g : Arena). g.robots) c.self.view_is in
    let lent = c.deref_mut.ensures.value in
    let among = inside_if_lives c.args.self.now c.args.robot c.requires in
    let inside : c.args.robot < length items = omega (arith, ap length robots, among) in
    let same =
    sym c.index-deref_mut-robot.is ∙
    get_or_read c.deref_mut.result.now c.args.robot _ (omega (arith, inside, ap length lent))
    c.index-deref_mut-robot.is (robot_of no_robot) ∙ ap (λ l. get_or l c.args.robot (robot_of no_robot)) lent in
    let size = length-set items c.args.robot c.want.new.self in
    let place = subst (λ (b : Robot). IsAtPlace b.motion c.want.new.self.motion) same c.want.ensures.place in
    let far = far_set c.self.inside.updates_apart items c.args.robot c.want.new.self inside place i.5 in
    rw (put_is items c.deref_mut.result.now c.args.robot c.want.new.self lent) (
      i.0,
      i.1 ∙ sym size,
      omega (arith, size),
      i.3,
      λ e. absurd (cc),
      far,
    )

pub returns : goal.returns
unfolding answer argument_at robot_at
returns c =
    let items = c.self.inside.robots.items in
    let robots = ap (λ (g : Arena). g.robots) c.self.view_is in
    let lent = c.deref_mut.ensures.value in
    let among = inside_if_lives c.args.self.now c.args.robot c.requires in
    let inside : c.args.robot < length items = omega (arith, ap length robots, among) in
    let put = put_is items c.deref_mut.result.now c.args.robot c.want.new.self lent in
    record {
      reply = λ f s. refl;
      stands = λ f s.
          let degree_fits = c.ranges.degree in
          let speed_fits = c.ranges.speed in
          let now : RepresentsField (the_view c.self.inside) f = rw c.self.view_is s in
          let here =
          sym c.index-deref_mut-robot.is ∙
          mapped_is robot_of c.deref_mut.result.now f.robots c.args.robot _ no_robot (lent ∙ now.robots)
          (omega (arith, inside, ap length lent)) c.index-deref_mut-robot.is in
          let body =
          simp (c.norm_degree.ensures.value, c.clamped_argument-speed.ensures.value, to_z-of_z) at
          (c.want.ensures.robot (robot_at f c.args.robot) here) in
          rw put (directs (the_view c.self.inside) f c.args.robot _ _ c.want.new.self now body);
      updates = search rules;
      manned = search rules;
      alive =
          let same =
          sym c.index-deref_mut-robot.is ∙
          get_or_read c.deref_mut.result.now c.args.robot _ (omega (arith, inside, ap length lent))
          c.index-deref_mut-robot.is (robot_of no_robot) ∙ ap (λ l. get_or l c.args.robot (robot_of no_robot)) lent in
          let damage = c.want.ensures.damage ∙ ap (λ (b : Robot). b.damage) same in
          rw put
          (lives_as (the_view c.self.inside) c.args.robot c.want.new.self inside damage ∙
          ap (λ (g : Arena). is_live g c.args.robot) c.self.view_is ∙ c.requires);
    }
