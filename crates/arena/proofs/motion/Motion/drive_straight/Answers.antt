use Rattle.std.proofs.Common.{sym, ap, ◌∙◌}
use Rattle.std.proofs.lemmas.Bool.{or_parts}
use Rattle.arena.specs.Arena.{Motion}
use Rattle.arena.specs.Sums.{clamped_place_of}
use Rattle.arena.specs.contracts.motion.Motion.{the_view}
use Rattle.arena.proofs.Sums.{free_is_field, near, near_inside}
use Rattle.arena.proofs.MotionLaws.{driven, walled_is, stops_is, drives_is}
use Rattle.arena.proofs.motion.Motion.drive_straight.Goals as goal

pub returns-then-leads_beyond-clause-motion : goal.returns-then-leads_beyond-clause-motion
returns-then-leads_beyond-clause-motion c = λ leg e.
    let t = the_view c.self.inside in
    let d = driven t _ c.self.invariant c.leads_beyond.ensures in
    stops_is t _ leg _ _ _ _ _ (c.self.view_is ∙ e) d.forward c.if-leads_beyond.true (ap clamped_place_of d.east)
    (ap clamped_place_of d.north) (c.stop_near.ensures.leg leg e)

pub returns-then-leads_beyond-clause-walled : goal.returns-then-leads_beyond-clause-walled
returns-then-leads_beyond-clause-walled c = λ leg e.
    let t = the_view c.self.inside in
    sym c.if-leads_beyond.true
    ∙ walled_is t leg _ _ _ (c.self.view_is ∙ e) (driven t _ c.self.invariant c.leads_beyond.ensures).forward

pub returns-then-leads_beyond-clause-nearby : goal.returns-then-leads_beyond-clause-nearby
returns-then-leads_beyond-clause-nearby c =
    let i = c.self.invariant in
    let t = the_view c.self.inside in
    let d = driven t _ i c.leads_beyond.ensures in
    let from_x = ap (λ (t : Motion). t.x) c.self.view_is in
    let from_y = ap (λ (t : Motion). t.y) c.self.view_is in
    let to_x = c.stop_near.ensures.place.0 ∙ ap clamped_place_of d.east in
    let to_y = c.stop_near.ensures.place.1 ∙ ap clamped_place_of d.north in
    record {
      on_x = rw (sym from_x, to_x) (near t.east t.step_east i.east i.step_east);
      on_y = rw (sym from_y, to_y) (near t.north t.step_north i.north i.step_north);
    }

pub invariant_of-self : goal.invariant_of-self
invariant_of-self c =
    let i = c.self.invariant in
    let d = driven (the_view c.self.inside) _ i c.leads_beyond.ensures in
    let free = or_parts _ _ (sym d.forward.is_out ∙ c.if-leads_beyond.false) in
    record {
      east = rw d.east (free_is_field _ free.0);
      north = rw d.north (free_is_field _ free.1);
      step_east = i.step_east;
      step_north = i.step_north;
      heading = i.heading;
      wanted_heading = i.wanted_heading;
      speed = i.speed;
      wanted_speed = i.wanted_speed;
    }

pub returns-clause-motion : goal.returns-clause-motion
returns-clause-motion c = λ leg e.
    let t = the_view c.self.inside in
    let d = driven t _ c.self.invariant c.leads_beyond.ensures in
    rw (d.east, d.north) (drives_is t leg _ _ _ (c.self.view_is ∙ e) d.forward c.if-leads_beyond.false)

pub returns-clause-walled : goal.returns-clause-walled
returns-clause-walled c = λ leg e.
    let t = the_view c.self.inside in
    sym c.if-leads_beyond.false
    ∙ walled_is t leg _ _ _ (c.self.view_is ∙ e) (driven t _ c.self.invariant c.leads_beyond.ensures).forward

pub returns-clause-nearby : goal.returns-clause-nearby
returns-clause-nearby c =
    let i = c.self.invariant in
    let t = the_view c.self.inside in
    let d = driven t _ i c.leads_beyond.ensures in
    let free = or_parts _ _ (sym d.forward.is_out ∙ c.if-leads_beyond.false) in
    let near_x = near_inside t.east t.step_east i.east i.step_east free.0 d.east in
    let near_y = near_inside t.north t.step_north i.north i.step_north free.1 d.north in
    record {
      on_x = rw (sym (ap (λ (t : Motion). t.x) c.self.view_is)) near_x;
      on_y = rw (sym (ap (λ (t : Motion). t.y) c.self.view_is)) near_y;
    }
