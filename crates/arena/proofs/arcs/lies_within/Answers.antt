use Rattle.std.proofs.Common.{FitsSigned, w32, sym, ◌∙◌, rules}
use Rattle.std.proofs.lemmas.Int.{to_z-of_z}
use Rattle.arena.proofs.Sight.{leads_nowhere, leads_somewhere}
use Rattle.arena.proofs.arcs.lies_within.Goals as goal

pub returns-then-is_none : goal.returns-then-is_none
returns-then-is_none c =
    let nowhere = c.is_none.ensures.none c.if-is_none.true in
    c.if-is_none.true ∙ sym (leads_nowhere _ _ c.args.degree c.args.resolution nowhere.0 nowhere.1)

pub returns-else-is_none : goal.returns-else-is_none
returns-else-is_none c =
    let east_fits : FitsSigned w32 c.args.way.east = search rules in
    let north_fits : FitsSigned w32 c.args.way.north = search rules in
    let within = simp to_z-of_z at c.bears_within.ensures in
    within ∙ sym (leads_somewhere _ _ c.args.degree c.args.resolution (c.is_none.ensures.some c.if-is_none.false))
