use Rattle.std.proofs.Common.{◌+◌, ◌%◌, true, false, refl, sym, ◌∙◌, arith}
use Rattle.std.proofs.lemmas.Int.{to_z-of_z}
use Rattle.arith.specs.Furthest.{leads}
use Rattle.arith.proofs.Arcs.{decides_by}
use Rattle.arith.proofs.bearings.bears_within.Goals as goal

pub returns-then-leads : goal.returns-then-leads
returns-then-leads c =
    let dx_fits = c.ranges.dx in
    let dy_fits = c.ranges.dy in
    let starts = simp to_z-of_z at c.leads.ensures in
    let ends = simp to_z-of_z at c.leads-then-leads.ensures in
    decides_by c.args.dx c.args.dy c.args.degree c.args.spread _ _ _ _ true c.leads-then-leads.result
    (sym c.if-leads.true ∙ starts) ends
    c.requires.elsewhere c.requires.degree c.requires.spread (omega arith) (omega arith) (omega arith) (omega arith)

pub returns-else-leads : goal.returns-else-leads
returns-else-leads c =
    let dx_fits = c.ranges.dx in
    let dy_fits = c.ranges.dy in
    let starts = simp to_z-of_z at c.leads.ensures in
    let last = (c.args.degree + c.args.spread) % 360 in
    let after = (last + 1) % 360 in
    c.if-leads.false ∙
    decides_by c.args.dx c.args.dy c.args.degree c.args.spread _ _ last after false
    (leads c.args.dx c.args.dy last after) (sym c.if-leads.false ∙ starts) refl
    c.requires.elsewhere c.requires.degree c.requires.spread (omega arith) (omega arith) (omega arith) (omega arith)
