-- The search ends at two neighbours: the number reaches the first and not the second.
use Rattle.std.proofs.Common.{◌≡◌, ◌+◌, ap, sym, ◌∙◌, arith, pos, rules, w32, FitsSigned}
use Rattle.std.proofs.lemmas.Int.{to_z-of_z}
use Rattle.arith.proofs.Reached.{reached_is}
use Rattle.arith.proofs.tangents.degrees_reached.Goals as goal

pub returns-clause-value : goal.returns-clause-value
returns-clause-value c =
    let inv = c.halves.invariant in
    let one : c.halves.missed ≡ c.halves.reached + 1 = omega (arith, c.halves-test.false, inv.order) in
    let here : c.from.result ≡ pos c.halves.reached = c.from.ensures in
    let fits : FitsSigned w32 c.from.result = search rules in
    to_z-of_z w32 c.from.result fits
    ∙ here
    ∙
    ap pos
    (sym
    (reached_is c.args.size c.halves.reached (omega (arith, one, inv.most)) inv.reached
    (λ less. rw one at (inv.missed (omega (arith, one, less))))))
