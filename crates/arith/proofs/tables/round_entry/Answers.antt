-- The code's table is the definition's round, entry by entry.
use Rattle.std.proofs.Common.{◌≤◌, pos, ap, ◌∙◌, arith, get_or, FitsSigned, unsigned_abs, ◌%◌, subst, sym}
use Rattle.std.specs.Int.{w32}
use Rattle.std.proofs.lemmas.Int.{to_z-of_z, fits_signed_from_abs}
use Rattle.arith.specs.Circle.{sine_at}
use Rattle.arith.proofs.CircleLemmas.{entry_is, sine_bound, ROUND}
use Rattle.arith.proofs.tables.round_entry.Goals as goal

pub returns-clause-value : goal.returns-clause-value
returns-clause-value c =
    let entry = ap (λ i. get_or ROUND i (pos 0)) c.from.ensures ∙ entry_is c.args.degree c.requires in
    let bound = sine_bound (c.args.degree % 360) (omega arith) in
    let fits = fits_signed_from_abs w32 (sine_at (c.args.degree % 360)) (omega arith) in
    to_z-of_z w32 _ (subst (λ z. FitsSigned w32 z) (sym entry) fits) ∙ entry

pub returns-clause-bound : goal.returns-clause-bound
returns-clause-bound c =
    let value = returns-clause-value c in
    let bound = sine_bound (c.args.degree % 360) (omega arith) in
    subst (λ z. unsigned_abs z ≤ 100000) (sym value) bound
