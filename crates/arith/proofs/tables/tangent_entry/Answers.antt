-- The code's table is the definition's, entry by entry.
use Rattle.std.proofs.Common.{◌≤◌, ap, subst, sym, slice_index}
use Rattle.arith.specs.Table.{tangents}
use Rattle.arith.proofs.TableLemmas.{tangent_bound}
use Rattle.arith.proofs.tables.tangent_entry.Goals as goal

pub returns-clause-value : goal.returns-clause-value
unfolding tangents
returns-clause-value c = ap (slice_index tangents) c.from.ensures

pub returns-clause-bound : goal.returns-clause-bound
returns-clause-bound c =
    subst (λ n. n ≤ 5728996) (sym (returns-clause-value c)) (tangent_bound c.args.degree c.requires)
