use Rattle.std.proofs.Common.{List, ℕ, arith, ap, refl, ◌∙◌}
use Rattle.std.specs.Prelude.{min}
use Rattle.derivations.proofs.Placing.{reached_from}
use Rattle.derivations.specs.Columns.{column_past}
use Rattle.derivations.proofs.locations.Finder.column_at.Goals as goal

pub returns-then-offset-passed : goal.returns-then-offset-passed
returns-then-offset-passed c =
    reached_from c.args.self.now.source.now 0 c.args.offset 1 c.column_past.result (omega arith) refl
    (c.column_past.ensures
    ∙ ap (λ (l : List ℕ). min (column_past l 1) 4294967295) c.between-before.ensures)

pub returns : goal.returns
returns c =
    reached_from c.args.self.now.source.now c.args.self.now.passed c.args.offset c.args.self.now.column
    c.column_past-2.result (omega arith) c.args.self.now.is_column
    (c.column_past-2.ensures
    ∙ ap (λ (l : List ℕ). min (column_past l c.args.self.now.column) 4294967295) c.between-gap.ensures)
