use Rattle.std.proofs.Common.{ℕ, ap, ◌∙◌}
use Rattle.derivations.specs.Columns.{column_at}
use Rattle.derivations.proofs.locations.Finder.place.Goals as goal

pub returns-clause-column : goal.returns-clause-column
returns-clause-column c =
    c.pass-column.ensures.value ∙ ap (λ (s : ℕ). column_at c.args.self.now.source.now s) c.start-start.ensures
