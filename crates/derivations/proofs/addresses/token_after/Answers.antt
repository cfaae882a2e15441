use Rattle.derivations.proofs.Proceeding.{located_here}
use Rattle.derivations.proofs.addresses.token_after.Goals as goal

pub returns-clause-other : goal.returns-clause-other
returns-clause-other c =
    λ other. located_here c.args.finder.now.source.now c.args.finder.now.end c.after.result.now c.args.cursor.now.after
    c.place.result c.after.ensures.value c.place.ensures.token c.place.ensures.line c.place.ensures.column
