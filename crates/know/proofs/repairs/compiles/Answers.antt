use Rattle.std.proofs.Common.{rules}
use Rattle.know.proofs.repairs.compiles.Goals as goal

pub returns-in-Ok : goal.returns-in-Ok
returns-in-Ok c _ = (c.in-Ok.ensures.compiles c.args.source.now (search rules)).compiles
