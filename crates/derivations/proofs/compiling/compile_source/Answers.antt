use Rattle.std.proofs.Common.{refl}
use Rattle.parser.proofs.Passing.{passed_on}
use Rattle.derivations.proofs.CompiledRoom.{compiled_from}
use Rattle.derivations.proofs.compiling.compile_source.Goals as goal

pub returns-in_err-program-clause-fault : goal.returns-in_err-program-clause-fault
returns-in_err-program-clause-fault c =
    rw (passed_on c.from_residual.result c.from_residual.ensures.1)
    (c.in_err-program.ensures.fault c.args.source.now (rw (c.new-feed.ensures) refl))

pub returns-clause-compiles : goal.returns-clause-compiles
returns-clause-compiles c = c.in_ok-program.ensures.compiles c.args.source.now (rw (c.new-feed.ensures) refl)

pub returns-clause-found : goal.returns-clause-found
returns-clause-found c =
    c.positions_of-positions.ensures.found
    (compiled_from c.args.profile c.args.source.now _
    (c.in_ok-program.ensures.compiles c.args.source.now (rw (c.new-feed.ensures) refl)))
