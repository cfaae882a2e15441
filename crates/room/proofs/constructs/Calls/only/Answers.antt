use Rattle.std.proofs.Common.{replicate, set}
use Rattle.room.proofs.constructs.Calls.only.Goals as goal

pub returns-clause-needs : goal.returns-clause-needs
returns-clause-needs c =
    λ i. set (replicate 256 (c.words-nothing.ensures i)) c.args.number (c.callee_need-need.ensures i)
