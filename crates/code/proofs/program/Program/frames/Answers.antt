use Rattle.std.proofs.Common.{arith}
use Rattle.code.proofs.Bounds.{few_frames}
use Rattle.code.proofs.program.Program.frames.Goals as goal

pub returns-clause-most : goal.returns-clause-most
returns-clause-most c = omega (arith, few_frames _ c.frames.ensures.is_profile, c.frames.ensures.value)
