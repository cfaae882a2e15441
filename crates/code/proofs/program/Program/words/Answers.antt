use Rattle.std.proofs.Common.{arith}
use Rattle.code.proofs.Bounds.{few_words}
use Rattle.code.proofs.program.Program.words.Goals as goal

pub returns-clause-most : goal.returns-clause-most
returns-clause-most c = omega (arith, few_words _ c.words.ensures.is_profile, c.words.ensures.value)
