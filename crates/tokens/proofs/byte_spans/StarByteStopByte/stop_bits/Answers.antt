use Rattle.std.proofs.Common.{eqb, arith, w8}
use Rattle.std.proofs.lemmas.Simd.{bitmask_splat}
use Rattle.tokens.proofs.byte_spans.StarByteStopByte.stop_bits.Goals as goal

pub returns-clause-bits : goal.returns-clause-bits
returns-clause-bits c = bitmask_splat w8 eqb c.args.block 32 42 c.fits-block.0 (omega arith)
