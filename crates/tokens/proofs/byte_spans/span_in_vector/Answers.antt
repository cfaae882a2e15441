use Rattle.std.proofs.Common.{◌∙◌, ◌<◌, ◌-◌, eqb, map, not, sym, take, ap, ap₂, arith, w8}
use Rattle.std.specs.Int.RustNames.{bit_and, count_ones}
use Rattle.std.specs.List.{count_by}
use Rattle.std.proofs.lemmas.List.Sums.{prefix_len-le-length}
use Rattle.std.proofs.lemmas.Simd.{bitmask_splat, leading_from_mask_l, trailing_mask_l}
use lib.Count.{count_trailing_zeros}
use lib.Lanes.{mask_l}
use Rattle.tokens.proofs.SpanLemmas.{in_line, ones_before, ones_whole}
use Rattle.tokens.proofs.byte_spans.span_in_vector.Goals as goal

pub returns-then-stops-eq0-clause-count : goal.returns-then-stops-eq0-clause-count
returns-then-stops-eq0-clause-count g c =
    sym
    (leading_from_mask_l g.S.StopByte.stops c.args.block (sym c.stop_bits-stops.ensures.bits ∙ c.if-stops-eq0.true) ∙
    c.fits-block.0)

pub returns-then-stops-eq0-clause-lines : goal.returns-then-stops-eq0-clause-lines
returns-then-stops-eq0-clause-lines g c =
    ones_whole (λ b. eqb b 10) c.args.block c.fits-block.0
    (bitmask_splat w8 eqb c.args.block 32 10 c.fits-block.0 (omega arith))

pub returns-clause-count : goal.returns-clause-count
returns-clause-count g c =
    ap (count_trailing_zeros 64) c.stop_bits-stops.ensures.bits
    ∙
    trailing_mask_l g.S.StopByte.stops 64 c.args.block (omega (arith, c.fits-block.0))
    (omega (arith, c.stop_bits-stops.ensures.bits, c.if-stops-eq0.false))

pub returns-clause-lines : goal.returns-clause-lines
returns-clause-lines g c =
    let some : 0 < mask_l (map g.S.StopByte.stops c.args.block) =
    omega (arith, c.stop_bits-stops.ensures.bits, c.if-stops-eq0.false) in
    let count =
    ap (count_trailing_zeros 64) c.stop_bits-stops.ensures.bits ∙
    trailing_mask_l g.S.StopByte.stops 64 c.args.block (omega (arith, c.fits-block.0)) some in
    ap₂ (λ m n. count_ones (bit_and m (n - 1))) (bitmask_splat w8 eqb c.args.block 32 10 c.fits-block.0 (omega arith))
    c.stop_bits-stops.ensures.bits
    ∙
    ones_before (λ b. eqb b 10) g.S.StopByte.stops (in_line g.S.StopByte.stops c.stop_bits-stops.ensures.in_line)
    c.args.block
    some
    ∙ ap (λ n. count_by (λ b. eqb b 10) (take n c.args.block)) (sym count)

pub returns-clause-within : goal.returns-clause-within
returns-clause-within g c =
    let count = ap (count_trailing_zeros 64) c.stop_bits-stops.ensures.bits
    ∙
    trailing_mask_l g.S.StopByte.stops 64 c.args.block (omega (arith, c.fits-block.0))
    (omega (arith, c.stop_bits-stops.ensures.bits, c.if-stops-eq0.false)) in
    omega (arith, count, c.fits-block.0, prefix_len-le-length (λ b. not (g.S.StopByte.stops b)) c.args.block)
