use Rattle.std.proofs.Common.{◌∙◌, eqb, sym, arith, w8}
use Rattle.std.proofs.lemmas.Simd.{bitmask_splat, leading_from_mask_l}
use Rattle.tokens.proofs.SpanLemmas.{none_set}
use Rattle.tokens.proofs.byte_spans.has_end.Goals as goal

pub returns : goal.returns
returns c = λ e.
    let set = bitmask_splat w8 eqb c.args.block 64 26 c.fits-block.0 (omega arith) in
    leading_from_mask_l (λ b. eqb b 26) c.args.block (sym set ∙ none_set _ e) ∙ c.fits-block.0
