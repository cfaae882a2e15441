use Rattle.std.proofs.Common.{not, refl, sym, take, get_or, bit_and}
use Rattle.std.proofs.lemmas.List.{map-id}
use Rattle.std.proofs.lemmas.Simd.{zip2_of_maps}
use Rattle.tokens.specs.Characters.{is_blank}
use Rattle.tokens.specs.declared.byte_spans.TheConstants.{BLANKS}
use Rattle.tokens.proofs.BlankLemmas.{low-ok, looked_up}
use Rattle.tokens.proofs.SpanLemmas.{bits_are}
use Rattle.tokens.proofs.byte_spans.NonBlankByteStopByte.stop_bits.Goals as goal

pub swizzle-blanks : goal.swizzle-blanks
swizzle-blanks c = low-ok c.args.block c.fits-block.0

pub returns-clause-bits : goal.returns-clause-bits
returns-clause-bits c =
    let v = c.args.block in
    let long = c.fits-block.0 in
    bits_are (λ b. not (is_blank b)) _ v long c.fits-block.1
    (zip2_of_maps _ (λ x. x) (λ x. get_or (take 16 BLANKS) (bit_and x 15) 0) v (sym (map-id v))
    (looked_up BLANKS (take 16 BLANKS) v long refl)) refl
