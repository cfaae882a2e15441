-- The table has 0 or 1 at each byte of a name.
use Rattle.std.proofs.Common.{◌∙◌, ap, leb, slice_index}
use Rattle.tokens.proofs.CharacterLemmas.{kinds, bytes_of_names}
use Rattle.tokens.proofs.characters.is_name_byte.Goals as goal

pub returns : goal.returns
unfolding kinds
returns c = ap (λ i. leb (slice_index kinds i) 1) c.from.ensures ∙ bytes_of_names c.args.b c.ranges.b.fits
