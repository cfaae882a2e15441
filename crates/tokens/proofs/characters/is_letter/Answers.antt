-- The table has a 0 at each letter.
use Rattle.std.proofs.Common.{◌∙◌, ap, eqb, slice_index}
use Rattle.tokens.proofs.CharacterLemmas.{kinds, letters}
use Rattle.tokens.proofs.characters.is_letter.Goals as goal

pub returns : goal.returns
unfolding kinds
returns c = ap (λ i. eqb (slice_index kinds i) 0) c.from.ensures ∙ letters c.args.b c.ranges.b.fits
