use Rattle.std.proofs.Common.{append_assoc}
use Rattle.listings.specs.Listing.{code_lines}
use Rattle.listings.proofs.listing.add_code.Goals as goal

pub returns-clause-text : goal.returns-clause-text
unfolding code_lines
returns-clause-text g c = λ before text so_far.
    simp append_assoc
    (simp append_assoc at
    (c.add_lines.ensures.text before _
    (c.add_byte.ensures.text before _
    (c.add_number.ensures.text before _ (c.add.ensures.text before text so_far)))))
