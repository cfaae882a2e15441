use Rattle.std.proofs.Common.{append_assoc}
use Rattle.listings.specs.Listing.{externals_lines}
use Rattle.listings.proofs.listing.add_externals.Goals as goal

pub returns-clause-text : goal.returns-clause-text
unfolding externals_lines
returns-clause-text g c = λ before text so_far.
    simp append_assoc
    (simp append_assoc at
    (c.add_names.ensures.text before _
    (c.add_byte.ensures.text before _
    (c.add_number.ensures.text before _ (c.add.ensures.text before text so_far)))))
