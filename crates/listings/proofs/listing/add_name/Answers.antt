use Rattle.std.proofs.Common.{append_assoc}
use Rattle.listings.specs.Listing.{name_line}
use Rattle.listings.proofs.listing.add_name.Goals as goal

pub returns-clause-text : goal.returns-clause-text
unfolding name_line
returns-clause-text g c = λ before text so_far.
    simp append_assoc
    (simp append_assoc at
    (c.add_byte-2.ensures.text before _
    (rw c.as_bytes.ensures.value at
    (c.add-2.ensures.text before _
    (c.add_byte.ensures.text before _
    (c.add_number.ensures.text before _ (c.add.ensures.text before text so_far)))))))
