use Rattle.std.proofs.Common.{append_assoc}
use Rattle.listings.specs.Listing.{function_lines}
use Rattle.listings.proofs.listing.add_function.Goals as goal

pub returns-clause-text : goal.returns-clause-text
unfolding function_lines
returns-clause-text g c = λ before text so_far.
    simp append_assoc
    (simp append_assoc at
    (rw c.variables-2.ensures.names at
    (c.add_names.ensures.text before _
    (c.add_byte-2.ensures.text before _
    (rw c.address_at.ensures at
    (c.add_number-3.ensures.text before _
    (c.add-4.ensures.text before _
    (rw c.variables.ensures.names at
    (c.add_number-2.ensures.text before _
    (c.add-3.ensures.text before _
    (rw (c.as_bytes.ensures.value, c.name.ensures) at
    (c.add-2.ensures.text before _
    (c.add_byte.ensures.text before _
    (c.add_number.ensures.text before _
    (c.add.ensures.text before text so_far)))))))))))))))
