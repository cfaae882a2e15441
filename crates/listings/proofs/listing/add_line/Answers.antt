use Rattle.std.proofs.Common.{append_assoc}
use Rattle.listings.specs.Listing.{instr_line}
use Rattle.listings.proofs.listing.add_line.Goals as goal

pub returns-clause-text : goal.returns-clause-text
unfolding instr_line
returns-clause-text g c = λ before text so_far.
    simp append_assoc
    (simp append_assoc at
    (c.add_byte-2.ensures.text before _
    (c.add_instruction.ensures.text before _
    (c.add_byte.ensures.text before _ (c.add_column.ensures.text before text so_far)))))
