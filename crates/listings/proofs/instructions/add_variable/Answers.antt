use Rattle.std.proofs.Common.{append_assoc}
use Rattle.listings.specs.Spelling.{variable_text}
use Rattle.listings.proofs.instructions.add_variable.Goals as goal
use Rattle.listings.proofs.instructions.add_variable.Goals.{in-External, in-Local}

pub returns-clause-text : goal.returns-clause-text
unfolding variable_text
returns-clause-text g c = λ before text so_far.
    let added = c.add_number.ensures.text before _ (c.add_byte.ensures.text before text so_far) in
    elim c.match-variable.branch [
      | in-External w ↦ rw w.in-External.is (simp append_assoc at (rw (c.from.ensures, w.letter-is) at added))
      | in-Local w ↦ rw w.in-Local.is (simp append_assoc at (rw (c.from.ensures, w.letter-is) at added))
    ]
