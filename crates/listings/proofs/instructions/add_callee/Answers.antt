use Rattle.listings.specs.Spelling.{callee_text}
use Rattle.listings.proofs.instructions.add_callee.Goals as goal

pub returns-in-Function-clause-text : goal.returns-in-Function-clause-text
unfolding callee_text
returns-in-Function-clause-text g c = λ before text so_far.
    rw c.in-Function.is (rw c.from.ensures at (c.add_number.ensures.text before text so_far))

pub returns-in-Intrinsic-clause-text : goal.returns-in-Intrinsic-clause-text
unfolding callee_text
returns-in-Intrinsic-clause-text g c = λ before text so_far.
    rw c.in-Intrinsic.is (rw (c.as_bytes.ensures.value, c.name.ensures) at (c.add.ensures.text before text so_far))
