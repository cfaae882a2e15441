use Rattle.listings.proofs.instructions.put_instruction.Goals as goal

pub returns : goal.returns
returns g c = c.finish.ensures _ _ (c.add_instruction.ensures.text _ _ (c.new-pen.ensures.text _))
