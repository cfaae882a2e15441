use Rattle.command.proofs.endings.put_about.Goals as goal

pub returns : goal.returns
returns g c =
    c.finish.ensures _ _
    (c.add-3.ensures.text _ _
    (rw c.as_bytes.ensures.value at (c.add-2.ensures.text _ _
    (c.add.ensures.text _ _ (c.new-pen.ensures.text _)))))
