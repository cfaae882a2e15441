use Rattle.watching.proofs.update_losses.Collector.add_burst.Goals as goal

pub returns : goal.returns
returns c = λ f stands.
    rw (← c.taken_by.ensures.stands f stands, ← c.robot.ensures, ← c.x.ensures.value, ← c.y.ensures.value) c.add.ensures
