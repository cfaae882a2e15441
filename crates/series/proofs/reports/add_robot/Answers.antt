use Rattle.series.proofs.TextsLemmas.{robot_line_added}
use Rattle.series.proofs.reports.add_robot.Goals as goal

pub returns-clause-text : goal.returns-clause-text
returns-clause-text g c = λ before text so_far.
    rw (robot_line_added text c.args.name.now c.args.robot _ _)
    (c.add-7.ensures.text before _
    (c.add-6.ensures.text before _
    (c.add-5.ensures.text before _
    (rw (c.from.ensures, c.damages.ensures.value) at (c.add_column.ensures.text before _
    (c.add-4.ensures.text before _
    (rw (c.state_text.ensures, c.is_alive.ensures) at (c.add-3.ensures.text before _
    (c.add-2.ensures.text before _
    (c.add_number.ensures.text before _
    (c.add.ensures.text before text so_far)))))))))))
