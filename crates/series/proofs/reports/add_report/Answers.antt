use Rattle.series.proofs.TextsLemmas.{report_added}
use Rattle.series.proofs.reports.add_report.Goals as goal

pub returns-clause-text : goal.returns-clause-text
returns-clause-text g c = λ before text so_far.
    rw (report_added text c.args.number _ _)
    (c.add_robots.ensures.text before _
    (c.add-3.ensures.text before _
    (rw c.cycles.ensures at (c.add_number-2.ensures.text before _
    (c.add-2.ensures.text before _
    (c.add_number.ensures.text before _
    (c.add.ensures.text before text so_far)))))))
