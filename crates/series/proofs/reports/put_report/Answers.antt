use Rattle.series.proofs.reports.put_report.Goals as goal

pub returns : goal.returns
returns g c = c.finish.ensures _ _ (c.add_report.ensures.text _ _ (c.new-pen.ensures.text _))
