use Rattle.series.proofs.SameReport.{same_report}
use Rattle.series.proofs.laws.same_report.Goals as goal

pub returns : goal.returns
returns c = same_report
