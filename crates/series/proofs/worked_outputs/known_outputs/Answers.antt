use Rattle.series.proofs.KnownOutputs.{outputs, reports, texts}
use Rattle.series.proofs.worked_outputs.known_outputs.Goals as goal

pub returns : goal.returns
returns c = record { texts = texts; reports = reports; outputs = outputs }
