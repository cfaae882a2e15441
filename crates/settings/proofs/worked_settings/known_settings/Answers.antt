use Rattle.settings.proofs.KnownSettings.{known_settings}
use Rattle.settings.proofs.worked_settings.known_settings.Goals as goal

pub returns : goal.returns
returns c = known_settings
