use Rattle.grammar_laws.proofs.KnownEmissions.{emissions_known}
use Rattle.grammar_laws.proofs.known.known_emissions.Goals as goal

pub returns : goal.returns
returns c = emissions_known
