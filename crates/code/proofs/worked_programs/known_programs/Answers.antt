use Rattle.code.proofs.KnownPrograms.{choices, restarts, values, wants}
use Rattle.code.proofs.worked_programs.known_programs.Goals as goal

pub returns-clause-wants : goal.returns-clause-wants
returns-clause-wants c = wants

pub returns-clause-choices : goal.returns-clause-choices
returns-clause-choices c = choices

pub returns-clause-values : goal.returns-clause-values
returns-clause-values c = values

pub returns-clause-restarts : goal.returns-clause-restarts
returns-clause-restarts c = restarts
