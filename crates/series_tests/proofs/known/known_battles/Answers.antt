use Rattle.series_tests.proofs.KnownBattles.{battles, short_battles}
use Rattle.series_tests.proofs.known.known_battles.Goals as goal

pub returns-clause-battles : goal.returns-clause-battles
returns-clause-battles c = battles

pub returns-clause-short_battles : goal.returns-clause-short_battles
returns-clause-short_battles c = short_battles
