use Rattle.tokens.proofs.EndLemmas.{tokens-rising, tokens-by, tokens-open}
use Rattle.tokens.proofs.laws.ends_rise.Goals as goal

pub returns-clause-rising : goal.returns-clause-rising
returns-clause-rising c = tokens-rising

pub returns-clause-within : goal.returns-clause-within
returns-clause-within c = tokens-by

pub returns-clause-stays_undecided : goal.returns-clause-stays_undecided
returns-clause-stays_undecided c = tokens-open
