use Rattle.tokens.proofs.KnownTokens.{known}
use Rattle.tokens.proofs.laws.known_tokens.Goals as goal

pub returns : goal.returns
returns c = known
