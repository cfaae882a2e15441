-- The known tokens, worked out.
use Rattle.std.proofs.Common.{rules}
use Rattle.tokens.specs.KnownTokens.{KnownTokens}
use Rattle.tokens.specs.Punctuators.{punctuator_of}
use Rattle.tokens.specs.Tokens.{located_tokens, tokens}
use Rattle.tokens.specs.Keywords.{keyword_of}

pub known : KnownTokens
unfolding tokens located_tokens keyword_of punctuator_of
known = search rules
