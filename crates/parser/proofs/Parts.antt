-- Which token it is, whether a construct may still be open, and what a symbol is replaced by.
use Rattle.std.proofs.Common.{◌≡◌, ℕ, ◌<◌, ◌≤◌, List, [], ◌∷◌, refl, sym, ap, Bool, true, false, arith}
use Rattle.std.proofs.lemmas.Bool.Decides.{nat_tests}
use Rattle.std.specs.Prelude.{Some, nat_le}
use Rattle.tokens.specs.declared.located_tokens.LocatedToken.{LocatedToken}
use Rattle.tokens.specs.declared.located_tokens.Punctuator.{Punctuator}
use Rattle.tokens.specs.declared.located_tokens.Token.{Token}
use Rattle.tokens.specs.declared.located_tokens.Token.TheVariants as token
use Rattle.tokens.specs.declared.located_tokens.Keyword.{Keyword}
use Rattle.tokens.specs.contracts.located_tokens.Punctuator as punctuators
use Rattle.tokens.specs.contracts.located_tokens.Keyword as keywords
use denote.Enum.Bare.{same_true}
use Rattle.grammar.specs.declared.diagnostics.Code.TheVariants as fault_code
use Rattle.grammar.specs.declared.name_limits.TheConstants.{MOST_NESTED}
use Rattle.grammar.specs.Faults.{fault, only_if}
use Rattle.grammar.specs.Grammar.{Item, Symbol, choice, is_punctuator, is_keyword}
use Rattle.grammar.specs.NameLimits.{most_nested}

-- Which token it is.

pub punctuator_is : (m : Punctuator) (t : Token) → is_punctuator m t ≡ true → t ≡ token.Punctuator m
punctuator_is m (token.Punctuator n) is = ap token.Punctuator (sym (same_true punctuators.the_type tt m n is))
punctuator_is m t is = absurd (cc)

pub word_is : (w : Keyword) (t : Token) → is_keyword w t ≡ true → t ≡ token.Keyword w
word_is w (token.Punctuator m) is = absurd (cc)
word_is w (token.Name name) is = absurd (cc)
word_is w (token.Keyword v) is = ap token.Keyword (sym (same_true keywords.the_type tt w v is))
word_is w t is = absurd (cc)

-- Nesting.

-- while one more may be open there is no fault
pub within : (opened : Bool) (n : ℕ) (rest : List LocatedToken) → n < MOST_NESTED →
    only_if opened (only_if (nat_le most_nested n) (fault rest fault_code.NestedTooDeeply ∷ [])) ≡ []
unfolding most_nested
within false n rest small = refl
within true n rest small = let test : nat_le most_nested n ≡ false = below most_nested n small in rw test refl
  where
    below : (m n : ℕ) → n < m → nat_le m n ≡ false
    below m n small = grind (arith, nat_tests)

-- one beyond the most is a fault
pub beyond : (opened : Bool) (n : ℕ) (rest : List LocatedToken) → opened ≡ true → MOST_NESTED ≤ n →
    only_if opened (only_if (nat_le most_nested n) (fault rest fault_code.NestedTooDeeply ∷ [])) ≡
    fault rest fault_code.NestedTooDeeply ∷ []
unfolding most_nested
beyond opened n rest is large =
    let test : nat_le most_nested n ≡ true = above most_nested n large in rw (is, test) refl
  where
    above : (m n : ℕ) → m ≤ n → nat_le m n ≡ true
    above m n large = grind (arith, nat_tests)

-- Productions.

-- the production of a symbol at this token, whatever follows it
abbrev pub Chooses : Symbol → Token → List Item → Type 0
Chooses symbol t items = (after : Token) → choice symbol t after ≡ Some items
