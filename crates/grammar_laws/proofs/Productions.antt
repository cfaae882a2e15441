-- `choice` is the plain grammar with its semantic actions, and the names of a production have one role.
use Rattle.std.proofs.Common.{◌≡◌, ◌<◌, ℕ, ◌+◌, refl, List, [], ◌∷◌, length, Bool, true, false, arith, zero, suc}
use Rattle.std.specs.Fmt.{digits}
use Rattle.std.specs.Prelude.{Option, Some, None, nat_lt, if◌then◌else◌, option_map, replicate}
use Rattle.tokens.specs.declared.located_tokens.Punctuator.{Punctuator}
use Rattle.tokens.specs.declared.located_tokens.Punctuator.TheVariants as punctuator
use Rattle.tokens.specs.declared.located_tokens.Token.{Token}
use Rattle.tokens.specs.declared.located_tokens.Token.TheVariants as token
use Rattle.tokens.specs.declared.located_tokens.Keyword.TheVariants as keyword
use Rattle.arith.specs.declared.operators.Op.{Op}
use Rattle.grammar.specs.declared.operators.StoreOp.{StoreOp}
use Rattle.grammar.specs.Grammar.{Role, Symbol, Head, Expression, Level, Tail, Unary, Primary, Mentioned, Part, assignment_or, choice, tail_production, binary_levels, unary_level}
use Rattle.grammar.specs.Operators.{operator_at, store_of}
use Rattle.grammar_laws.specs.Scheme.{ActsByRows, ChoosesRows, HasOneRole, IsSymbol, action_rows, actions_after, in_words, found_actions, of_symbol, plain, role_in_production, roles_in, roles_of}

-- the production chosen is the row's, with the semantic actions listed for it
abbrev Fits : Symbol → Token → Token → Type 0
Fits symbol next after = (option_map in_words (choice symbol next after) ≡ plain symbol next after)
    × (option_map (actions_after 0) (choice symbol next after)
    ≡ option_map (found_actions (of_symbol symbol) action_rows) (plain symbol next after))

level_fits : (n : ℕ) (next after : Token) → n < unary_level → Fits (Level (suc n)) next after
unfolding digits
level_fits (suc (suc (suc (suc (suc (suc (suc (suc (suc (suc (suc n))))))))))) next after l = absurd (omega arith)
level_fits n next after l = (refl, refl)

tail_fits : (n : ℕ) (next after : Token) → n < binary_levels → Fits (Tail (suc n)) next after
unfolding digits
tail_fits (suc (suc (suc (suc (suc (suc (suc (suc (suc (suc n)))))))))) next after l = absurd (omega arith)
tail_fits n (token.Punctuator punctuator.Plus) after l = (refl, refl)
tail_fits n (token.Keyword keyword.Type) after l = (refl, refl)
tail_fits n next after l = (refl, refl)

fits : (symbol : Symbol) (next after : Token) → IsSymbol symbol → Fits symbol next after
unfolding digits
fits (Level zero) next after d = absurd (omega arith)
fits (Level (suc n)) next after d = level_fits n next after (omega arith)
fits (Tail zero) next after d = absurd (omega arith)
fits (Tail (suc n)) next after d = tail_fits n next after (omega arith)
fits Head (token.Name name) (token.Punctuator punctuator.Plus) d = (refl, refl)
fits Head (token.Name name) (token.Keyword keyword.Type) d = (refl, refl)
fits Expression (token.Name name) (token.Punctuator punctuator.Plus) d = (refl, refl)
fits Expression (token.Name name) (token.Keyword keyword.Type) d = (refl, refl)
fits Primary (token.Name name) (token.Punctuator punctuator.Plus) d = (refl, refl)
fits Primary (token.Name name) (token.Keyword keyword.Type) d = (refl, refl)
fits symbol (token.Punctuator punctuator.Plus) after d = (refl, refl)
fits symbol (token.Keyword keyword.Type) after d = (refl, refl)
fits symbol next after d = (refl, refl)

pub chooses_rows : ChoosesRows
chooses_rows symbol next after d = (fits symbol next after d).0

pub acts_by_rows : ActsByRows
acts_by_rows symbol next after d = (fits symbol next after d).1

-- the names of a production have its role
abbrev AreFor : Role → List Role → Type 0
AreFor role roles = roles ≡ replicate (length roles) role

level_role : (n : ℕ) (b : Bool) →
    AreFor Mentioned (roles_of (if b then Some (Part (Level (n + 1)) ∷ Part (Tail n) ∷ []) else Some (Part Unary ∷ [])))
level_role n true = refl
level_role n false = refl

tail_role : (n : ℕ) (o : Option Op) (m : Punctuator) → AreFor Mentioned (roles_in (tail_production n o m))
tail_role n None m = refl
tail_role n (Some op) m = refl

expression_role : (o : Option StoreOp) (m : Punctuator) → AreFor Mentioned (roles_in (assignment_or o m))
expression_role None m = refl
expression_role (Some op) m = refl

pub has_one_role : HasOneRole
has_one_role symbol next after = role symbol next after
  where
    role : (symbol : Symbol) (next after : Token) →
        AreFor (role_in_production symbol after) (roles_of (choice symbol next after))
    role Expression (token.Name name) (token.Punctuator m) = expression_role (store_of m) m
    role (Level n) next after = level_role n (nat_lt n unary_level)
    role (Tail n) (token.Punctuator m) after = tail_role n (operator_at n (token.Punctuator m)) m
    role (Tail n) next after = refl
    role Head (token.Name name) (token.Punctuator punctuator.OpenRound) = refl
    role Primary (token.Name name) (token.Punctuator punctuator.OpenRound) = refl
    role symbol (token.Punctuator punctuator.Plus) after = refl
    role symbol (token.Keyword keyword.Type) after = refl
    role symbol next after = refl
