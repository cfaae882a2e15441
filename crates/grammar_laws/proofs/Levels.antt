-- From a level of operators down to its first operand, and up again after the last one.
use Rattle.std.proofs.Common.{◌≡◌, ℕ, zero, suc, ◌+◌, List, [], ◌∷◌, refl, false, true, arith}
use Rattle.std.proofs.lemmas.Bool.Decides.{nat_tests}
use Rattle.std.specs.Prelude.{nat_lt, ◌-◌, Option, Some, None}
use Rattle.tokens.specs.declared.located_tokens.Punctuator.{Punctuator}
use Rattle.tokens.specs.declared.located_tokens.Punctuator.TheVariants as punctuator
use Rattle.tokens.specs.declared.located_tokens.Token.{Token}
use Rattle.tokens.specs.declared.located_tokens.Token.TheVariants as token
use Rattle.arith.specs.declared.operators.Op.{Op}
use Rattle.arith.specs.declared.operators.Op.TheVariants as op
use Rattle.grammar.specs.Derivation.{PartialTree, Definition}
use Rattle.grammar.specs.Grammar.{Item, Part, Make, Level, Tail, Unary, Operate, is_lexical_error, binary_levels, unary_level}
use Rattle.grammar.specs.Scope.{Scope}
use Rattle.grammar.specs.declared.operators.BinaryOperator.{BinaryOperator}
use Rattle.grammar.specs.Operators.{binary_of, binary_punctuator}
use Rattle.grammar_laws.proofs.Leading.{Leads, then, at, first, part}

-- the tails of m levels from level n on, the tightest in front
abbrev pub tails : ℕ → ℕ → List Item → List Item
tails zero n stack = stack
tails (suc m) n stack = tails m (n + 1) (Part (Tail n) ∷ stack)

-- those of all levels
abbrev pub every_tail : List Item → List Item
every_tail stack = tails binary_levels 1 stack

tighter : (m n : ℕ) → suc m + n ≡ unary_level → nat_lt n unary_level ≡ true
tighter m n sum = grind (arith, nat_tests)

tightest : (n : ℕ) → zero + n ≡ unary_level → nat_lt n unary_level ≡ false
tightest n sum = grind (arith, nat_tests)

next_sum : (m n : ℕ) → suc m + n ≡ unary_level → m + (n + 1) ≡ unary_level
next_sum m n sum = omega arith

pub down : (m n : ℕ) (stack : List Item) (tokens : List Token) (values : List PartialTree) (scope : Scope)
    (functions : List Definition) →
    m + n ≡ unary_level → is_lexical_error (first tokens) ≡ false →
    Leads (at (Part (Level n) ∷ stack) tokens values scope functions)
    (at (Part Unary ∷ tails m n stack) tokens values scope functions)
down zero n stack tokens values scope functions sum sound =
    part (Level n) (Part Unary ∷ []) stack tokens values scope functions sound (rw (tightest n sum) refl)
down (suc m) n stack tokens values scope functions sum sound = then _ _ _
    (part (Level n) (Part (Level (n + 1)) ∷ Part (Tail n) ∷ []) stack tokens values scope functions sound
    (rw (tighter m n sum) refl))
    (down m (n + 1) (Part (Tail n) ∷ stack) tokens values scope functions (next_sum m n sum) sound)

-- a punctuator after an expression
pub data Closing : Type 0 where
  Round : Closing
  Comma : Closing
  Semicolon : Closing

abbrev pub closing_punctuator : Closing → Punctuator
closing_punctuator Round = punctuator.CloseRound
closing_punctuator Comma = punctuator.Comma
closing_punctuator Semicolon = punctuator.Semicolon

no_tail : (n : ℕ) (c : Closing) (stack : List Item) (tokens : List Token) (values : List PartialTree) (scope : Scope)
    (functions : List Definition) →
    Leads (at (Part (Tail n) ∷ stack) (token.Punctuator (closing_punctuator c) ∷ tokens) values scope functions)
    (at stack (token.Punctuator (closing_punctuator c) ∷ tokens) values scope functions)
no_tail n Round stack tokens values scope functions = record { steps = 1; leads = refl }
no_tail n c stack tokens values scope functions = record { steps = 1; leads = refl }

pub up : (m n : ℕ) (c : Closing) (stack : List Item) (tokens : List Token) (values : List PartialTree) (scope : Scope)
    (functions : List Definition) →
    Leads (at (tails m n stack) (token.Punctuator (closing_punctuator c) ∷ tokens) values scope functions)
    (at stack (token.Punctuator (closing_punctuator c) ∷ tokens) values scope functions)
up zero n c stack tokens values scope functions = record { steps = 0; leads = refl }
up (suc m) n c stack tokens values scope functions = then _ _ _
    (up m (n + 1) c (Part (Tail n) ∷ stack) tokens values scope functions)
    (no_tail n c stack tokens values scope functions)

-- the level of an operator, and how many are tighter

abbrev level_in : Option BinaryOperator → ℕ
level_in None = zero
level_in (Some b) = b.level

abbrev pub level_of : Op → ℕ
level_of o = level_in (binary_of (binary_punctuator o))

abbrev pub tighter_levels : Op → ℕ
tighter_levels o = binary_levels - level_of o

-- up to the level of an operator, and after its punctuator
pub record Operates (o : Op) : Type 0 where
  pub sum : tighter_levels o + (level_of o + 1) ≡ unary_level
  pub goes : (stack : List Item) (tokens : List Token) (values : List PartialTree) (scope : Scope)
      (functions : List Definition) →
      Leads (at (every_tail stack) (token.Punctuator (binary_punctuator o) ∷ tokens) values scope functions)
      (at (Part (Level (level_of o + 1)) ∷ Make (Operate o) ∷ tails (level_of o) 1 stack) tokens values scope functions)

-- a step for each tail of a tighter level, one for the operator's tail, and one for its punctuator
pub operates : (o : Op) → Operates o
operates op.Or =
    record {
      sum = refl;
      goes = λ stack tokens values scope functions. record { steps = tighter_levels op.Or + 2; leads = refl };
    }
operates o =
    record {
      sum = refl;
      goes = λ stack tokens values scope functions. record { steps = tighter_levels o + 2; leads = refl };
    }
