-- The grammar's productions close each level that they open.
use Rattle.std.proofs.Common.{◌≡◌, ℕ, ◌+◌, refl, [], ◌∷◌, Bool, true, false}
use Rattle.std.specs.Prelude.{Option, Some, None, nat_lt, if◌then◌else◌, is_some}
use Rattle.tokens.specs.declared.located_tokens.Punctuator.{Punctuator}
use Rattle.tokens.specs.declared.located_tokens.Punctuator.TheVariants as punctuator
use Rattle.tokens.specs.declared.located_tokens.Token.{Token}
use Rattle.tokens.specs.declared.located_tokens.Token.TheVariants as token
use Rattle.tokens.specs.declared.located_tokens.Keyword.TheVariants as keyword
use Rattle.arith.specs.declared.operators.Op.{Op}
use Rattle.grammar.specs.declared.operators.StoreOp.{StoreOp}
use Rattle.grammar.specs.Grammar.{Symbol, Head, Expression, Level, Tail, Unary, Primary, Part, choice, enters, assignment_or, tail_production, unary_level}
use Rattle.grammar_laws.specs.ClosedNesting.{closes, nested_entered, NestedProductionsClose}
use Rattle.grammar.specs.Operators.{operator_at, store_of}

level_close : (n : ℕ) (b : Bool) →
    closes (if b then Some (Part (Level (n + 1)) ∷ Part (Tail n) ∷ []) else Some (Part Unary ∷ [])) ≡ 0
level_close n true = refl
level_close n false = refl

tail_close : (n : ℕ) (o : Option Op) (m : Punctuator) → closes (Some (tail_production n o m)) ≡ 0
tail_close n None m = refl
tail_close n (Some op) m = refl

assignment_close : (o : Option StoreOp) (m : Punctuator) →
    closes (Some (assignment_or o m)) ≡ nested_entered (is_some o)
assignment_close None m = refl
assignment_close (Some op) m = refl

pub nested_close : NestedProductionsClose
nested_close symbol next after = close symbol next after
  where
    close : (symbol : Symbol) (next after : Token) →
        closes (choice symbol next after) ≡ nested_entered (enters symbol next after)
    close Expression (token.Name name) (token.Punctuator m) = assignment_close (store_of m) m
    close (Level n) next after = level_close n (nat_lt n unary_level)
    close (Tail n) (token.Punctuator m) after = tail_close n (operator_at n (token.Punctuator m)) m
    close (Tail n) next after = refl
    close Head (token.Name name) (token.Punctuator punctuator.OpenRound) = refl
    close Primary (token.Name name) (token.Punctuator punctuator.OpenRound) = refl
    close symbol (token.Punctuator punctuator.Plus) after = refl
    close symbol (token.Keyword keyword.Type) after = refl
    close symbol next after = refl
