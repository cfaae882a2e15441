-- A part of an expression: bare, or in brackets.
use Rattle.std.proofs.Common.{◌≡◌, ℕ, ◌+◌, List, [], ◌∷◌, ◌++◌, refl, false, append_assoc}
use Rattle.std.specs.Prelude.{Some}
use Rattle.tokens.specs.declared.located_tokens.Punctuator.{Punctuator}
use Rattle.tokens.specs.declared.located_tokens.Punctuator.TheVariants as punctuator
use Rattle.tokens.specs.declared.located_tokens.Token.{Token}
use Rattle.tokens.specs.declared.located_tokens.Token.TheVariants as token
use Rattle.arith.specs.declared.operators.Op.{Op}
use Rattle.arith.specs.declared.operators.Op.TheVariants as op
use Rattle.grammar.specs.Derivation.{PartialTree, AnExpr, AVariable, Definition}
use Rattle.grammar.specs.Grammar as grammar
use Rattle.grammar.specs.Grammar.{Item, Exactly, AName, Part, Make, Close, Mentioned, Level, Unary, Primary, Fetch, choice, is_lexical_error, Symbol, binary_levels, unary_level}
use Rattle.grammar.specs.Scope.{Scope, variable_of}
use Rattle.grammar_laws.specs.Written.{Expression, Constant, Variable}
use Rattle.grammar.specs.Operators.{binary_punctuator}
use Rattle.grammar_laws.specs.Spelling.{spell, as_part, brackets}
use Rattle.grammar_laws.specs.Resolving.{tree_of, behind, mentioned}
use Rattle.grammar_laws.proofs.Leading.{Leads, then, at, first, second, part, make}
use Rattle.grammar_laws.proofs.Levels.{tails, down, up, Closing, Round, closing_punctuator}

-- before this punctuator a name is a variable, and begins no assignment
pub record EndsPart (m : Punctuator) : Type 0 where
  pub fetches : (name : List ℕ) →
      choice Primary (token.Name name) (token.Punctuator m) ≡ Some (AName Mentioned ∷ Make Fetch ∷ [])
  pub begins : (name : List ℕ) →
      choice grammar.Expression (token.Name name) (token.Punctuator m) ≡ Some (Part (Level 1) ∷ [])

pub closing_ends : (c : Closing) → EndsPart (closing_punctuator c)
closing_ends Round = record { fetches = λ name. refl; begins = λ name. refl }
closing_ends c = record { fetches = λ name. refl; begins = λ name. refl }

pub operator_ends : (o : Op) → EndsPart (binary_punctuator o)
operator_ends op.Or = record { fetches = λ name. refl; begins = λ name. refl }
operator_ends o = record { fetches = λ name. refl; begins = λ name. refl }

-- the derivation takes an expression from these tokens, up to the punctuator after it
abbrev pub IsTakenFrom : List Token → Symbol → Expression → Type 0
IsTakenFrom tokens symbol e =
    (c : Closing) (rest : List Token) (stack : List Item) (values : List PartialTree) (scope : Scope)
    (functions : List Definition) →
    Leads (at (Part symbol ∷ stack) (tokens ++ token.Punctuator (closing_punctuator c) ∷ rest) values scope functions)
    (at stack (token.Punctuator (closing_punctuator c) ∷ rest) (AnExpr (tree_of e scope) ∷ values) (behind e scope)
    functions)

-- as it is spelled
abbrev pub IsTaken : Expression → Type 0
IsTaken e = IsTakenFrom (spell e) grammar.Expression e

abbrev pub spell_part : Expression → List Token
spell_part e = as_part e (spell e)

-- an operand
abbrev pub IsOperand : Expression → Type 0
IsOperand e =
    (m : Punctuator) → EndsPart m →
    (rest : List Token) (stack : List Item) (values : List PartialTree) (scope : Scope) (functions : List Definition) →
    Leads (at (Part Unary ∷ stack) (spell_part e ++ token.Punctuator m ∷ rest) values scope functions)
    (at stack (token.Punctuator m ∷ rest) (AnExpr (tree_of e scope) ∷ values) (behind e scope) functions)

in_brackets : (e : Expression) → IsTaken e →
    (m : Punctuator) (rest : List Token) (stack : List Item) (values : List PartialTree) (scope : Scope)
    (functions : List Definition) →
    Leads (at (Part Unary ∷ stack) (brackets (spell e) ++ token.Punctuator m ∷ rest) values scope functions)
    (at stack (token.Punctuator m ∷ rest) (AnExpr (tree_of e scope) ∷ values) (behind e scope) functions)
in_brackets e taken m rest stack values scope functions =
    rw (append_assoc (spell e) (token.Punctuator punctuator.CloseRound ∷ []) (token.Punctuator m ∷ rest))
    (then _
    (at (Part grammar.Expression ∷ Exactly punctuator.CloseRound ∷ Close ∷ stack)
    (spell e ++ token.Punctuator punctuator.CloseRound ∷ token.Punctuator m ∷ rest) values scope functions) _
    (record { steps = 3; leads = refl })
    (then _ _ (at stack (token.Punctuator m ∷ rest) (AnExpr (tree_of e scope) ∷ values) (behind e scope) functions)
    (taken Round (token.Punctuator m ∷ rest) (Exactly punctuator.CloseRound ∷ Close ∷ stack) values scope functions)
    (record { steps = 2; leads = refl })))

pub a_constant : (value : ℕ) → IsOperand (Constant value)
a_constant value m ends rest stack values scope functions = record { steps = 3; leads = refl }

pub a_name : (name : List ℕ) → IsOperand (Variable name)
a_name name m ends rest stack values scope functions =
    then _ (at (Part Primary ∷ stack) (token.Name name ∷ token.Punctuator m ∷ rest) values scope functions) _
    (record { steps = 1; leads = refl })
    (then _ _ _
    (part Primary (AName Mentioned ∷ Make Fetch ∷ []) stack (token.Name name ∷ token.Punctuator m ∷ rest) values scope
    functions refl (ends.fetches name))
    (then _
    (at (Make Fetch ∷ stack) (token.Punctuator m ∷ rest) (AVariable (variable_of name scope) ∷ values)
    (mentioned name scope) functions) _
    (record { steps = 1; leads = refl })
    (make Fetch stack (token.Punctuator m ∷ rest) _ _ (mentioned name scope) functions refl refl refl refl)))

pub operand : (e : Expression) → IsTaken e → IsOperand e
operand (Constant value) taken = a_constant value
operand (Variable name) taken = a_name name
operand e taken = λ m ends rest stack values scope functions. in_brackets e taken m rest stack values scope functions

-- what a part begins with

pub part_sound : (e : Expression) (rest : List Token) → is_lexical_error (first (spell_part e ++ rest)) ≡ false
part_sound (Constant value) rest = refl
part_sound e rest = refl

pub part_begins : (e : Expression) (m : Punctuator) (rest : List Token) → EndsPart m →
    choice grammar.Expression (first (spell_part e ++ token.Punctuator m ∷ rest))
    (second (spell_part e ++ token.Punctuator m ∷ rest)) ≡ Some (Part (Level 1) ∷ [])
part_begins (Variable name) m rest ends = ends.begins name
part_begins e m rest ends = refl

-- a part after which a level of operators ends
pub part_at_level : (e : Expression) → IsOperand e → (m n : ℕ) → m + n ≡ unary_level →
    IsTakenFrom (spell_part e) (Level n) e
part_at_level e is m n sum c rest stack values scope functions =
    then _ _ _
    (down m n stack (spell_part e ++ token.Punctuator (closing_punctuator c) ∷ rest) values scope functions sum
    (part_sound e (token.Punctuator (closing_punctuator c) ∷ rest)))
    (then _ _ _ (is (closing_punctuator c) (closing_ends c) rest (tails m n stack) values scope functions)
    (up m n c stack rest (AnExpr (tree_of e scope) ∷ values) (behind e scope) functions))

-- a part that is an expression of its own
pub part_alone : (e : Expression) → IsOperand e → IsTakenFrom (spell_part e) grammar.Expression e
part_alone e is c rest stack values scope functions =
    then _ _ _
    (part grammar.Expression (Part (Level 1) ∷ []) stack
    (spell_part e ++ token.Punctuator (closing_punctuator c) ∷ rest) values scope functions
    (part_sound e (token.Punctuator (closing_punctuator c) ∷ rest))
    (part_begins e (closing_punctuator c) rest (closing_ends c)))
    (part_at_level e is binary_levels 1 refl c rest stack values scope functions)
