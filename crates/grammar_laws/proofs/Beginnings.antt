-- What expressions and statements begin with, and what the grammar chooses there.
use Rattle.std.proofs.Common.{◌≡◌, ℕ, List, [], ◌∷◌, ◌++◌, refl, false, append_assoc}
use Rattle.std.specs.Prelude.{Some}
use Rattle.tokens.specs.declared.located_tokens.Punctuator.TheVariants as punctuator
use Rattle.tokens.specs.declared.located_tokens.Token.{Token}
use Rattle.tokens.specs.declared.located_tokens.Token.TheVariants as token
use Rattle.grammar.specs.Grammar as grammar
use Rattle.grammar.specs.Grammar.{Exactly, Part, Make, Declarations, ElsePart, Back, Decide, choice, is_lexical_error}
use Rattle.grammar_laws.specs.Written.{Sign, Minus, Increment, Up, Expression, Constant, Variable, Binary, Signed, Assign, PreIncrement, PostIncrement, Call, NoMore, Argument, Statement, Evaluate, Statements, Done, Next}
use Rattle.grammar.specs.Operators.{binary_punctuator}
use Rattle.grammar_laws.specs.Spelling.{sign_punctuator, spelled_increment, spell, spell_statement, spell_statements}
use Rattle.grammar_laws.proofs.Leading.{first, second}
use Rattle.grammar_laws.proofs.Parts.{spell_part}

-- a statement begins with this token
pub record BeginsStatement (t : Token) : Type 0 where
  pub sound : is_lexical_error t ≡ false
  pub no_declaration : (after : Token) → choice Declarations t after ≡ Some []
  pub no_else : (after : Token) → choice ElsePart t after ≡ Some (Make Decide ∷ [])
  pub one_more : (after : Token) →
      choice grammar.Statements t after ≡ Some (Part grammar.Statement ∷ Part grammar.Statements ∷ [])

-- an expression begins with it
pub record BeginsExpression (t : Token) : Type 0 where
  pub begins : BeginsStatement t
  pub evaluates : (after : Token) →
      choice grammar.Statement t after ≡
      Some (Part grammar.Expression ∷ Exactly punctuator.Semicolon ∷ Make grammar.Evaluate ∷ [])
  pub gives_back : (after : Token) → choice Back t after ≡ Some (Part grammar.Expression ∷ [])

begins_constant : (value : ℕ) → BeginsExpression (token.Constant value)
begins_constant value = assumption

begins_name : (name : List ℕ) → BeginsExpression (token.Name name)
begins_name name = assumption

begins_round : BeginsExpression (token.Punctuator punctuator.OpenRound)
begins_round = assumption

begins_sign : (sign : Sign) → BeginsExpression (token.Punctuator (sign_punctuator sign))
begins_sign Minus = assumption
begins_sign sign = assumption

begins_increment : (increment : Increment) → BeginsExpression (token.Punctuator (spelled_increment increment))
begins_increment Up = assumption
begins_increment increment = assumption

part_first : (e : Expression) (rest : List Token) → BeginsExpression (first (spell_part e ++ rest))
part_first (Constant value) rest = begins_constant value
part_first (Variable name) rest = begins_name name
part_first e rest = begins_round

pub expression_first : (e : Expression) (rest : List Token) → BeginsExpression (first (spell e ++ rest))
expression_first (Constant value) rest = begins_constant value
expression_first (Variable name) rest = begins_name name
expression_first (Binary o a b) rest =
    rw (append_assoc (spell_part a) (token.Punctuator (binary_punctuator o) ∷ spell_part b) rest)
    (part_first a (token.Punctuator (binary_punctuator o) ∷ spell_part b ++ rest))
expression_first (Signed sign e) rest = begins_sign sign
expression_first (Assign o name e) rest = begins_name name
expression_first (PreIncrement increment name) rest = begins_increment increment
expression_first (PostIncrement increment name) rest = begins_name name
expression_first (Call name NoMore) rest = begins_name name
expression_first (Call name (Argument e more)) rest = begins_name name

pub statement_first : (s : Statement) (rest : List Token) → BeginsStatement (first (spell_statement s ++ rest))
statement_first (Evaluate e) rest =
    rw (append_assoc (spell e) (token.Punctuator punctuator.Semicolon ∷ []) rest)
    (expression_first e (token.Punctuator punctuator.Semicolon ∷ rest)).begins
statement_first s rest = assumption

-- what follows a statement: another one, or the brace
pub record Follows (tokens : List Token) : Type 0 where
  pub sound : is_lexical_error (first tokens) ≡ false
  pub no_declaration : choice Declarations (first tokens) (second tokens) ≡ Some []
  pub no_else : choice ElsePart (first tokens) (second tokens) ≡ Some (Make Decide ∷ [])

pub follows : (more : Statements) (rest : List Token) →
    Follows (spell_statements more ++ token.Punctuator punctuator.CloseCurly ∷ rest)
follows Done rest = record { sound = refl; no_declaration = refl; no_else = refl }
follows (Next s more) rest =
    let tokens : List Token = spell_statements more ++ token.Punctuator punctuator.CloseCurly ∷ rest in
    let b : BeginsStatement (first (spell_statement s ++ tokens)) = statement_first s tokens in
    rw (append_assoc (spell_statement s) (spell_statements more) (token.Punctuator punctuator.CloseCurly ∷ rest))
    (record {
      sound = b.sound;
      no_declaration = b.no_declaration (second (spell_statement s ++ tokens));
      no_else = b.no_else (second (spell_statement s ++ tokens));
    })
