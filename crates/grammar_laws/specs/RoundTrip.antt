-- The round-trip law: the derivation returns what is spelled in brackets and braces.
use Rattle.std.specs.Prelude.{◌≡◌, ℕ, List, [], ◌∷◌, map}
use Rattle.tokens.specs.declared.located_tokens.LocatedToken.{LocatedToken}
use Rattle.tokens.specs.declared.located_tokens.Token.{Token}
use Rattle.grammar.specs.Compiled.{last_state, main_name}
use Rattle.grammar.specs.Derivation.{Definition}
use Rattle.grammar.specs.Scope.{Scope, no_names, begin_definition, end_definition}
use Rattle.grammar.specs.Tree as tree
use Rattle.grammar.specs.Tree.{Body}
use Rattle.grammar_laws.specs.Written.{Expression, Statement}
use Rattle.grammar_laws.specs.Spelling.{spell, spell_statement, closed, in_main}
use Rattle.grammar_laws.specs.Resolving.{tree_of, behind, body_of, behind_statement}

-- tokens, on any lines
abbrev pub tokens_of : List LocatedToken → List Token
tokens_of located_tokens = map (λ (l : LocatedToken). l.token) located_tokens

-- the names in scope, but for the lines on which they were first mentioned
abbrev pub without_lines : Scope → Scope
without_lines scope = record scope { lines = [] }

-- the scope at the beginning of the body of main
abbrev pub in_body : Scope
in_body = begin_definition main_name 0 no_names

-- the function main, of number 0, without parameters
abbrev pub main_of : List (List ℕ) → Body → Definition
main_of variables body = record {
  number = 0;
  function = record
      { name = main_name; parameters = 0; variables = variables; body = body };
}

-- The derivation ends with all tokens matched. Its one function is main, which has this body, and knows these names at
-- its end.
pub record DerivesMain (located_tokens : List LocatedToken) (body : Body) (learnt : Scope) : Type 0 where
  pub nothing_open : (last_state located_tokens).stack ≡ []
  pub all_matched : (last_state located_tokens).rest ≡ []
  pub functions : (last_state located_tokens).functions ≡ main_of learnt.current.variables body ∷ []
  pub names : without_lines (last_state located_tokens).scope ≡ without_lines (end_definition learnt)

-- each statement
abbrev pub GivesBackStatements : Type 0
GivesBackStatements = (s : Statement) (located_tokens : List LocatedToken)
    → tokens_of located_tokens ≡ in_main (spell_statement s) →
    DerivesMain located_tokens (body_of s in_body) (behind_statement s in_body)

-- each expression, followed by ;
abbrev pub GivesBackExpressions : Type 0
GivesBackExpressions = (e : Expression) (located_tokens : List LocatedToken)
    → tokens_of located_tokens ≡ in_main (closed (spell e)) →
    DerivesMain located_tokens (tree.ExpressionStatement (tree_of e in_body) tree.Done) (behind e in_body)
