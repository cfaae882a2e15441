-- Segments of a derivation one after another.
use Rattle.std.proofs.Common.{◌≡◌, ℕ, ◌+◌, List, ◌∷◌, ◌++◌, refl, ap, ◌∙◌, [], false, map}
use Rattle.std.proofs.lemmas.List.{append-nil}
use Rattle.std.specs.Prelude.{Some}
use Rattle.tokens.specs.declared.located_tokens.LocatedToken.{LocatedToken}
use Rattle.tokens.specs.declared.located_tokens.Token.{Token}
use Rattle.grammar.specs.Derivation.{State, PartialTree, Definition, derived, next_token, token_after_next, trees_after, functions_defined, scope_after_action}
use Rattle.grammar.specs.Laws.StateParts.{state}
use Rattle.grammar.specs.Grammar.{Item, Part, Make, Close, Symbol, SemanticAction, choice, is_lexical_error}
use Rattle.grammar.specs.Scope.{Scope}
use Rattle.grammar.proofs.Runs.{derived-add}

-- some steps of the derivation lead from s to t
pub record Leads (s t : State) : Type 0 where
  pub steps : ℕ
  pub leads : derived steps s ≡ t

pub then : (s t u : State) → Leads s t → Leads t u → Leads s u
then s t u a b = record {
  steps = a.steps + b.steps;
  leads = derived-add a.steps b.steps s ∙ ap (λ v. derived b.steps v) a.leads ∙ b.leads;
}

-- a token whose line and end mean nothing
abbrev pub placed : Token → LocatedToken
placed t = record { token = t; line = 0; end = 0 }

abbrev pub located_tokens_of : List Token → List LocatedToken
located_tokens_of tokens = map placed tokens

-- a state with these tokens left
abbrev pub at : List Item → List Token → List PartialTree → Scope → List Definition → State
at stack tokens values scope functions = state stack (located_tokens_of tokens) values scope functions

abbrev pub first : List Token → Token
first tokens = next_token (located_tokens_of tokens)

abbrev pub second : List Token → Token
second tokens = token_after_next (located_tokens_of tokens)

-- a symbol is replaced
pub part : (symbol : Symbol) (items stack : List Item) (tokens : List Token) (values : List PartialTree) (scope : Scope)
    (functions : List Definition) →
    is_lexical_error (first tokens) ≡ false → choice symbol (first tokens) (second tokens) ≡ Some items →
    Leads (at (Part symbol ∷ stack) tokens values scope functions) (at (items ++ stack) tokens values scope functions)
part symbol items stack tokens values scope functions sound chosen =
    record { steps = 1; leads = rw (sound, chosen) refl }

-- a tree is made; only the semantic action of a function's end adds to the functions
pub make : (rule : SemanticAction) (stack : List Item) (tokens : List Token) (values left : List PartialTree)
    (scope : Scope)
    (functions : List Definition) →
    is_lexical_error (first tokens) ≡ false → trees_after rule values ≡ left →
    functions_defined rule values scope ≡ [] →
    scope_after_action rule scope ≡ scope →
    Leads (at (Make rule ∷ stack) tokens values scope functions) (at stack tokens left scope functions)
make rule stack tokens values left scope functions sound is quiet same =
    record { steps = 1; leads = rw (sound, is, quiet, same, append-nil functions) refl }

pub close : (stack : List Item) (tokens : List Token) (values : List PartialTree) (scope : Scope)
    (functions : List Definition) →
    is_lexical_error (first tokens) ≡ false →
    Leads (at (Close ∷ stack) tokens values scope functions) (at stack tokens values scope functions)
close stack tokens values scope functions sound = record { steps = 1; leads = rw sound refl }
