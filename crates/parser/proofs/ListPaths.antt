-- Lists and headers along the path: they emit nothing.
use Rattle.std.proofs.Common.{◌≡◌, List, [], ◌∷◌, ◌++◌, refl}
use Rattle.std.specs.Prelude.{Result, Ok, Err, OnOk}
use Rattle.tokens.specs.declared.located_tokens.Token.{Token}
use Rattle.grammar.specs.declared.actions.Action.{Action}
use Rattle.grammar.specs.declared.diagnostics.ParseFault.{ParseFault}
use Rattle.grammar.specs.Derivation.{PartialTree}
use Rattle.grammar.specs.Grammar.{Item, Part, Symbol}
use Rattle.grammar.specs.Scope.{Scope}
use Rattle.grammar_laws.specs.Emission.{on_choice}
use Rattle.parser.specs.declared.roles.Declared.{Declared}
use Rattle.parser.specs.declared.roles.Declared.TheVariants as kind
use Rattle.parser.specs.Declarations.{declarations_of}
use Rattle.parser.specs.Paths.{Origin, Path}
use Rattle.parser.specs.ScopedCursors.{ScopedCursor, scope_of, token_of}
use Rattle.parser.proofs.ListLaws.{Gives}
use Rattle.parser.proofs.PathLaws.{chosen}

pub given : {o : Origin} {stack : List Item} {values : List PartialTree} {acts : List Action} {at : ScopedCursor}
    (symbol : Symbol) (items : List Item) → Gives symbol (token_of at) items →
    on_choice symbol (token_of at) (scope_of at) ≡ [] → Path o (Part symbol ∷ stack) values acts at →
    Path o (items ++ stack) values acts at
given symbol items gives e h =
    chosen {more = []} symbol items (λ after last. gives.chosen after) (λ after last. gives.plain after) e h

pub emit_nothing : (declared : Declared) (next : Token) (scope : Scope) →
    on_choice (declarations_of declared) next scope ≡ []
emit_nothing kind.Externals next scope = refl
emit_nothing kind.Parameters next scope = refl
emit_nothing kind.TypedParameters next scope = refl
emit_nothing kind.Locals next scope = refl

-- if the last call is right, so is this one
pub on_ok : {A : Type 0} (r : Result A ParseFault) {P Q : Type 0} → (P → Q) → OnOk r P → OnOk r Q
on_ok (Ok x) on h = on h
on_ok (Err fault) on h = h
