-- Single steps of a derivation, by the item in front.
use Rattle.std.proofs.Common.{◌≡◌, ℕ, pos, List, [], ◌∷◌, ◌++◌, refl, ap, true, false, drop}
use Rattle.std.specs.Prelude.{Some}
use Rattle.tokens.specs.declared.located_tokens.LocatedToken.{LocatedToken}
use Rattle.tokens.specs.declared.located_tokens.Token.{Token}
use Rattle.grammar.specs.Derivation.{State, PartialTree, AnExpr, Definition, stepped, next_token, token_after_next, line_at, name_tree, name_of_token, constant_value}
use Rattle.grammar.specs.Laws.StateParts.{state}
use Rattle.grammar.specs.Faults.{faults_at, nesting_faults, role_faults}
use Rattle.grammar.specs.Grammar.{Item, Exactly, AKeyword, AName, AConstant, Part, Symbol, Role, choice, is_punctuator, is_keyword, is_lexical_error}
use Rattle.grammar.specs.Laws.Parsing.{DerivesWithoutFault}
use Rattle.grammar.specs.Profile.{Profile}
use Rattle.grammar.specs.Scope.{Scope, scope_after_name}
use Rattle.grammar.specs.Tree.{Constant}

pub one : (profile : Profile) (s t : State) → faults_at profile s ≡ [] → stepped s ≡ t → DerivesWithoutFault profile s t
one profile s t clean leads = record { steps = 1; leads = leads; clean = ap (λ faults. faults ++ []) clean }

pub part : (profile : Profile) (symbol : Symbol) (items stack : List Item) (rest : List LocatedToken)
    (values : List PartialTree) (scope : Scope) (functions : List Definition) →
    is_lexical_error (next_token rest) ≡ false → choice symbol (next_token rest) (token_after_next rest) ≡ Some items →
    nesting_faults symbol (state stack rest values scope functions) ≡ [] →
    DerivesWithoutFault profile (state (Part symbol ∷ stack) rest values scope functions)
    (state (items ++ stack) rest values scope functions)
part profile symbol items stack rest values scope functions sound chosen clean =
    one profile _ _ (rw (sound, clean, chosen) refl) (rw (sound, chosen) refl)

-- the token that such an item wants
abbrev pub IsWanted : Item → Token → Type 0
IsWanted (Exactly m) t = is_punctuator m t ≡ true
IsWanted (AKeyword w) t = is_keyword w t ≡ true
IsWanted item t = ⊥

pub wanted : (profile : Profile) (item : Item) (stack : List Item) (rest : List LocatedToken)
    (values : List PartialTree)
    (scope : Scope) (functions : List Definition) →
    is_lexical_error (next_token rest) ≡ false → IsWanted item (next_token rest) →
    DerivesWithoutFault profile (state (item ∷ stack) rest values scope functions)
    (state stack (drop 1 rest) values scope functions)
wanted profile (Exactly m) stack rest values scope functions sound fits =
    one profile _ _ (rw (sound, fits) refl) (rw (sound, fits) refl)
wanted profile (AKeyword w) stack rest values scope functions sound fits =
    one profile _ _ (rw (sound, fits) refl) (rw (sound, fits) refl)
wanted profile item stack rest values scope functions sound fits = absurd fits

-- a name, whose role has no fault there
pub name : (profile : Profile) (role : Role) (bytes : List ℕ) (stack : List Item) (rest : List LocatedToken)
    (values : List PartialTree) (scope : Scope) (functions : List Definition) →
    is_lexical_error (next_token rest) ≡ false → name_of_token (next_token rest) ≡ Some bytes →
    role_faults role bytes scope rest ≡ [] →
    DerivesWithoutFault profile (state (AName role ∷ stack) rest values scope functions)
    (state stack (drop 1 rest) (name_tree role bytes scope ++ values) (scope_after_name role bytes (line_at rest) scope)
    functions)
name profile role bytes stack rest values scope functions sound fits clean =
    one profile _ _ (rw (sound, fits, clean) refl) (rw (sound, fits) refl)

pub constant : (profile : Profile) (value : ℕ) (stack : List Item) (rest : List LocatedToken)
    (values : List PartialTree)
    (scope : Scope) (functions : List Definition) →
    is_lexical_error (next_token rest) ≡ false → constant_value (next_token rest) ≡ Some value →
    DerivesWithoutFault profile (state (AConstant ∷ stack) rest values scope functions)
    (state stack (drop 1 rest) (AnExpr (Constant (pos value)) ∷ values) scope functions)
constant profile value stack rest values scope functions sound fits =
    one profile _ _ (rw (sound, fits) refl) (rw (sound, fits) refl)
