-- What a name in a role does to the names in scope, and what may be wrong with it.
use Rattle.std.specs.Prelude.{◌≡◌, ℕ, ◌+◌, ◌<◌, ◌≤◌, List, [], ◌∷◌, ◌++◌, Option, Some, None, length, true, eqb, ◌==◌}
use Rattle.std.specs.Prelude.{if◌then◌else◌}
use Rattle.std.specs.List.{IsDistinct, list_any}
use Rattle.tokens.specs.declared.located_tokens.LocatedToken.{LocatedToken}
use Rattle.grammar.specs.declared.diagnostics.Code.{Code}
use Rattle.grammar.specs.declared.name_limits.TheConstants.{MOST_NAMES}
use Rattle.grammar.specs.Faults.{fault, role_faults}
use Rattle.grammar.specs.Grammar.{Role}
use Rattle.grammar.specs.Scope.{Scope, scope_after_name, only_named}

-- the name has no fault, and the new scope is that after it
pub record LearnsName (role : Role) (name : List ℕ) (line : ℕ) (old new : Scope) : Type 0 where
  pub clean : (rest : List LocatedToken) → role_faults role name old rest ≡ []
  pub behind : new ≡ scope_after_name role name line old

-- the name has this one fault
abbrev pub RefusesName : Role → List ℕ → Scope → Code → Type 0
RefusesName role name scope c = (rest : List LocatedToken) → role_faults role name scope rest ≡ fault rest c ∷ []

-- the definition of the function of this name and number begins
abbrev pub with_begun : ℕ → List ℕ → Scope → Scope
with_begun number name scope = record scope {
  begun = scope.begun ++ number ∷ [];
  number = number;
  current = only_named name;
}

-- each function that was mentioned has its line, and the definition of each begins once at most
pub record IsScopeKept {F : Type 0} (functions : List F) (lines begun : List ℕ) : Type 0 where
  pub few : length functions ≤ MOST_NAMES
  pub lined : length lines ≡ length functions
  pub once : IsDistinct eqb begun
  pub within : (q : ℕ) → list_any (eqb q) begun ≡ true → q < length functions

-- the line of the first mention of the first function, by number, whose definition didn't begin
abbrev pub line_of_undefined : ℕ → List ℕ → List ℕ → Option ℕ
line_of_undefined number [] begun = None
line_of_undefined number (line ∷ lines) begun = if list_any (λ k. k == number) begun then line_of_undefined
    (number + 1) lines begun else Some line
