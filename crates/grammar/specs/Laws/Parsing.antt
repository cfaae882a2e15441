-- A segment of a derivation without a fault, and its first fault.
use Rattle.std.specs.Prelude.{ℕ, ◌≡◌, ◌⊎◌, List, [], ◌∷◌, true}
use Rattle.grammar.specs.declared.diagnostics.Diagnostic.{Diagnostic}
use Rattle.grammar.specs.Derivation.{State, derived, line_at}
use Rattle.grammar.specs.Faults.{Fault, faults_at, faults_in, is_first}
use Rattle.grammar.specs.Profile.{Profile}

-- the fault is one of these
abbrev pub IsIn : Fault → List Fault → Type 0
IsIn f [] = ⊥
IsIn f (g ∷ faults) = (g ≡ f) ⊎ IsIn f faults

-- the fault comes somewhere in the derivation from s
pub record IsFault (profile : Profile) (s : State) (f : Fault) : Type 0 where
  pub steps : ℕ
  pub here : IsIn f (faults_at profile (derived steps s))

-- and no other comes before it
pub record IsFirstFault (profile : Profile) (s : State) (f : Fault) : Type 0 where
  pub comes : IsFault profile s f
  pub first : (g : Fault) → IsFault profile s g → is_first f g ≡ true

-- the diagnostic is that of the first fault
pub record Fails (profile : Profile) (s : State) (d : Diagnostic) : Type 0 where
  pub fault : Fault
  pub first : IsFirstFault profile s fault
  pub line : d.line ≡ line_at fault.rest
  pub code : d.code ≡ fault.code

-- the derivation leads from s to t without a fault on the way
pub record DerivesWithoutFault (profile : Profile) (s t : State) : Type 0 where
  pub steps : ℕ
  pub leads : derived steps s ≡ t
  pub clean : faults_in profile steps s ≡ []
