-- What a derivation emits: the actions of the functions that it defines.
use Rattle.std.specs.Prelude.{◌≡◌, ◌<◌, ◌≤◌, ℕ, List, [], ◌∷◌, ◌++◌, Ok, length}
use Rattle.tokens.specs.declared.located_tokens.LocatedToken.{LocatedToken}
use Rattle.grammar.specs.declared.actions.Action.{Action}
use Rattle.grammar.specs.declared.actions.Action.TheVariants.{FetchVariable, StoreVariable, EndCall, BeginFunction}
use Rattle.grammar.specs.declared.actions.Action.TheVariants.{EndFunction}
use Rattle.grammar.specs.Actions.{actions}
use Rattle.grammar.specs.Beginning.{IsBeginning}
use Rattle.grammar.specs.Compiled.{compiled_tokens, enough_steps}
use Rattle.grammar.specs.Derivation.{Definition, initial_state, derived}
use Rattle.grammar_laws.specs.Emission.{emitted, emissions}
use Rattle.grammar.specs.Faults.{faults_at, faults_in}
use Rattle.grammar.specs.Beginning.{definitions_actions}
use Rattle.grammar.specs.NameLimits.{most_names}
use Rattle.grammar.specs.Profile.{Profile}
use Rattle.grammar.specs.Resolved.{IsVariable, IsCallable}
use Rattle.grammar.specs.Tree.{File}

-- a derivation that is done has emitted the actions of the functions that it defined, whatever faults it has
abbrev pub EmitsItsFunctions : Type 0
EmitsItsFunctions = (n : ℕ) (located_tokens : List LocatedToken) → (derived n (initial_state located_tokens)).stack ≡ []
    →
    emissions n (initial_state located_tokens) ≡
    definitions_actions (derived n (initial_state located_tokens)).functions

-- that of a source that is a file has emitted the file's actions
abbrev pub EmitsItsFile : Type 0
EmitsItsFile = (profile : Profile) (located_tokens : List LocatedToken) (file : File)
    → compiled_tokens profile located_tokens ≡ Ok file
    → emissions (enough_steps located_tokens) (initial_state located_tokens) ≡ actions file

-- these are the actions of the functions defined so far, and a part of those of one more at most
pub record IsPart (acts : List Action) (functions : List Definition) : Type 0 where
  pub part : List Action
  pub is : acts ≡ definitions_actions functions ++ part
  pub further : List Definition
  pub one : length further ≤ 1
  pub rest : List Action
  pub begins : part ++ rest ≡ definitions_actions further

-- so it is at each state
abbrev pub EmitsAPart : Type 0
EmitsAPart = (n : ℕ) (located_tokens : List LocatedToken)
    → IsPart (emissions n (initial_state located_tokens)) (derived n (initial_state located_tokens)).functions

-- what the steps from states without a fault emit may be reported to a builder
abbrev pub EmitsABeginning : Type 0
EmitsABeginning = (profile : Profile) (n : ℕ) (located_tokens : List LocatedToken)
    → faults_in profile n (initial_state located_tokens) ≡ [] → IsBeginning (emissions n (initial_state located_tokens))

-- What a state emits may be reported after that, if it has no fault by another profile: what it emits doesn't depend on
-- how much code there may be.
abbrev pub NextMayFollow : Type 0
NextMayFollow = (profile other : Profile) (n : ℕ) (located_tokens : List LocatedToken)
    → faults_in profile n (initial_state located_tokens) ≡ [] →
    faults_at other (derived n (initial_state located_tokens)) ≡ []
    → IsBeginning (emissions n (initial_state located_tokens) ++ emitted (derived n (initial_state located_tokens)))

-- the numbers of the variables and functions in an action are below the limit
abbrev pub IsNumbered : Action → Type 0
IsNumbered (FetchVariable v) = IsVariable most_names most_names v
IsNumbered (StoreVariable v op) = IsVariable most_names most_names v
IsNumbered (EndCall f) = IsCallable most_names f
IsNumbered (BeginFunction number parameters) = (number < most_names) × (parameters ≤ most_names)
IsNumbered (EndFunction variables) = variables ≤ most_names
IsNumbered action = Unit {0}

abbrev pub AreNumbered : List Action → Type 0
AreNumbered [] = Unit {0}
AreNumbered (action ∷ acts) = IsNumbered action × AreNumbered acts

-- so it is in any actions that may be reported
abbrev pub BeginningsAreNumbered : Type 0
BeginningsAreNumbered = (acts : List Action) → IsBeginning acts → AreNumbered acts
