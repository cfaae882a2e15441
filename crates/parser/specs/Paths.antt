-- The derivation's path from the file's start to where the parser is, and where it ends.
use Rattle.std.specs.Prelude.{ℕ, ◌≡◌, List, [], ◌++◌, drop, Option, Some}
use Rattle.std.specs.Option.{option_map}
use Rattle.tokens.specs.Device.{FailureCount}
use Rattle.tokens.specs.Tokens.{tokens}
use Rattle.tokens.specs.declared.located_tokens.LocatedToken.{LocatedToken}
use Rattle.grammar.specs.declared.actions.Action.{Action}
use Rattle.grammar.specs.declared.diagnostics.ParseFault.{ParseFault}
use Rattle.grammar.specs.declared.diagnostics.ParseFault.TheVariants as parse_fault
use Rattle.grammar.specs.Building.{Representation}
use Rattle.grammar.specs.Derivation.{State, PartialTree, Definition, derived, initial_state}
use Rattle.grammar.specs.Faults.{faults_in}
use Rattle.grammar.specs.Grammar.{Item}
use Rattle.grammar.specs.Laws.StateParts.{state}
use Rattle.grammar.specs.Profile.{Profile}
use Rattle.grammar_laws.specs.Emission.{and_then, emissions}
use Rattle.parser.specs.Advancing.{IsReady}
use Rattle.parser.specs.ScopedCursors.{MayContinue, ScopedCursor, scope_of, taken_at}
use Rattle.parser.specs.Segment.{TakesTokens, account_after}
use Rattle.parser.specs.Stopping.{Stop, Stops, stop_with}

-- what a parse began with: a profile that the builder goes by, the device's bytes, if they are known, its failures, and
-- the borrows
pub record Origin : Type 0 where
  pub profile : Profile
  pub bytes : Option (List ℕ)
  pub account : FailureCount
  pub borrows : ℕ × ℕ

-- so many steps lead from these tokens to this state, without a fault, and emit these actions
pub record Leads (profile : Profile) (steps : ℕ) (located_tokens : List LocatedToken) (s : State) (acts : List Action)
    : Type 0 where
  pub comes : derived steps (initial_state located_tokens) ≡ s
  pub clean : faults_in profile steps (initial_state located_tokens) ≡ []
  pub emits : emissions steps (initial_state located_tokens) ≡ acts

-- The derivation of the whole source is where the parser is, with this on its stack and these trees made, and has
-- emitted these actions. It is so for each way that the tokens may go on, and where the device tells its bytes for
-- those told.
pub record Path (o : Origin) (stack : List Item) (values : List PartialTree) (acts : List Action) (at : ScopedCursor)
    : Type 0 where
  pub consumed : List LocatedToken
  pub steps : ℕ
  pub functions : List Definition
  pub told : (located_tokens : List LocatedToken) → option_map tokens o.bytes ≡ Some located_tokens
      → TakesTokens consumed located_tokens at.position
  pub follows : (rest : List LocatedToken) → MayContinue at.position rest →
      Leads o.profile steps (consumed ++ rest) (state stack rest values (scope_of at) functions) acts
  pub borrows : at.borrows ≡ o.borrows
  pub account : at.account ≡ o.account
  pub took : at.position.to_come ≡ option_map (drop (taken_at at.position)) o.bytes
  pub ready : IsReady at

-- The derivation of these tokens stops so. These actions were emitted up to some state before, and no function was
-- defined since.
pub record StopsBehind (profile : Profile) (located_tokens : List LocatedToken) (acts : List Action) (stop : Stop)
    : Type 0 where
  pub stops : Stops profile (initial_state located_tokens) stop
  pub steps : ℕ
  pub emits : emissions steps (initial_state located_tokens) ≡ acts
  pub functions : (derived stops.steps (initial_state located_tokens)).functions ≡
      (derived steps (initial_state located_tokens)).functions

-- The whole source has this as its first fault, or the device failed before that was known, or memory was refused.
pub record Ended (o : Origin) (acts : List Action) (fault : ParseFault) (at : ScopedCursor) : Type 0 where
  pub stops : (located_tokens : List LocatedToken) → option_map tokens o.bytes ≡ Some located_tokens →
      StopsBehind o.profile located_tokens acts (stop_with fault (taken_at at.position))
  pub borrows : at.borrows ≡ o.borrows
  pub account : at.account ≡ account_after o.account fault
  pub took : at.position.to_come ≡ option_map (drop (taken_at at.position)) o.bytes

-- each profile by which a builder began, with no action, now goes with these actions
pub record HasTold (began now : Representation) (acts : List Action) : Type 0 where
  pub each : (profile : Profile) → began profile [] → now profile acts

-- what was told in the end, if it is the device that failed, and that memory was refused, if it was that
abbrev pub Leaves : List Action → (denied : Type 0) → (told : List Action → Type 0) → ParseFault → Type 0
Leaves acts denied told (parse_fault.Source d) = Unit {0}
Leaves acts denied told parse_fault.Device = told acts
Leaves acts denied told parse_fault.Memory = denied

-- The parse is over: an error is final where it arises.
pub record Refused (o : Origin) (denied : Type 0) (told : List Action → Type 0) (fault : ParseFault) (at : ScopedCursor)
    : Type 0 where
  pub acts : List Action
  pub ended : Ended o acts fault at
  pub leaves : Leaves acts denied told fault

-- What a call of the cursor does, whatever is below these items: they are matched, which makes these trees and emits
-- these actions.
abbrev pub Passes : List Item → List PartialTree → List Action → (old new : ScopedCursor) → Type 0
Passes front trees more old new =
    (o : Origin) (below : List Item) (values : List PartialTree) (acts : List Action) →
    Path o (front ++ below) values acts old → Path o below (trees ++ values) (and_then acts more) new

-- the same with these items left, and neither a tree made nor an action emitted
abbrev pub GoesOn : (front pending : List Item) → (old new : ScopedCursor) → Type 0
GoesOn front pending old new =
    (o : Origin) (below : List Item) (values : List PartialTree) (acts : List Action) →
    Path o (front ++ below) values acts old → Path o (pending ++ below) values acts new
