-- Where a derivation stops: at its first fault, when the device failed, or when a builder was refused memory.
use Rattle.std.specs.Prelude.{ℕ, ◌+◌, ◌≡◌, ◌≤◌, List, ◌++◌, length}
use Rattle.tokens.specs.Cursors.{undecided_reach_of, reach_of}
use Rattle.tokens.specs.declared.token_limits.TheConstants.{WINDOW_BYTES}
use Rattle.tokens.specs.declared.located_tokens.LocatedToken.{LocatedToken}
use Rattle.grammar.specs.declared.diagnostics.Diagnostic.{Diagnostic}
use Rattle.grammar.specs.declared.diagnostics.ParseFault.{ParseFault}
use Rattle.grammar.specs.declared.diagnostics.ParseFault.TheVariants as parse_fault
use Rattle.grammar.specs.Derivation.{State, derived}
use Rattle.grammar.specs.Faults.{Fault}
use Rattle.grammar.specs.Laws.Parsing.{Fails, IsFault}
use Rattle.grammar.specs.Profile.{Profile}

-- why it stops, and how many bytes were taken from the device by then
pub record Stop : Type 0 where
  pub fault : ParseFault
  pub taken : ℕ

abbrev pub stop_with : ParseFault → ℕ → Stop
stop_with fault taken = record { fault = fault; taken = taken }

-- what is said of a source's fault, and of no other refusal
abbrev pub IfSource : ParseFault → (Diagnostic → Type 0) → Type 0
IfSource (parse_fault.Source d) says = says d
IfSource parse_fault.Device says = Unit {0}
IfSource parse_fault.Memory says = Unit {0}

-- How many bytes may have been taken if these tokens are next. If the device failed, no more than may leave the second
-- of them open; else a window past it.
abbrev pub most_taken : ParseFault → List LocatedToken → ℕ
most_taken (parse_fault.Source d) rest = reach_of rest + WINDOW_BYTES
most_taken parse_fault.Device rest = undecided_reach_of rest
most_taken parse_fault.Memory rest = reach_of rest + WINDOW_BYTES

-- no fault of the derivation is before these last tokens of the source
pub record NoFaultBefore (profile : Profile) (s : State) (rest : List LocatedToken) : Type 0 where
  pub each : (f : Fault) → IsFault profile s f → length f.rest ≤ length rest

-- The derivation from s comes to these of its tokens and stops there. A fault of the source is its first, and no more
-- bytes were taken than decide that.
pub record Stops (profile : Profile) (s : State) (stop : Stop) : Type 0 where
  pub passed : List LocatedToken
  pub rest : List LocatedToken
  pub is : s.rest ≡ passed ++ rest
  pub steps : ℕ
  pub comes : (derived steps s).rest ≡ rest
  pub none_before : NoFaultBefore profile s rest
  pub fails : IfSource stop.fault (Fails profile s)
  pub taken : stop.taken ≤ most_taken stop.fault rest

-- and no function was defined on the way there
pub record StopsInside (profile : Profile) (s : State) (stop : Stop) : Type 0 where
  pub stops : Stops profile s stop
  pub functions : (derived stops.steps s).functions ≡ s.functions
