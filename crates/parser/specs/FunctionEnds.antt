-- The end of a function, as it is reported to a builder.
use Rattle.std.specs.Prelude.{ℕ, ◌+◌, ◌≡◌, ◌<◌, ◌≤◌, List, [], ◌∷◌, ◌++◌, Result, Ok, Err}
use Rattle.grammar.specs.declared.diagnostics.Code.TheVariants as fault_code
use Rattle.grammar.specs.declared.diagnostics.Diagnostic.{Diagnostic}
use Rattle.grammar.specs.declared.diagnostics.ParseFault.{ParseFault}
use Rattle.grammar.specs.declared.diagnostics.ParseFault.TheVariants as parse_fault
use Rattle.grammar.specs.declared.actions.Action.{Action}
use Rattle.grammar.specs.declared.actions.Action.TheVariants.{EndFunction}
use Rattle.grammar.specs.Actions.{code_length, last_return}
use Rattle.grammar.specs.Building.{Representation, AppendsAll}
use Rattle.grammar.specs.Compiled.{diagnostic}
use Rattle.grammar.specs.Profile.{Profile}
use Rattle.parser.specs.declared.automaton.Automaton.{Automaton}
use Rattle.parser.specs.ScopedCursors.{next_at}

-- the last return, and the end of a function of so many variables
abbrev pub end_actions : (variables : ℕ) → List Action
end_actions variables = last_return ++ EndFunction variables ∷ []

-- These were reported to the builder, and the code is within the limit.
pub record ClosesFunction (before after : Representation) (variables : ℕ) : Type 0 where
  pub added : AppendsAll before after (end_actions variables)
  pub fits : (profile : Profile) (acts : List Action) → before profile acts →
      code_length profile (acts ++ last_return) + 1 ≤ profile.instructions

-- The code exceeds the limit, and the diagnostic says so at this line.
pub record IsTooMuch (before : Representation) (line : ℕ) (d : Diagnostic) : Type 0 where
  pub is : d ≡ diagnostic line fault_code.TooMuchCode
  pub over : (profile : Profile) (acts : List Action) → before profile acts →
      profile.instructions < code_length profile (acts ++ last_return) + 1

-- what a refusal says at a function's end, whose closing brace is on this line
abbrev pub RefusesEnd : (before : Representation) (line : ℕ) (denied : Type 0) → ParseFault → Type 0
RefusesEnd before line denied (parse_fault.Source d) = IsTooMuch before line d
RefusesEnd before line denied parse_fault.Device = ⊥
RefusesEnd before line denied parse_fault.Memory = denied

-- what the end of a function says, by its result
abbrev pub EndsFunction : {A F B : Type 0} → Result A ParseFault → (denied : Type 0) → (B → Representation) →
    (variables : ℕ) → (old new : Automaton F B) → Type 0
EndsFunction (Ok x) denied stands variables old new =
    ClosesFunction (stands old.builder.now) (stands new.builder.now) variables
EndsFunction (Err fault) denied stands variables old new =
    RefusesEnd (stands old.builder.now) (next_at old.tokens.position).line denied fault

-- a call that reports to the builder alone
pub record OnlyReports {F B : Type 0} (old new : Automaton F B) : Type 0 where
  pub tokens : new.tokens ≡ old.tokens
  pub frames : new.frames ≡ old.frames
  pub depth : new.depth ≡ old.depth
  pub builder : new.builder.ghost_name ≡ old.builder.ghost_name
