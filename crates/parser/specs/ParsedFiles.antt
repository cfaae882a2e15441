-- What a parse answers: a file, or its first fault.
use Rattle.std.specs.Prelude.{ℕ, ◌+◌, ◌≡◌, ◌≤◌, List, [], ◌++◌, drop, map, Option, Some}
use Rattle.std.specs.Prelude.{Result, Ok, Err}
use Rattle.tokens.specs.Ends.{last_undecided_until}
use Rattle.tokens.specs.Tokens.{tokens}
use Rattle.tokens.specs.WindowLimits.{most_taken_bytes, window_bytes}
use Rattle.grammar.specs.declared.diagnostics.Diagnostic.{Diagnostic}
use Rattle.grammar.specs.declared.diagnostics.ParseFault.{ParseFault}
use Rattle.grammar.specs.declared.diagnostics.ParseFault.TheVariants as parse_fault
use Rattle.grammar.specs.declared.actions.Action.{Action}
use Rattle.grammar.specs.Actions.{actions}
use Rattle.grammar.specs.Building.{Representation, LeavesOpen}
use Rattle.grammar.specs.Compiled.{compiled, main_name}
use Rattle.grammar.specs.Need.{built, need}
use Rattle.grammar.specs.Pools.{FunctionNames, Pools, pools_of}
use Rattle.grammar.specs.Profile.{Profile}
use Rattle.grammar.specs.Resolved.{IsResolved}
use Rattle.grammar.specs.Scope.{Scope, no_names, number_of_name}
use Rattle.grammar.specs.Tree.{File}

-- by some profile the builder represents no action
pub record IsNew (before : Representation) : Type 0 where
  pub profile : Profile
  pub stands : before profile []

-- the builder is new, and no name is in scope
abbrev pub AreNew : Representation → Scope → Type 0
AreNew before scope = IsNew before × (scope ≡ no_names)

-- The names are those of a resolved file, and a builder that represented no action represents the file's actions, which
-- leave nothing open, whether the device's bytes are known or not. If they are, the file is what they compile to.
pub record ParsesToFile (before after : Representation) (told : Option (List ℕ)) (names : Pools) : Type 0 where
  pub file : File
  pub resolved : IsResolved file
  pub named : names ≡ pools_of file
  pub main : number_of_name main_name (map (λ (f : FunctionNames). f.name) names.functions) ≡ Some file.main
  pub built : (profile : Profile) → before profile [] → after profile (actions file)
  pub closed : LeavesOpen after []
  pub is : (bytes : List ℕ) → told ≡ Some bytes → (profile : Profile) → before profile [] →
      compiled profile bytes ≡ Ok file

-- if the device's bytes are known, the diagnostic is that of their first fault
abbrev pub FailsBytes : Representation → Option (List ℕ) → Diagnostic → Type 0
FailsBytes before told d =
    (bytes : List ℕ) → told ≡ Some bytes → (profile : Profile) → before profile [] → compiled profile bytes ≡ Err d

-- From a device whose bytes are known at most `more` bytes were taken past those that decide what they are, and never
-- more than the longest source and one byte.
pub record TakesUpTo (profile : Profile) (bytes : List ℕ) (to_come : Option (List ℕ)) (more : ℕ) : Type 0 where
  pub count : ℕ
  pub took : to_come ≡ Some (drop count bytes)
  pub needed : count ≤ need profile bytes + more
  pub limited : count ≤ most_taken_bytes

-- From a device whose bytes are known so few were taken that they may leave open what the source is: none past those
-- that decide it, and if it has a bad character, not that one.
pub record LeavesUndecided (profile : Profile) (bytes : List ℕ) (to_come : Option (List ℕ)) : Type 0 where
  pub count : ℕ
  pub took : to_come ≡ Some (drop count bytes)
  pub needed : count ≤ need profile bytes
  pub undecided : count ≤ last_undecided_until (tokens bytes)
  pub limited : count ≤ most_taken_bytes

-- so few were taken by each profile that the builder goes by, if the device's bytes are known
abbrev pub TakesNoMore : Representation → (told to_come : Option (List ℕ)) → ℕ → Type 0
TakesNoMore before told to_come more =
    (bytes : List ℕ) → told ≡ Some bytes → (profile : Profile) → before profile [] →
    TakesUpTo profile bytes to_come more

-- so they may leave it open by each profile that the builder goes by, if the device's bytes are known
abbrev pub LeavesSourceUndecided : Representation → (told to_come : Option (List ℕ)) → Type 0
LeavesSourceUndecided before told to_come =
    (bytes : List ℕ) → told ≡ Some bytes → (profile : Profile) → before profile [] →
    LeavesUndecided profile bytes to_come

-- What was taken if no file is answered: at most a window past what decides the source; if the device failed, so few
-- bytes that they may leave the source open.
abbrev pub StopsTaking : Representation → (told to_come : Option (List ℕ)) → ParseFault → Type 0
StopsTaking before told to_come (parse_fault.Source d) = TakesNoMore before told to_come window_bytes
StopsTaking before told to_come parse_fault.Device = LeavesSourceUndecided before told to_come
StopsTaking before told to_come parse_fault.Memory = TakesNoMore before told to_come window_bytes

-- what was taken, by the answer: of a file at most a window past what decides it
abbrev pub TakesEnough : {A : Type 0} → Result A ParseFault → Representation → (told to_come : Option (List ℕ)) → Type 0
TakesEnough (Ok x) before told to_come = TakesNoMore before told to_come window_bytes
TakesEnough (Err fault) before told to_come = StopsTaking before told to_come fault

-- From a device whose bytes are known `count` bytes were taken, and the builder represents the actions of the functions
-- that these decide for certain, and further ones.
pub record HasBuilt (after : Representation) (profile : Profile) (bytes : List ℕ) (to_come : Option (List ℕ)) : Type 0
  where
    pub count : ℕ
    pub took : to_come ≡ Some (drop count bytes)
    pub more : List Action
    pub stands : after profile (built bytes count ++ more)

-- the same by each profile that the builder goes by, if the device's bytes are known
abbrev pub BuildsAhead : (before after : Representation) (told to_come : Option (List ℕ)) → Type 0
BuildsAhead before after told to_come =
    (bytes : List ℕ) → told ≡ Some bytes → (profile : Profile) → before profile [] →
    HasBuilt after profile bytes to_come

-- What a refusal says: of a source, its fault; of a device, what was built until it failed; of memory, that the builder
-- was refused it.
abbrev pub ParseIsRefused : (before after : Representation) (denied : Type 0) (told to_come : Option (List ℕ)) →
    ParseFault
    → Type 0
ParseIsRefused before after denied told to_come (parse_fault.Source d) = FailsBytes before told d
ParseIsRefused before after denied told to_come parse_fault.Device = BuildsAhead before after told to_come
ParseIsRefused before after denied told to_come parse_fault.Memory = denied
