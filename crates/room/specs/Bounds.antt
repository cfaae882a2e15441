-- What is answered of a source: what its robot needs, or why it isn't a file.
use Rattle.std.specs.Prelude.{◌≡◌, ℕ, List, true, Option, Some, Ok}
use Rattle.grammar.specs.declared.diagnostics.ParseFault.{ParseFault}
use Rattle.grammar.specs.declared.diagnostics.ParseFault.TheVariants as parse_fault
use Rattle.grammar.specs.Building.{Representation}
use Rattle.grammar.specs.Compiled.{compiled}
use Rattle.grammar.specs.Profile.{Profile}
use Rattle.grammar.specs.Resolved.{IsResolved}
use Rattle.grammar.specs.Tree.{File}
use Rattle.parser.specs.ParsedFiles.{FailsBytes}
use Rattle.room.specs.declared.bounding.Bound.{Bound}
use Rattle.trees.specs.Laws.{told_functions}
use Rattle.room.specs.Chains.{IsChain}
use Rattle.room.specs.Counting.{counted}
use Rattle.room.specs.Functions.{need_of, HasRoom}
use Rattle.room.specs.Laws.{NeverLacks}

-- what goes by this profile
abbrev pub goes_by : Profile → Representation
goes_by profile p acts = p ≡ profile

-- The need is a resolved file's, as it is counted, and there is room exactly if the file has it: then the robot
-- restarts only where main returns. If the device's contents are known, they are that file.
pub record AreBoundsOf (profile : Profile) (told : Option (List ℕ)) (bound : Bound) : Type 0 where
  pub file : File
  pub resolved : IsResolved file
  pub need : bound.need ≡ counted (need_of profile file)
  pub enough : HasRoom profile file → bound.has_room ≡ true
  pub sound : bound.has_room ≡ true → HasRoom profile file
  pub never : bound.has_room ≡ true → NeverLacks profile file
  pub is : (bytes : List ℕ) → told ≡ Some bytes → compiled profile bytes ≡ Ok file

-- The chain of calls that decides what main of a resolved file needs. If the device's contents are known, they compile
-- to that file.
pub record IsChainOf (profile : Profile) (told : Option (List ℕ)) (chain : List ℕ) : Type 0 where
  pub file : File
  pub resolved : IsResolved file
  pub linked : IsChain profile (told_functions file.functions file.order) file.main chain
  pub is : (bytes : List ℕ) → told ≡ Some bytes → compiled profile bytes ≡ Ok file

-- what a refusal says of a source: its first fault
abbrev pub IsRefusedSource : Profile → Option (List ℕ) → ParseFault → Type 0
IsRefusedSource profile told (parse_fault.Source d) = FailsBytes (goes_by profile) told d
IsRefusedSource profile told parse_fault.Device = Unit {0}
IsRefusedSource profile told parse_fault.Memory = Unit {0}
