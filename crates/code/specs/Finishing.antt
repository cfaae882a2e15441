-- What a maker's owner shows at the end, and what a program keeps.
use Rattle.std.specs.Prelude.{ℕ, ◌≡◌, ◌≤◌, Some, length, map, take}
use Rattle.grammar.specs.Actions.{actions}
use Rattle.grammar.specs.Compiled.{main_name}
use Rattle.grammar.specs.Pools.{Pools, FunctionNames, pools_of}
use Rattle.grammar.specs.Profile.{Profile}
use Rattle.grammar.specs.Resolved.{IsResolved}
use Rattle.grammar.specs.Scope.{number_of_name}
use Rattle.grammar.specs.Tree.{File}
use Rattle.code.specs.Generation.{Program, code_of}
use Rattle.code.specs.Codes.{IsProgramOf}
use Rattle.code.specs.Making.{Maker}
use Rattle.code.specs.Reported.{MakerRepresents}

-- the number is that of the first function named main
abbrev pub IsMain : Pools → ℕ → Type 0
IsMain names number = number_of_name main_name (map (λ (f : FunctionNames). f.name) names.functions) ≡ Some number

-- the actions of a resolved file were reported to the maker, the names are that file's, and its main is the function
-- of that name
pub record MakerRepresentsFile (maker : Maker) (p : Profile) (names : Pools) (file : File) : Type 0 where
  pub resolved : IsResolved file
  pub stands : MakerRepresents maker p (actions file)
  pub named : names ≡ pools_of file
  pub main : IsMain names file.main

pub record RepresentsSomeFile (maker : Maker) (names : Pools) : Type 0 where
  pub profile : Profile
  pub file : File
  pub reported : MakerRepresentsFile maker profile names file

-- the maker's code is that of the file's program, and so are its addresses, of as many functions as have names
pub record HasCodeOf (maker : Maker) (p : Profile) (names : Pools) (file : File) : Type 0 where
  pub instructions : maker.code ≡ (code_of p file).instructions
  pub addresses : take (length names.functions) maker.addresses ≡ (code_of p file).addresses

-- The code is that of a resolved file by its profile, within the profile's limit, and the function of main's number is
-- named main.
pub record IsOfSomeFile (program : Program) : Type 0 where
  pub file : File
  pub resolved : IsResolved file
  pub is : IsProgramOf program program.profile file
  pub limit : length program.instructions ≤ program.profile.instructions
  pub main : IsMain (pools_of file) program.main
