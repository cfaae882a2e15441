-- The codes of several files.
use Rattle.std.specs.Prelude.{◌≡◌, List, map}
use Rattle.std.specs.List.{All}
use Rattle.grammar.specs.Profile.{Profile}
use Rattle.grammar.specs.Resolved.{IsResolved}
use Rattle.grammar.specs.Tree.{File}
use Rattle.code.specs.Generation.{Program, code_of}

-- the program is the file's
abbrev pub IsProgramOf : Program → Profile → File → Type 0
IsProgramOf program p file = program ≡ code_of p file

-- each program is that of the file at its index, by one profile
pub record AreProgramsOf (codes : List Program) (p : Profile) (files : List File) : Type 0 where
  pub are : codes ≡ map (code_of p) files
  pub resolved : All IsResolved files
