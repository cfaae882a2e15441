-- What a source compiles to.
use Rattle.std.specs.Prelude.{◌≡◌, ℕ, List, Ok, Err}
use Rattle.code.specs.Codes.{IsProgramOf}
use Rattle.code.specs.Generation.{Program}
use Rattle.derivations.specs.declared.compiling.Compiled.{Compiled}
use Rattle.grammar.specs.declared.diagnostics.ParseFault.{ParseFault}
use Rattle.grammar.specs.declared.diagnostics.ParseFault.TheVariants as parse_fault
use Rattle.grammar.specs.Compiled.{compiled}
use Rattle.grammar.specs.Pools.{pools_of}
use Rattle.grammar.specs.Profile.{Profile}
use Rattle.grammar.specs.Tree.{File}

-- a source compiles: these bytes are a file
pub record Compiles (profile : Profile) (bytes : List ℕ) : Type 0 where
  pub file : File
  pub is : compiled profile bytes ≡ Ok file

-- the program and the names of the file that these bytes are
pub record IsCompiled (profile : Profile) (bytes : List ℕ) (made : Compiled) : Type 0 where
  pub compiles : Compiles profile bytes
  pub program : IsProgramOf made.program profile compiles.file
  pub names : made.names ≡ pools_of compiles.file

-- a program is that of the file that these bytes are, by its own profile
pub record IsCompiledFrom (program : Program) (bytes : List ℕ) : Type 0 where
  pub compiles : Compiles program.profile bytes
  pub is : IsProgramOf program program.profile compiles.file

-- the fault of a refusal is the source's first one, if its bytes are known; memory is never refused
abbrev pub IsFirstFault : Profile → List ℕ → ParseFault → Type 0
IsFirstFault profile bytes (parse_fault.Source d) = compiled profile bytes ≡ Err d
IsFirstFault profile bytes parse_fault.Device = Unit {0}
IsFirstFault profile bytes parse_fault.Memory = ⊥
