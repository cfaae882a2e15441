-- What compiling leaves: what the sinks took, and the programs.
use Rattle.std.specs.Prelude.{◌≡◌, ℕ, List, Option, Result, MatchResult, IfOk, IfSome, Ok, Err, map, option_map}
use Rattle.grammar.specs.Compiled.{compiled}
use Rattle.grammar.specs.Profile.{Profile}
use Rattle.code.specs.Generation.{Program, code_of}
use Rattle.settings.specs.declared.settings.Mode.{Mode}
use Rattle.settings.specs.Settings.{Settings}
use Rattle.series.specs.declared.compiling.CompileFault.{CompileFault}
use Rattle.series.specs.declared.run_results.RunFault.{RunFault}
use Rattle.series.specs.declared.run_results.Status.{Status}
use Rattle.series.specs.Compiling.{SourceFile, compiling, files_of, pieces_of, compile_status}
use Rattle.series.specs.ProgramKeeping.{and_compiled, kept_by, status_by}
use Rattle.series.specs.Output.{StopsRun}
use Rattle.series.specs.Pieces.{Piece, Taken, Writes, Begins}
use Rattle.grammar.specs.declared.diagnostics.Diagnostic.{Diagnostic}
use Rattle.grammar.specs.Tree.{File}

-- the program of each file
abbrev pub programs_of : Profile → List SourceFile → Option (List Program)
programs_of profile sources = option_map (λ files. map (code_of profile) files) (files_of profile sources)

-- the program of a file, or its fault
abbrev pub program_or_fault : Profile → Result File Diagnostic → Result Program Diagnostic
program_or_fault profile (Ok file) = Ok (code_of profile file)
program_or_fault profile (Err d) = Err d

abbrev pub compiled_program : Profile → List ℕ → Result Program Diagnostic
compiled_program profile bytes = program_or_fault profile (compiled profile bytes)

-- the files were compiled: the sinks took what that writes, and this is the answer, or a device stopped it
abbrev pub CompilesTo : {T : Type 0} → T → Settings → List SourceFile → Result T RunFault → Taken → Taken → Type 0
CompilesTo answer settings sources result before after = MatchResult result
    (λ given. Writes before after (compiling settings.mode settings.profile sources) × (given ≡ answer))
    (λ fault. StopsRun settings sources (compiling settings.mode settings.profile sources) fault before after)

-- the programs are theirs, if none has a fault
abbrev pub Compiles : Settings → List SourceFile → Result (Option (List Program)) RunFault → Taken → Taken → Type 0
Compiles settings sources result before after =
    CompilesTo (programs_of settings.profile sources) settings sources result before after

-- the sinks took the pieces, or a beginning of them
abbrev pub PutsPieces : {T E : Type 0} → Result T E → Taken → Taken → List Piece → Type 0
PutsPieces result before after pieces = MatchResult result (λ _. Writes before after pieces)
    (λ _. Begins before after pieces)

-- A file of these bytes was compiled: the sinks took what that gives, or a beginning of it. If they took all of it, the
-- status and what is kept then are those of the file.
pub record CompilesFile (mode : Mode) (profile : Profile) (name bytes : List ℕ) (result : Result Status CompileFault)
    (kept later : Option (List Program)) (before after : Taken) : Type 0 where
  pub output : PutsPieces result before after (pieces_of mode profile name (compiled profile bytes))
  pub status : IfOk result (λ status. status ≡ status_by (compiled_program profile bytes))
  pub keeps : IfOk result (λ status. later ≡ and_compiled kept (compiled_program profile bytes))

-- These sources were compiled: the sinks took what that gives, the status is theirs, and their programs are kept.
pub record CompilesAll (settings : Settings) (sources : List SourceFile) (result : Result Status RunFault)
    (kept : Option (List Program)) (before after : Taken) : Type 0 where
  pub output : CompilesTo (compile_status (files_of settings.profile sources)) settings sources result before after
  pub programs : IfOk result
      (λ status. IfSome kept (λ programs. kept_by status programs ≡ programs_of settings.profile sources))
