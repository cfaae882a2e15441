-- The whole output of a run, and what of it the sinks took.
use Rattle.std.specs.Prelude.{◌≡◌, List, [], ◌++◌, Option, Some, None, Result, MatchResult, take}
use Rattle.grammar.specs.Tree.{File}
use Rattle.settings.specs.declared.settings.Mode.{Mode}
use Rattle.settings.specs.declared.settings.Mode.TheVariants.{Listing, Matches}
use Rattle.settings.specs.Settings.{Settings}
use Rattle.series.specs.declared.run_results.RunFault.{RunFault}
use Rattle.series.specs.declared.run_results.RunFault.TheVariants.{Read, Write, Memory}
use Rattle.series.specs.declared.run_results.Status.{Status}
use Rattle.series.specs.Compiling.{SourceFile, compiling, files_of, compile_status}
use Rattle.series.specs.Pieces.{Piece, Taken, Writes, Begins}
use Rattle.series.specs.Playing.{playing}

-- the pieces of a run, and its status
pub record Output : Type 0 where
  pub pieces : List Piece
  pub status : Status

-- matches are played if they are asked for and no file has a fault
abbrev pub played : Settings → Mode → Option (List File) → List Piece
played settings Listing files = []
played settings Matches None = []
played settings Matches (Some files) = playing settings files

-- what a run of these source files writes, and how it ends
abbrev pub output : Settings → List SourceFile → Output
output settings sources = record {
  pieces = compiling settings.mode settings.profile sources ++
      played settings settings.mode (files_of settings.profile sources);
  status = compile_status (files_of settings.profile sources);
}

-- what the sinks took if a device stopped what writes these pieces: after a failed write a beginning of the pieces, and
-- after a failed read what the files before it give
abbrev pub StopsRun : Settings → List SourceFile → List Piece → RunFault → Taken → Taken → Type 0
StopsRun settings sources pieces (Read file) before after = Writes before after
    (compiling settings.mode settings.profile (take file sources))
StopsRun settings sources pieces Write before after = Begins before after pieces
StopsRun settings sources pieces Memory before after = ⊥

-- a run of these source files: the sinks took its output, and it ended with its status, or a device stopped it
abbrev pub Runs : Settings → List SourceFile → Result Status RunFault → Taken → Taken → Type 0
Runs settings sources result before after = MatchResult result
    (λ status. Writes before after (output settings sources).pieces × (status ≡ (output settings sources).status))
    (λ fault. StopsRun settings sources (output settings sources).pieces fault before after)
