-- How much of the source files a run reads.
use Rattle.std.specs.Prelude.{◌≡◌, ℕ, ◌+◌, ◌-◌, ◌<◌, List, Option, Some, None, Result, Ok, Err, MatchResult, drop, get_or, length, take}
use Rattle.tokens.specs.WindowLimits.{window_bytes}
use Rattle.grammar.specs.Profile.{Profile}
use Rattle.parser.specs.ParsedFiles.{LeavesUndecided, TakesUpTo}
use Rattle.settings.specs.Settings.{Settings}
use Rattle.series.specs.Compiling.{SourceFile, compiling}
use Rattle.series.specs.Pieces.{Begins, Piece, Taken, Writes}
use Rattle.series.specs.SourceContents.{AreSources}
use Rattle.series.specs.declared.compiling.CompileFault.{CompileFault}
use Rattle.series.specs.declared.compiling.CompileFault.TheVariants as compile_fault
use Rattle.series.specs.declared.run_results.RunFault.{RunFault}
use Rattle.series.specs.declared.run_results.RunFault.TheVariants as run_fault
use Rattle.series.specs.declared.run_results.Status.{Status}

-- of a file whose contents are known no more was taken than decides what it is, and at most a number of bytes beside
abbrev pub TakesOf : Profile → (contents later : Option (List ℕ)) → ℕ → Type 0
TakesOf profile contents later more = (bytes : List ℕ) → contents ≡ Some bytes → TakesUpTo profile bytes later more

-- of a file whose contents are known so few bytes were taken that they may leave open what it is
abbrev pub MayLeaveUndecided : Profile → (contents later : Option (List ℕ)) → Type 0
MayLeaveUndecided profile contents later =
    (bytes : List ℕ) → contents ≡ Some bytes → LeavesUndecided profile bytes later

-- the first if a file was read, whether or not the sinks took what it gives, and the second if it was not
abbrev pub IfRead : Result Status CompileFault → (read unread : Type 0) → Type 0
IfRead (Ok status) read unread = read
IfRead (Err compile_fault.Write) read unread = read
IfRead (Err compile_fault.Read) read unread = unread

-- what was taken of a file that was read, or whose read failed
abbrev pub ReadsFile : Profile → Result Status CompileFault → (contents later : Option (List ℕ)) → Type 0
ReadsFile profile result contents later =
    IfRead result (TakesOf profile contents later window_bytes) (MayLeaveUndecided profile contents later)

-- of each of the first files a window of 4,096 bytes at most was taken past what decides it
abbrev pub TakesOfFirst : Profile → (contents later : List (Option (List ℕ))) → ℕ → Type 0
TakesOfFirst profile contents later count = (file : ℕ) → file < count
    → TakesOf profile (get_or contents file None) (get_or later file None) window_bytes

-- n files were read, and the others not
pub record ReadsFirst (profile : Profile) (contents later : List (Option (List ℕ))) (count : ℕ) : Type 0 where
  pub read : TakesOfFirst profile contents later count
  pub unread : drop count later ≡ drop count contents

-- the read of this file failed: the bytes taken of it may leave open what it is, and the files after it were not read
pub record FailsToRead (profile : Profile) (contents later : List (Option (List ℕ))) (file : ℕ) : Type 0 where
  pub before : TakesOfFirst profile contents later file
  pub here : MayLeaveUndecided profile (get_or contents file None) (get_or later file None)
  pub unread : drop (file + 1) later ≡ drop (file + 1) contents

-- the sinks took these pieces, each whole, and perhaps more
abbrev pub TakesPast : Taken → Taken → List Piece → Type 0
TakesPast before after pieces = (between : Taken) × Writes before between pieces
    × ((more : List Piece) × Begins between after more)

-- A write failed: before the last file that was read, what all files before it give had been put whole. So no file is
-- read after the one whose piece failed.
pub record FailsToPut (settings : Settings) (contents later : List (Option (List ℕ))) (before after : Taken) : Type 0
  where
    pub count : ℕ
    pub reads : ReadsFirst settings.profile contents later count
    pub puts : (sources : List SourceFile) → AreSources sources settings.file_words contents
        → TakesPast before after (compiling settings.mode settings.profile (take (count - 1) sources))

-- what was read if a device stopped the run
abbrev pub StopsReading : Settings → RunFault → (contents later : List (Option (List ℕ))) → (before after : Taken) →
    Type 0
StopsReading settings (run_fault.Read file) contents later before after =
    FailsToRead settings.profile contents later file
StopsReading settings run_fault.Write contents later before after = FailsToPut settings contents later before after
StopsReading settings run_fault.Memory contents later before after = ⊥

-- what was read by the end, and of a failed write what the sinks had taken then
abbrev pub ReadsSources : {T : Type 0} → Settings → Result T RunFault → (contents later : List (Option (List ℕ)))
    → (before after : Taken) → Type 0
ReadsSources settings result contents later before after = MatchResult result
    (λ _. ReadsFirst settings.profile contents later (length contents))
    (λ fault. StopsReading settings fault contents later before after)
