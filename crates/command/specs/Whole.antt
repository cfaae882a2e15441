-- How the program ends, by what the words ask for, what the files hold, and which can't be opened.
use Rattle.std.specs.Prelude.{◌≡◌, ◌⊎◌, ◌<◌, ◌≤◌, ℕ, List, Option, Some, Result, Ok, Err, All, IsErr, map, slice_get, take}
use Rattle.std.specs.Borrow.{Bor}
use Rattle.series.specs.declared.run_results.RunFault.{RunFault}
use Rattle.series.specs.declared.run_results.RunFault.TheVariants as run_fault
use Rattle.series.specs.declared.run_results.Status.{Status}
use Rattle.series.specs.declared.run_results.Status.TheVariants as status
use Rattle.series.specs.Compiling.{SourceFile}
use Rattle.series.specs.Failures.{Failures}
use Rattle.series.specs.Failures.{FailsAsAnswered as Counts}
use Rattle.series.specs.Output.{Runs}
use Rattle.series.specs.Pieces.{Taken, taken_by_sinks}
use Rattle.sinks.specs.Portions.{Takes, TakesPrefix, SinkState}
use Rattle.series.specs.SourceContents.{AreSources}
use Rattle.settings.specs.declared.faults.UseFault.{UseFault}
use Rattle.settings.specs.Settings.{Settings}
use Rattle.command.specs.declared.endings.Ending.{Ending}
use Rattle.command.specs.declared.endings.Ending.TheVariants.{Done, Faulty, WrongUsage, CannotOpen, CannotRead, CannotWrite, OutOfMemory}
use Rattle.command.specs.Endings.{ending_line, exit_status}
use Rattle.command.specs.Files.{Files}

-- the ending is that a read of the file failed whose word has this index
abbrev pub IsUnread : (List ℕ → Type 0) → List (List ℕ) → ℕ → Ending → Type 0
IsUnread fails words index ending = (word : Bor (List ℕ)) × (ending ≡ CannotRead word)
    × (slice_get words index ≡ Some word.now) × fails word.now

-- the ending of a run over the files of these words that answers so
abbrev pub IsEndingOf : (List ℕ → Type 0) → List (List ℕ) → Result Status RunFault → Ending → Type 0
IsEndingOf fails words (Ok status.Done) ending = ending ≡ Done
IsEndingOf fails words (Ok status.Faulty) ending = ending ≡ Faulty
IsEndingOf fails words (Err (run_fault.Read index)) ending = IsUnread fails words index ending
IsEndingOf fails words (Err run_fault.Write) ending = ending ≡ CannotWrite
IsEndingOf fails words (Err run_fault.Memory) ending = ending ≡ OutOfMemory

-- a run over files whose contents are known so ended in this way
pub record RunsTo (fails : List ℕ → Type 0) (settings : Settings) (known : List (Option (List ℕ))) (ending : Ending)
    (before after : Taken) (failed failed_after : Failures) : Type 0 where
  pub answer : Result Status RunFault
  pub ends : IsEndingOf fails settings.file_words answer ending
  pub output : (sources : List SourceFile) → AreSources sources settings.file_words known →
      Runs settings sources answer before after
  pub devices : Counts answer failed failed_after

-- the file of this word was refused, after those of all words before it were opened
pub record IsFirstRefused (files : Files) (words : List (List ℕ)) (word : List ℕ) : Type 0 where
  pub index : ℕ
  pub here : slice_get words index ≡ Some word
  pub refused : files.refuses word
  pub opened : All files.opens (take index words)

-- a file of these words was not opened, or memory was refused
abbrev pub IsNotOpened : Files → List (List ℕ) → Ending → Type 0
IsNotOpened files words (CannotOpen word) = IsFirstRefused files words word.now
IsNotOpened files words OutOfMemory = Unit {0}
IsNotOpened files words _ = ⊥

-- How the program ends, up to its own line. Refused words end it at once; else the files are opened, and then they run.
abbrev pub Ends : Files → Result Settings UseFault → Ending → Taken → Taken → Type 0
Ends files (Err fault) ending before after = ((ending ≡ WrongUsage) ⊎ (ending ≡ OutOfMemory)) × (after ≡ before)
Ends files (Ok settings) ending before after =
    (IsNotOpened files settings.file_words ending × (after ≡ before))
    ⊎ ((failed : Failures) × (failed_after : Failures)
    × RunsTo files.fails settings (map files.holds settings.file_words) ending before after failed failed_after)

-- The program ends so, puts the line of its ending, whole if the channel of faults never failed, and answers its
-- status.
pub record Concludes (files : Files) (asked : Result Settings UseFault) (result : ℕ)
    (text faults later_text later_faults : SinkState) : Type 0 where
  pub ending : Ending
  pub between : Taken
  pub ends : Ends files asked ending (taken_by_sinks text faults) between
  pub text_stays : later_text.portions ≡ between.text
  pub front : TakesPrefix between.faults later_faults.portions (ending_line ending)
  pub whole : later_faults.failures ≡ faults.failures
      → Takes between.faults later_faults.portions (ending_line ending)
  pub status : result ≡ exit_status ending

-- a status is at most 5, it is 2 only of refused words, and these give no other but 5
pub record IsStatusOf (asked : Result Settings UseFault) (status : ℕ) : Type 0 where
  pub within : status ≤ 5
  pub refused : IsErr asked → (status ≡ 2) ⊎ (status ≡ 5)
  pub only_refused : status ≡ 2 → IsErr asked

-- A status of 0 or 1 says that no write failed on the two channels, and 4 that one did.
pub record TellsWrites (status : ℕ) (text faults later_text later_faults : SinkState) : Type 0 where
  pub whole : status ≤ 1 → (later_text.failures ≡ text.failures) × (later_faults.failures ≡ faults.failures)
  pub cut : status ≡ 4 → (text.failures < later_text.failures) ⊎ (faults.failures < later_faults.failures)
