-- The files that words name: what is known of them, and what opening and reading them shows.
use Rattle.std.specs.Prelude.{◌≡◌, ◌<◌, ℕ, List, [], ◌∷◌, Option, Some, None, length, ⊤}
use Rattle.std.specs.Prelude.{slice_get, slice_index_or, slice_set}
use Rattle.tokens.specs.Feed.{failed_again}
use Rattle.tokens.specs.Device.{FailureCount, Device}
use Rattle.series.specs.Failures.{no_device}

-- What each file holds, if that is known; that it was opened, that it was refused, and that a read of it failed.
pub record Files : Type 1 where
  pub holds : List ℕ → Option (List ℕ)
  pub opens : List ℕ → Type 0
  pub refuses : List ℕ → Type 0
  pub fails : List ℕ → Type 0

-- those of a real disk, of which nothing is known
abbrev pub real_files : Files
real_files = record { holds = λ _. None; opens = λ _. ⊤; refuses = λ _. ⊤; fails = λ _. ⊤ }

-- a later state of this device, in which one more read has failed, shows that
abbrev pub ShowsFailure : {F : Type 0} → (F → Device) → F → Type 0 → Type 0
ShowsFailure {F} device file failed =
    (later : F) → (device later).account ≡ failed_again (device file).account → failed

-- each of these devices shows it of the word at its index
abbrev pub EachShows : {F : Type 0} → (F → Device) → (List ℕ → Type 0) → List (List ℕ) → List F → Type 0
EachShows device fails [] [] = Unit {0}
EachShows device fails (word ∷ words) (file ∷ files) =
    ShowsFailure device file (fails word) × EachShows device fails words files
EachShows device fails _ _ = ⊥

-- of these devices, one for each word, that of this word has failed once more since
pub record HasFailed (words : List (List ℕ)) (before after : List FailureCount) (word : List ℕ) : Type 0 where
  pub index : ℕ
  pub here : slice_get words index ≡ Some word
  pub within : index < length before
  pub is : after ≡ slice_set before index (failed_again (slice_index_or before index no_device))
