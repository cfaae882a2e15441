-- The report of a match doesn't depend on which other matches its series has.
use Rattle.std.specs.Prelude.{◌≡◌, ℕ, ◌+◌, ◌-◌, ◌<◌, ◌≤◌, List, Option, slice_get}
use Rattle.settings.specs.declared.settings.Mode.TheVariants.{Matches}
use Rattle.settings.specs.Settings.{Settings}
use Rattle.series.specs.declared.run_results.Status.TheVariants.{Done}
use Rattle.series.specs.Compiling.{SourceFile}
use Rattle.series.specs.Output.{output}
use Rattle.series.specs.Pieces.{Piece}

-- the series of these settings contains the match of this number
pub record Contains (settings : Settings) (k : ℕ) : Type 0 where
  pub least : settings.first ≤ k
  pub most : k < settings.first + settings.matches

-- the report of that match, as the output has it
abbrev pub report_in : Settings → List SourceFile → ℕ → Option Piece
report_in settings sources k = slice_get (output settings sources).pieces (k - settings.first)

-- the same settings, but for another first number and another count of matches
abbrev pub with_matches : Settings → ℕ → ℕ → Settings
with_matches settings first matches = record settings { first = first; matches = matches }

-- if both series contain a match, its report is the same
abbrev pub SameReport : Type 0
SameReport = (settings : Settings) (sources : List SourceFile) (first matches k : ℕ) → settings.mode ≡ Matches
    → (output settings sources).status ≡ Done
    → Contains settings k → Contains (with_matches settings first matches) k
    → report_in settings sources k ≡ report_in (with_matches settings first matches) sources k
