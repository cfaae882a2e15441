-- A series under way: what its next step does and writes.
use Rattle.std.specs.Prelude.{◌≡◌, ℕ, ◌+◌, ◌<◌, List, [], Bool, nat_lt, if◌then◌else◌, ◌==◌, Result, Ok, Err, get_or}
use Rattle.grammar.specs.Tree.{File}
use Rattle.code.specs.Generation.{Program}
use Rattle.battles.specs.Battle.{Outcome}
use Rattle.settings.specs.SettingsLimits.{most_files}
use Rattle.settings.specs.Settings.{Settings}
use Rattle.series.specs.declared.run_results.SeriesFault.{SeriesFault}
use Rattle.series.specs.declared.run_results.Step.{Step}
use Rattle.series.specs.declared.run_results.Step.TheVariants.{Played, Over}
use Rattle.series.specs.declared.totals.Score.{Score}
use Rattle.series.specs.Outcomes.{outcomes, report_text}
use Rattle.series.specs.Totals.{score_of}

-- the next match is played if one is left
abbrev pub next_step : Settings → ℕ → Step
next_step settings played = if nat_lt played settings.matches then Played (settings.first + played) else Over

-- that writes the report of the match
abbrev pub next_text : Settings → List File → ℕ → List ℕ
next_text settings files played =
    if nat_lt played settings.matches then report_text settings files (settings.first + played) else
    []

-- a match counts as played if its report was written
abbrev pub played_after : Result Step SeriesFault → ℕ → ℕ
played_after (Ok (Played k)) played = played + 1
played_after (Ok Over) played = played
played_after (Err fault) played = played

-- the matches counted, and the score of each robot
pub record Tally : Type 0 where
  pub matches : ℕ
  pub scores : List Score

abbrev pub no_score : Score
no_score = record { won = 0; tied = 0; lost = 0 }

-- the score of the robot with this index
abbrev pub score_at : Tally → ℕ → Score
score_at tally i = get_or tally.scores i no_score

-- the scores of up to four robots are those of these outcomes
abbrev pub IsTallyOf : Tally → List Outcome → Type 0
IsTallyOf tally outcomes = (i : ℕ) → i < most_files → score_at tally i ≡ score_of outcomes i

-- a series: what it is asked to do, its programs, how many matches were played, and whether a write has failed
pub record Series : Type 0 where
  pub settings : Settings
  pub programs : List Program
  pub played : ℕ
  pub failed : Bool

-- a score with one more match
abbrev pub with_match : Score → Bool → ℕ → Score
with_match score alive survivors =
    if alive then (if survivors == 1 then record score { won = score.won + 1 } else record score
    { tied = score.tied + 1 })
    else record score { lost = score.lost + 1 }
