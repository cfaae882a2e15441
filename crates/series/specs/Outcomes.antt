-- The outcomes of a series' matches, its reports and its totals.
use Rattle.std.specs.Prelude.{ℕ, List, map}
use Rattle.std.specs.List.{range_with_len}
use Rattle.grammar.specs.Tree.{File}
use Rattle.battles.specs.Battle.{Outcome, battle}
use Rattle.battles.specs.Pairing.{robots_of}
use Rattle.settings.specs.Settings.{Settings}
use Rattle.series.specs.RobotNames.{robot_names}
use Rattle.series.specs.Reports.{report}
use Rattle.series.specs.Totals.{score_of, totals}

module _ (settings : Settings) (files : List File) where
  -- of the match of this number
  unfoldable pub outcome_of : ℕ → Outcome
  outcome_of k = battle (robots_of settings.profile files) settings.seed k settings.limit

  -- of `count` matches, from the first on
  abbrev pub outcomes : ℕ → List Outcome
  outcomes count = map outcome_of (range_with_len settings.first count)

  abbrev pub report_text : ℕ → List ℕ
  report_text k = report k (robot_names settings.file_words) (outcome_of k)

  abbrev pub totals_text : List ℕ
  totals_text = totals settings.matches (robot_names settings.file_words) (score_of (outcomes settings.matches))
