use Rattle.std.proofs.Common.{◌≡◌, ℕ, ◌+◌, ◌<◌, ◌≤◌, length, get_or}
use Rattle.battles.specs.Battle.{is_survivor}
use Rattle.series.specs.SeriesSteps.{no_score, with_match}
use Rattle.series.specs.Totals.{survivors}
use Rattle.series.proofs.totals.Tally.count_match.Given as goal

-- the scores of n robots have one more match, and the others are as they were
abbrev pub invariant-loop-robot : goal.invariant-loop-robot
invariant-loop-robot l = record {
  matches : l.self-inside.matches ≡ l.fn.self.matches + 1;
  survivors : l.survivors ≡ survivors l.outcome;
  four : length l.self-inside.scores ≡ 4;
  adds : (k : ℕ) → k < 4 →
      (get_or l.fn.self.scores k no_score).won + (get_or l.fn.self.scores k no_score).tied +
      (get_or l.fn.self.scores k no_score).lost ≡ l.fn.self.matches;
  done : (k : ℕ) → k < l.robot →
      get_or l.self-inside.scores k no_score ≡
      with_match (get_or l.fn.self.scores k no_score) (is_survivor l.outcome k) l.survivors;
  left : (k : ℕ) → l.robot ≤ k → get_or l.self-inside.scores k no_score ≡ get_or l.fn.self.scores k no_score;
}
