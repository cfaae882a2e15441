-- How often each robot of a series won, tied and lost.
use Rattle.std.specs.Prelude.{ℕ, ◌+◌, List, [], ◌∷◌, ◌++◌, Bool, not, ◌&&◌, ◌||◌, ◌==◌, nat_lt, nat_le, map, length, get_or, count_by, codes, decimal}
use Rattle.std.specs.List.{range_with_len}
use Rattle.battles.specs.Battle.{Outcome, is_survivor}
use Rattle.series.specs.declared.totals.Score.{Score}
use Rattle.series.specs.Lines.{lines_text}

abbrev pub survivors : Outcome → ℕ
survivors outcome = count_by (λ damage. nat_lt damage 100) outcome.damages

module _ (i : ℕ) (outcome : Outcome) where
  -- a sole survivor won
  abbrev pub has_won : Bool
  has_won = is_survivor outcome i && survivors outcome == 1

  -- if two or more survived, each of them tied
  abbrev pub has_tied : Bool
  has_tied = is_survivor outcome i && nat_le 2 (survivors outcome)

  -- all others lost
  abbrev pub has_lost : Bool
  has_lost = not (has_won || has_tied)

abbrev pub score_of : List Outcome → ℕ → Score
score_of outcomes i = record {
  won = count_by (has_won i) outcomes;
  tied = count_by (has_tied i) outcomes;
  lost = count_by (has_lost i) outcomes;
}

-- `Totals: {m} matches`
abbrev pub totals_line : ℕ → List ℕ
totals_line matches = codes "Totals: " ++ decimal matches ++ codes " matches"

-- `  {i}) won {w} tied {t} lost {l} {name}`, with the robots counted from 1
abbrev pub score_line : ℕ → Score → List ℕ → List ℕ
score_line i score name =
    codes "  " ++ decimal (i + 1) ++ codes ") won " ++ decimal score.won ++ codes " tied " ++ decimal score.tied
    ++ codes " lost " ++ decimal score.lost ++ codes " " ++ name

abbrev pub score_lines : List (List ℕ) → (ℕ → Score) → List (List ℕ)
score_lines names scores = map (λ i. score_line i (scores i) (get_or names i [])) (range_with_len 0 (length names))

-- the line of the totals, and one of each robot
unfoldable pub totals : ℕ → List (List ℕ) → (ℕ → Score) → List ℕ
totals matches names scores = lines_text (totals_line matches ∷ score_lines names scores)
