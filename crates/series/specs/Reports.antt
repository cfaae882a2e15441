-- The report of a match.
use Rattle.std.specs.Prelude.{ℕ, ◌+◌, List, [], ◌∷◌, ◌++◌, Bool, true, false, map, length, get_or, codes, decimal}
use Rattle.std.specs.List.{range_with_len}
use Rattle.battles.specs.Battle.{Outcome, is_survivor}
use Rattle.sinks.specs.Texts.{column}
use Rattle.series.specs.Lines.{lines_text}

-- `Match {k}: cycles = {t}`
abbrev pub match_line : ℕ → ℕ → List ℕ
match_line k cycles = codes "Match " ++ decimal k ++ codes ": cycles = " ++ decimal cycles

abbrev pub state_text : Bool → List ℕ
state_text true = codes "alive"
state_text false = codes "dead "

-- `  {i}) alive damage {d:>3}% {name}` or `  {i}) dead  damage {d:>3}% {name}`, with the robots counted from 1
abbrev pub robot_line : ℕ → Bool → ℕ → List ℕ → List ℕ
robot_line i is_alive damage name =
    codes "  " ++ decimal (i + 1) ++ codes ") " ++ state_text is_alive ++ codes " damage " ++ column 3 damage
    ++ codes "% " ++ name

abbrev pub robot_lines : List (List ℕ) → Outcome → List (List ℕ)
robot_lines names outcome =
    map (λ i. robot_line i (is_survivor outcome i) (get_or outcome.damages i 0) (get_or names i []))
    (range_with_len 0 (length outcome.damages))

-- the line of the match, and one of each robot
unfoldable pub report : ℕ → List (List ℕ) → Outcome → List ℕ
report k names outcome = lines_text (match_line k outcome.cycles ∷ robot_lines names outcome)
