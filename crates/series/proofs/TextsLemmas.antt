-- The lines of reports and totals, fragment by fragment.
use Rattle.std.proofs.Common.{◌≡◌, ℕ, ◌+◌, ◌-◌, ◌<◌, zero, suc, Bool, List, [], ◌∷◌, ◌++◌, length, get_or, map, refl, sym, ap, ◌∙◌, append_assoc, arith, decimal, codes}
use Rattle.std.specs.Prelude.{max, min}
use Rattle.std.specs.List.{fold}
use Rattle.std.proofs.lemmas.List.FromFn.{get_or-map-range_with_len, length-map-range_with_len}
use Rattle.std.proofs.lemmas.List.{get_or-map, length-map}
use Rattle.series.specs.Lines.{ended_line, lines_text}
use Rattle.battles.specs.Battle.{Outcome, is_survivor}
use Rattle.battles.specs.Pairing.{paired}
use Rattle.series.specs.declared.totals.Score.{Score}
use Rattle.series.specs.Reports.{report, robot_line, robot_lines, state_text}
use Rattle.series.specs.RobotNames.{robot_names}
use Rattle.sinks.specs.Texts.{column, file_name}
use Rattle.series.specs.Totals.{score_line, score_lines}

-- fragments after a text
added : (text first : List ℕ) (more : List (List ℕ))
    → text ++ fold (λ line fragment. line ++ fragment) first more
    ≡ fold (λ line fragment. line ++ fragment) (text ++ first) more
added text first [] = refl
added text first (fragment ∷ more) =
    added text (first ++ fragment) more
    ∙ ap (λ line. fold (λ line fragment. line ++ fragment) line more) (sym (append_assoc text first fragment))

-- the fragments of a robot's line
pub robot_line_added : (text name : List ℕ) (i damage : ℕ) (is_alive : Bool)
    → text ++ ended_line (robot_line i is_alive damage name)
    ≡
    ((((((((text ++ codes "  ") ++ decimal (i + 1)) ++ codes ") ") ++ state_text is_alive) ++ codes " damage ")
    ++ column 3 damage) ++ codes "% ") ++ name) ++ codes "\n"
robot_line_added text name i damage is_alive =
    added text (codes "  ") (decimal (i + 1) ∷ codes ") " ∷ state_text is_alive ∷ codes " damage " ∷ column 3 damage
    ∷ codes "% " ∷ name ∷ codes "\n" ∷ [])

-- the fragments of a score's line
pub score_line_added : (text name : List ℕ) (i : ℕ) (score : Score)
    → text ++ ended_line (score_line i score name)
    ≡
    ((((((((((text ++ codes "  ") ++ decimal (i + 1)) ++ codes ") won ") ++ decimal score.won) ++
    codes " tied ") ++ decimal score.tied) ++ codes " lost ") ++ decimal score.lost) ++ codes " ") ++ name)
    ++ codes "\n"
score_line_added text name i score =
    added text (codes "  ") (decimal (i + 1) ∷ codes ") won " ∷ decimal score.won ∷ codes " tied " ∷ decimal score.tied
    ∷ codes " lost " ∷ decimal score.lost ∷ codes " " ∷ name ∷ codes "\n" ∷ [])

-- the fragments of a report
pub report_added : (text : List ℕ) (k : ℕ) (names : List (List ℕ)) (outcome : Outcome)
    → text ++ report k names outcome
    ≡
    (((((text ++ codes "Match ") ++ decimal k) ++ codes ": cycles = ") ++ decimal outcome.cycles) ++ codes "\n")
    ++ lines_text (robot_lines names outcome)
unfolding report
report_added text k names outcome =
    added text (codes "Match ") (decimal k ∷ codes ": cycles = " ∷ decimal outcome.cycles ∷ codes "\n"
    ∷ lines_text (robot_lines names outcome) ∷ [])

-- the line of one robot
pub robot_line_at : (names : List (List ℕ)) (outcome : Outcome) (i : ℕ) (name : List ℕ) → i < length outcome.damages →
    name ≡ get_or names i []
    → get_or (robot_lines names outcome) i [] ≡ robot_line i (is_survivor outcome i) (get_or outcome.damages i 0) name
robot_line_at names outcome i name within named =
    rw named
    (get_or-map-range_with_len
    (λ i. robot_line i (is_survivor outcome i) (get_or outcome.damages i 0) (get_or names i [])) 0
    (length outcome.damages) i i [] within (omega arith))

-- the line of one score
pub score_line_at : (names : List (List ℕ)) (scores : ℕ → Score) (i : ℕ) (name : List ℕ) → i < length names →
    name ≡ get_or names i []
    → get_or (score_lines names scores) i [] ≡ score_line i (scores i) name
score_line_at names scores i name within named =
    rw named
    (get_or-map-range_with_len (λ i. score_line i (scores i) (get_or names i [])) 0 (length names) i i [] within
    (omega arith))

-- a robot's file: the only one, or the one with the robot's index
paired_at : {A : Type 0} (xs : List A) (robot : ℕ) (d : A) → robot < length (paired xs)
    → get_or (paired xs) robot d ≡ get_or xs (min robot (length xs - 1)) d
paired_at [] robot d within = absurd (omega (arith, within))
paired_at (x ∷ []) zero d within = refl
paired_at (x ∷ []) (suc zero) d within = refl
paired_at (x ∷ []) (suc (suc n)) d within = absurd (omega (arith, within))
paired_at (x ∷ y ∷ xs) robot d within =
    let same : min robot (length (x ∷ y ∷ xs) - 1) ≡ robot = omega (arith, within) in rw same refl

-- there is a file
pub some_paired : {A : Type 0} (xs : List A) (robot : ℕ) → robot < length (paired xs) → 0 < length xs
some_paired [] robot within = absurd (omega (arith, within))
some_paired (x ∷ xs) robot within = omega arith

-- two lists of one length have one length when a single robot of each is paired
pub length_paired : {A B : Type 0} (xs : List A) (ys : List B) → length xs ≡ length ys →
    length (paired xs) ≡ length (paired ys)
length_paired [] [] same = refl
length_paired [] (y ∷ ys) same = absurd (omega (arith, same))
length_paired (x ∷ xs) [] same = absurd (omega (arith, same))
length_paired (x ∷ []) (y ∷ []) same = refl
length_paired (x ∷ []) (y ∷ z ∷ ys) same = absurd (omega (arith, same))
length_paired (x ∷ w ∷ xs) (y ∷ []) same = absurd (omega (arith, same))
length_paired (x ∷ w ∷ xs) (y ∷ z ∷ ys) same = same

-- the name of a robot's file
pub robot_name_is : {X : Type 0} (bytes : X → List ℕ) (words : List X) (robot file : ℕ) (x : X) (word : List ℕ)
    → robot < length (paired words) → file ≡ min robot (length words - 1) → word ≡ bytes (get_or words file x)
    → file_name word ≡ get_or (robot_names (map bytes words)) robot []
robot_name_is {X} bytes words robot file x word within here is =
    let names : List (List ℕ) = map file_name (map bytes words) in
    let same : length names ≡ length words = length-map (map bytes words) file_name ∙ length-map words bytes in
    let some = some_paired words robot within in
    let last : min robot (length names - 1) ≡ file = omega (arith, same, here) in
    ap file_name (is ∙ sym (get_or-map bytes words file x [] (omega (arith, here, some))))
    ∙ sym (get_or-map file_name (map bytes words) file [] [] (omega (arith, here, some, length-map words bytes)))
    ∙ sym (rw last at (paired_at names robot [] (omega (arith, within, length_paired names words same))))

-- a line for each robot
pub length_robot_lines : (names : List (List ℕ)) (outcome : Outcome) →
    length (robot_lines names outcome) ≡ length outcome.damages
length_robot_lines names outcome =
    length-map-range_with_len
    (λ i. robot_line i (is_survivor outcome i) (get_or outcome.damages i 0) (get_or names i [])) 0
    (length outcome.damages)

pub length_score_lines : (names : List (List ℕ)) (scores : ℕ → Score) → length (score_lines names scores) ≡ length names
length_score_lines names scores =
    length-map-range_with_len (λ i. score_line i (scores i) (get_or names i [])) 0 (length names)

-- there are two robots at least
pub robots_there : {A : Type 0} (xs : List A) → 0 < length xs → length (paired xs) ≡ max (length xs) 2
robots_there [] some = absurd (omega arith)
robots_there (x ∷ []) some = refl
robots_there (x ∷ y ∷ xs) some = omega arith

-- a name for each robot
pub length_robot_names : {X : Type 0} (bytes : X → List ℕ) (words : List X) →
    length (robot_names (map bytes words)) ≡ length (paired words)
length_robot_names bytes words =
    length_paired (map file_name (map bytes words)) words
    (length-map (map bytes words) file_name ∙ length-map words bytes)
