-- What a series counted and wrote, match by match.
use Rattle.std.proofs.Common.{zero, suc, cond, inl, inr, ◌≡◌, ℕ, ◌+◌, ◌<◌, ◌≤◌, Bool, true, false, not, List, [], ◌∷◌, ◌++◌, length, get_or, map, refl, ap, ◌∙◌, arith}
use Rattle.std.specs.Prelude.{◌&&◌, ◌||◌, ◌==◌, nat_eq, nat_le, nat_lt, count_by, if◌then◌else◌}
use Rattle.std.specs.List.{range_with_len}
use Rattle.std.proofs.lemmas.List.Sums.{fold-append, get_or-le-sum_by}
use Rattle.std.proofs.lemmas.List.{get_or_past, length-map}
use Rattle.std.proofs.lemmas.Bool.{cases_lt}
use Rattle.std.proofs.lemmas.Bool.Decides.{nat_tests}
use Rattle.grammar.specs.Tree.{File}
use Rattle.battles.specs.Battle.{Outcome, is_survivor, battle}
use Rattle.battles.specs.Pairing.{robots_of}
use Rattle.settings.specs.Settings.{Settings}
use Rattle.series.specs.declared.totals.Score.{Score}
use Rattle.series.specs.SeriesSteps.{Tally, IsTallyOf, next_text, score_at, next_step, with_match}
use Rattle.series.specs.RobotNames.{robot_names}
use Rattle.series.specs.Outcomes.{outcome_of, outcomes, report_text, totals_text}
use Rattle.series.specs.Reports.{report}
use Rattle.sinks.specs.Texts.{file_name}
use Rattle.series.specs.Lines.{lines_text}
use Rattle.series.specs.Totals.{has_won, has_tied, has_lost, score_line, score_of, survivors, totals, totals_line}
use Rattle.series.specs.declared.run_results.Step.TheVariants.{Played}
use Rattle.series.proofs.TextsLemmas.{robots_there}

-- there is no robot past the last one
pub none_alive : (outcome : Outcome) (i : ℕ) → length outcome.damages ≤ i → is_survivor outcome i ≡ false
unfolding is_survivor
none_alive outcome i past = rw (get_or_past outcome.damages i 100 past) refl

-- a robot that is alive is a survivor
some_survivor : (outcome : Outcome) (i : ℕ) → is_survivor outcome i ≡ true → 1 ≤ survivors outcome
unfolding is_survivor
some_survivor outcome i lives = elim (cases_lt i (length outcome.damages)) [
  | inl within ↦
      let one : cond {A = ℕ} (nat_lt (get_or outcome.damages i 100) 100) 1 0 ≡ 1 = rw lives refl in
      omega (arith, one, get_or-le-sum_by (λ damage. cond (nat_lt damage 100) 1 0) outcome.damages i 100 within)
  | inr past ↦ let none : nat_lt (get_or outcome.damages i 100) 100 ≡ false =
      rw (get_or_past outcome.damages i 100 past) refl in cc
]

abbrev score : ℕ → ℕ → ℕ → Score
score won tied lost = record { won = won; tied = tied; lost = lost }

-- what one more match adds to a count
counted : (p : Outcome → Bool) (ended : List Outcome) (outcome : Outcome)
    → count_by p (ended ++ outcome ∷ []) ≡ count_by p ended + (if p outcome then 1 else 0)
counted p ended outcome = fold-append (λ n o. n + (if p o then 1 else 0)) 0 ended (outcome ∷ [])

several : (n : ℕ) → 1 ≤ n → nat_le 2 n ≡ not (n == 1)
several n some = grind (arith, nat_tests)

same : {won tied lost more_won more_tied more_lost : ℕ} → won ≡ more_won → tied ≡ more_tied → lost ≡ more_lost
    → score won tied lost ≡ score more_won more_tied more_lost
same w t l = rw (w, t, l) refl

-- one more match for a robot: it won, tied or lost
pub score_more : (ended : List Outcome) (outcome : Outcome) (i : ℕ) (is_alive : Bool) (count : ℕ)
    → is_alive ≡ is_survivor outcome i → count ≡ survivors outcome
    → score_of (ended ++ outcome ∷ []) i ≡ with_match (score_of ended i) is_alive count
score_more ended outcome i is_alive count lives survived =
    rw (
      lives,
      survived,
      counted (has_won i) ended outcome,
      counted (has_tied i) ended outcome,
      counted (has_lost i) ended outcome,
    )
    (by_end (is_survivor outcome i) (survivors outcome) (some_survivor outcome i))
  where
    by_test : (b one many : Bool) (won tied lost : ℕ) → (b ≡ true → many ≡ not one)
        →
        score (won + (if b && one then 1 else 0)) (tied + (if b && many then 1 else 0))
        (lost + (if not (b && one || b && many) then 1 else 0))
        ≡
        (if b then (if one then score (won + 1) tied lost else score won (tied + 1) lost) else score won tied
        (lost + 1))
    by_test false one many won tied lost other = same (omega arith) (omega arith) refl
    by_test true true many won tied lost other = rw (other refl) (same refl (omega arith) (omega arith))
    by_test true false many won tied lost other = rw (other refl) (same (omega arith) refl (omega arith))

    by_end : (b : Bool) (n : ℕ) → (b ≡ true → 1 ≤ n)
        →
        score (count_by (has_won i) ended + (if b && n == 1 then 1 else 0))
        (count_by (has_tied i) ended + (if b && nat_le 2 n then 1 else 0))
        (count_by (has_lost i) ended + (if not (b && n == 1 || b && nat_le 2 n) then 1 else 0))
        ≡ with_match (score_of ended i) b n
    by_end b n some = by_test b (n == 1) (nat_le 2 n) _ _ _ (λ lives. several n (some lives))

-- how the match of this number ended
pub outcome_is : (settings : Settings) (files : List File) (number : ℕ) (outcome : Outcome)
    → outcome ≡ battle (robots_of settings.profile files) settings.seed number settings.limit →
    outcome ≡ outcome_of settings files number
unfolding outcome_of
outcome_is settings files number outcome is = is

-- what the next step does, which plays the match of this number
pub record IsNext (settings : Settings) (played number : ℕ) : Type 0 where
  pub step : Played number ≡ next_step settings played
  pub text : (files : List File) → report_text settings files number ≡ next_text settings files played

-- a match is left
pub is_left : (played matches : ℕ) → played ≤ matches → nat_eq played matches ≡ false → played < matches
is_left played matches most other = grind (arith, nat_tests)

-- that is so if a match is left
pub next_match : (settings : Settings) (played number : ℕ) → played < settings.matches
    → settings.first + played ≡ number → IsNext settings played number
next_match settings played number left here =
    let more : nat_lt played settings.matches ≡ true = grind (arith, nat_tests) in
    record { step = rw (more, here) refl; text = λ files. rw (more, here) refl }

-- its report is that of the outcome
pub report_is : (settings : Settings) (files : List File) (played number : ℕ) (outcome : Outcome)
    (names : List (List ℕ)) → IsNext settings played number → names ≡ robot_names settings.file_words
    → outcome ≡ outcome_of settings files number → report number names outcome ≡ next_text settings files played
report_is settings files played number outcome names next named is = rw (named, is) (next.text files)

-- the scores' lines, if the scores are the same
same_lines : (f g : ℕ → List ℕ) (a n : ℕ) → ((i : ℕ) → i < a + n → f i ≡ g i) →
    map f (range_with_len a n) ≡ map g (range_with_len a n)
same_lines f g a zero each = refl
same_lines f g a (suc n) each =
    rw (each a (omega arith)) (ap (λ l. g a ∷ l) (same_lines f g (a + 1) n (λ i below. each i (omega arith))))

-- the text of the totals
pub totals_are : (settings : Settings) (files : List File) (tally : Tally) (names : List (List ℕ)) →
    0 < length settings.file_words → length settings.file_words ≤ 4
    → tally.matches ≡ settings.matches → names ≡ robot_names settings.file_words →
    IsTallyOf tally (outcomes settings files settings.matches)
    → totals tally.matches names (score_at tally) ≡ totals_text settings files
unfolding totals
totals_are settings files tally names some most all named is =
    let few : length (robot_names settings.file_words) ≤ 4 =
    omega (
      arith,
      length-map settings.file_words file_name,
      robots_there (map file_name settings.file_words) (omega (arith, length-map settings.file_words file_name)),
    ) in
    ap (λ l. totals tally.matches l (score_at tally)) named
    ∙ ap (λ n. totals n (robot_names settings.file_words) (score_at tally)) all
    ∙ (ap (λ lines. lines_text (totals_line settings.matches ∷ lines))
    (same_lines (λ i. score_line i (score_at tally i) (get_or (robot_names settings.file_words) i []))
    (λ i. score_line i (score_of (outcomes settings files settings.matches) i)
    (get_or (robot_names settings.file_words) i []))
    0 (length (robot_names settings.file_words))
    (λ i below. ap (λ score. score_line i score (get_or (robot_names settings.file_words) i [])) (is i (omega arith)))))
