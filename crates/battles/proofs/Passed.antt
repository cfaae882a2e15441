-- Robots that go on by cycles which their machines are ahead.
use Rattle.std.proofs.Common.{◌≡◌, ◌≢◌, ℕ, ◌+◌, ◌*◌, ◌%◌, ◌-◌, ◌<◌, ◌≤◌, zero, suc, true, false, ℤ, List, [], ◌∷◌, length, set, get_or, Some, inl, inr, refl, ap, ◌∙◌, arith}
use Rattle.std.specs.Prelude.{slice_get, nat_lt, if◌then◌else◌}
use Rattle.std.proofs.lemmas.List.{get_or-set_same, get_or-set_other}
use Rattle.std.proofs.lemmas.Bool.{cases_eq, cases_lt}
use Rattle.std.proofs.lemmas.Bool.Decides.{nat_tests}
use Rattle.arena.specs.Field.{Field, is_live_at}
use Rattle.arena.specs.Arena.{Arena, is_live}
use Rattle.arena.specs.Representing.{RepresentsField}
use Rattle.engine.specs.Executables.{Executable}
use Rattle.engine.specs.Engines.{EngineFits}
use Rattle.battles.specs.Battle.{Behaviour, BattleState}
use Rattle.battles.specs.Carrying.{Runner, AreRobotsOf, EachFits, EachIsAheadOf, HasReached, IsAheadOf, IsRobotOf}
use Rattle.battles.specs.Intervals.{AreAhead, AreTurnNumbers, HasCome, HasRunAlone, cycles_without_updates}
use Rattle.battles.proofs.Ahead.{Runs, come_alone, opens, closes}
use Rattle.battles.proofs.Alone.{quiet_alone, quiet_runs}
use Rattle.battles.proofs.Running.{at_less, quiet_less}
use Rattle.battles.proofs.States.{fits_at, fits_length, fits_set}
use Rattle.battles.proofs.TurnNumbers.{turn_numbers_set}

-- a live robot goes on
pub goes_ahead : (runner : Runner) (exe : Executable) (r : Behaviour) (i : ℕ) (f : Field) (trace : List ℤ) (n : ℕ)
    (arena : Arena)
    → n ≤ runner.ahead → is_live_at f i ≡ true → IsRobotOf exe r → RepresentsField arena f → IsAheadOf runner exe trace
    → HasRunAlone ⊥ r i f trace n exe (record { machine = runner.machine; ahead = runner.ahead - n }) arena
goes_ahead runner exe r i f trace n arena within live is field at =
    let quiet = quiet_less r trace n runner.ahead within (at.quiet r is) in
    record {
      turns = inl (quiet_runs r i f trace n live quiet);
      stands = rw (quiet_alone r i f trace n live quiet) field;
      at = rw (quiet_alone r i f trace n live quiet) (at_less runner n exe trace within at);
    }

-- n robots have passed the interval; the others are at its begin.
pub record HavePassed (robots : List Behaviour) (exes : List Executable) (k w : ℕ) (runners : List Runner)
    (arena : Arena) (opened : BattleState) : Type 0 where
  pub next : List ℕ
  pub turn_numbers : AreTurnNumbers next
  pub done : (i : ℕ) → i < k → 4 * w ≤ get_or next i 0
  pub begin : (i : ℕ) → k ≤ i → i < length exes → get_or next i 0 ≡ i
  pub past : (i : ℕ) → length exes ≤ i → i < 4 → 4 * w ≤ get_or next i 0
  pub come : HasCome robots exes next w runners arena opened

-- one of the first n robots, a live one, has a machine that is less than this number of cycles ahead
pub record OneIsBehind (n cycles : ℕ) (arena : Arena) (runners : List Runner) : Type 0 where
  pub robot : ℕ
  pub inside : robot < n
  pub alive : is_live arena robot ≡ true
  pub none : Runner
  pub behind : (get_or runners robot none).ahead < cycles

-- then they aren't all that far ahead
pub not_ahead : (n cycles : ℕ) (arena : Arena) (runners : List Runner) → OneIsBehind n cycles arena runners
    → AreAhead n cycles arena runners → ⊥
not_ahead n cycles arena runners one ahead =
    omega (arith, ahead one.robot one.none one.inside one.alive, one.behind)

turn_number_of : ℕ → ℕ → ℕ → ℕ
turn_number_of n w i = if nat_lt i n then i else 4 * w + i

turn_number_in : (n w i : ℕ) → i < n → turn_number_of n w i ≡ i
unfolding turn_number_of
turn_number_in n w i inside = let yes : nat_lt i n ≡ true = grind (arith, nat_tests) in rw yes refl

turn_number_past : (n w i : ℕ) → n ≤ i → turn_number_of n w i ≡ 4 * w + i
unfolding turn_number_of
turn_number_past n w i outside = let no : nat_lt i n ≡ false = grind (arith, nat_tests) in rw no refl

turn_number_own : (n w i : ℕ) → i < 4 → turn_number_of n w i % 4 ≡ i
turn_number_own n w i small = elim (cases_lt i n) [
  | inl inside ↦ rw (turn_number_in n w i inside) (omega arith)
  | inr outside ↦ rw (turn_number_past n w i outside) (omega arith)
]

-- the numbers of the next turns, before the interval
turn_numbers_of : ℕ → ℕ → List ℕ
turn_numbers_of n w = turn_number_of n w 0 ∷ turn_number_of n w 1 ∷ turn_number_of n w 2 ∷ turn_number_of n w 3 ∷ []

turn_numbers_at : (n w i : ℕ) → i < 4 → get_or (turn_numbers_of n w) i 0 ≡ turn_number_of n w i
unfolding turn_numbers_of
turn_numbers_at n w zero small = refl
turn_numbers_at n w (suc zero) small = refl
turn_numbers_at n w (suc (suc zero)) small = refl
turn_numbers_at n w (suc (suc (suc zero))) small = refl
turn_numbers_at n w (suc (suc (suc (suc i)))) small = absurd (omega arith)

turn_numbers_are : (n w : ℕ) → AreTurnNumbers (turn_numbers_of n w)
unfolding turn_numbers_of
turn_numbers_are n w = record {
  four = refl;
  own = λ i small. rw (turn_numbers_at n w i small) (turn_number_own n w i small);
}

pub none_passed : (robots : List Behaviour) (exes : List Executable) (w : ℕ) (runners : List Runner) (arena : Arena)
    (s : BattleState)
    → AreRobotsOf exes robots → length exes ≤ 4 → HasReached runners exes arena s →
    HavePassed robots exes 0 w runners arena s
none_passed robots exes w runners arena s are few reached =
    let n = length exes in
    let first : (i : ℕ) → i < n → i < 4 → get_or (turn_numbers_of n w) i 0 ≡ i =
    λ i inside small. turn_numbers_at n w i small ∙ turn_number_in n w i inside in
    let past : (i : ℕ) → n ≤ i → i < 4 → 4 * w ≤ get_or (turn_numbers_of n w) i 0 =
    λ i outside small. omega (arith, turn_numbers_at n w i small, turn_number_past n w i outside) in
    record {
      next = turn_numbers_of n w;
      turn_numbers = turn_numbers_are n w;
      done = λ i low. absurd (omega arith);
      begin = λ i from inside. first i inside (omega arith);
      past = past;
      come = opens robots exes (turn_numbers_of n w) w runners arena s are (turn_numbers_are n w) few first past
          reached;
    }

pub one_passes : (robots : List Behaviour) (exes : List Executable) (k w : ℕ) (runners : List Runner) (arena : Arena)
    (s : BattleState)
    (exe : Executable) (none after : Runner)
    → AreRobotsOf exes robots → length exes ≤ 4 → k < length exes → slice_get exes k ≡ Some exe
    → HavePassed robots exes k w runners arena s → Runs ⊥ k exe w (get_or runners k none) after arena arena
    → HavePassed robots exes (k + 1) w (set runners k after) arena s
one_passes robots exes k w runners arena s exe none after are few inside here passed gone =
    let here' : get_or passed.next k 0 ≡ k = passed.begin k (omega arith) inside in
    let four = passed.turn_numbers.four in
    let next = set passed.next k (get_or passed.next k 0 + 4 * w) in
    let own : get_or next k 0 ≡ get_or passed.next k 0 + 4 * w =
    get_or-set_same passed.next k (get_or passed.next k 0 + 4 * w) 0 (omega arith) in
    let other =
    λ (i : ℕ) (distinct : i ≢ k). get_or-set_other passed.next k i (get_or passed.next k 0 + 4 * w) 0 distinct in
    record {
      next = next;
      turn_numbers = turn_numbers_set passed.next k w passed.turn_numbers (omega arith);
      done = λ i low. elim (cases_eq i k) [
        | inl same ↦ rw (same, own) (omega arith)
        | inr distinct ↦ rw (other i distinct) (passed.done i (omega (arith, low, distinct)))
      ];
      begin = λ i from within.
          let distinct : i ≢ k = omega arith in
          other i distinct ∙ passed.begin i (omega arith) within;
      past = λ i from small.
          let distinct : i ≢ k = omega arith in
          rw (other i distinct) (passed.past i from small);
      come =
          come_alone robots exes passed.next w w k runners arena arena s exe none after ⊥ are passed.turn_numbers
          (omega arith) inside
          (omega (arith, here')) (λ free. absurd free) passed.come here gone;
    }

pub all_passed : (robots : List Behaviour) (exes : List Executable) (w : ℕ) (runners : List Runner) (arena : Arena)
    (s : BattleState)
    → HavePassed robots exes (length exes) w runners arena s →
    HasReached runners exes arena (cycles_without_updates robots w s)
all_passed robots exes w runners arena s passed =
    closes robots exes passed.next w runners arena s (λ i small. elim (cases_lt i (length exes)) [
      | inl inside ↦ passed.done i inside
      | inr outside ↦ passed.past i outside small
    ]) passed.come

-- a robot's executable, and its runner
pub code_at : (exes : List Executable) (k : ℕ) → k < length exes →
    (exe : Executable) × (slice_get exes k ≡ Some exe)
code_at [] k inside = absurd (omega arith)
code_at (exe ∷ exes) zero inside = (exe, refl)
code_at (exe ∷ exes) (suc k) inside = code_at exes k (omega arith)

-- one machine stays as it is
pub fits_still : (runners : List Runner) (exes : List Executable) (k : ℕ) (none after : Runner) → k < length runners
    → after.machine ≡ (get_or runners k none).machine → EachFits runners exes → EachFits (set runners k after) exes
fits_still runners exes k none after inside same fits =
    let here = code_at exes k (omega (arith, inside, fits_length runners exes fits)) in
    let still : EngineFits after.machine here.0 = rw same (fits_at runners exes k here.0 none fits here.1) in
    fits_set runners exes k after here.0 fits here.1 still

-- there is a runner for each executable
pub runners_length : (runners : List Runner) (exes : List Executable) (traces : List (List ℤ)) →
    EachIsAheadOf runners exes traces
    → length runners ≡ length exes
runners_length [] [] [] at = refl
runners_length (runner ∷ runners) (exe ∷ exes) (trace ∷ traces) at = ap suc (runners_length runners exes traces at.1)
runners_length _ _ _ at = absurd at
