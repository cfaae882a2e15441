-- What runs take: a law for each way in which runs are put together.
use Rattle.std.specs.Prelude.{◌≡◌, ℕ, ℤ, ◌+◌, List, [], ◌∷◌, ◌++◌, Bool, true, false, Option, Some, if◌then◌else◌}
use Rattle.std.proofs.Common.{refl, sym, ap, subst, ◌∙◌, arith, append_assoc}
use Rattle.code.specs.Meaning.{Vars, EvaluationResult, Gives, Awaits, and_then, tick}
use Rattle.code.specs.declared.want.Want.{Want}
use Rattle.cycles.specs.declared.counted.Counted.{Counted}
use Rattle.cycles.specs.declared.spans.Span.{Span}
use Rattle.cycles.specs.Counting.{counted, counts, spent}
use Rattle.cycles.specs.Spans.{MayTake, exactly}
use Rattle.cycles.specs.Ends.{before}
use Rattle.cycles.proofs.Numbers.{before_takes, within_exactly}

abbrev pub IsWaiting : {A : Type 0} → EvaluationResult A → Type 0
IsWaiting o = (want : Want) × (o ≡ Awaits want)

-- along these replies the run waits each time, and then it gives this
abbrev pub HasRun : {A : Type 0} → (List ℤ → EvaluationResult A) → List ℤ → A → Vars → Type 0
HasRun run [] x after = (rest : List ℤ) → run rest ≡ Gives x after rest
HasRun run (reply ∷ replies) x after = IsWaiting (run []) × HasRun (λ rest. run (reply ∷ rest)) replies x after

pub record Ran {A : Type 0} (u : Counted) (run : List ℤ → EvaluationResult A) (s : Option Span) (x : A) (after : Vars)
    (trace rest : List ℤ) : Type 0 where
  pub replies : List ℤ
  pub took : trace ≡ replies ++ rest
  pub ran : HasRun run replies x after
  pub within : MayTake s (spent u run replies)

-- whatever it gives, a run takes what the span of that says
pub record Spends {A : Type 0} (u : Counted) (run : List ℤ → EvaluationResult A) (s : A → Option Span) : Type 0 where
  pub each : (trace : List ℤ) (x : A) (after : Vars) (rest : List ℤ) → run trace ≡ Gives x after rest →
      Ran u run (s x) x after trace rest

module _ {A : Type 0} (u : Counted) where
  -- wider spans
  wider_at : (run : List ℤ → EvaluationResult A) (a b : Option Span) (x : A) (after : Vars) (trace rest : List ℤ) →
      ((n : ℕ) → MayTake a n → MayTake b n) → Ran u run a x after trace rest → Ran u run b x after trace rest
  wider_at run a b x after trace rest wider r = record {
    replies = r.replies;
    took = r.took;
    ran = r.ran;
    within = wider (spent u run r.replies) r.within;
  }

  pub spends_wider : (run : List ℤ → EvaluationResult A) (s h : A → Option Span) →
      ((x : A) (n : ℕ) → MayTake (s x) n → MayTake (h x) n) → Spends u run s → Spends u run h
  spends_wider run s h wider spends = record {
    each =
        λ trace x after rest e. wider_at run (s x) (h x) x after trace rest (wider x)
        (spends.each trace x after rest e);
  }

  -- nothing is ever given
  pub spends_never : (want : Want) (s : A → Option Span) → Spends u (λ (t : List ℤ). Awaits want) s
  spends_never want s = record { each = λ trace x after rest e. absurd (cc) }

  -- a value at once
  given : (x : A) (vars : Vars) (s : A → Option Span) → MayTake (s x) 0 →
      (trace : List ℤ) (y : A) (after : Vars) (rest : List ℤ) → Gives x vars trace ≡ Gives y after rest →
      Ran u (λ (t : List ℤ). Gives x vars t) (s y) y after trace rest
  given x vars s takes trace y after rest e =
      let value : x ≡ y = cc in
      let same : vars ≡ after = cc in
      record {
        replies = [];
        took = cc;
        ran = λ t. cc;
        within = subst (λ (y : A). MayTake (s y) 0) value takes;
      }

  pub spends_given : (x : A) (vars : Vars) (s : A → Option Span) → MayTake (s x) 0 →
      Spends u (λ (t : List ℤ). Gives x vars t) s
  spends_given x vars s takes = record { each = given x vars s takes }

  -- a cycle
  ticked : (want : Want) (go : ℤ → List ℤ → EvaluationResult A) (s : A → Option Span) →
      ((reply : ℤ) → Spends u (λ (t : List ℤ). go reply t) s) →
      (trace : List ℤ) (x : A) (after : Vars) (rest : List ℤ) → tick true want trace go ≡ Gives x after rest →
      Ran u (λ (t : List ℤ). tick true want t go) (before (exactly (counted u want)) (s x)) x after trace rest
  ticked want go s goes [] x after rest e = absurd (cc)
  ticked want go s goes (reply ∷ trace) x after rest e =
      let r : Ran u (λ (t : List ℤ). go reply t) (s x) x after trace rest = (goes reply).each trace x after rest e in
      record {
        replies = reply ∷ r.replies;
        took = ap (λ (t : List ℤ). reply ∷ t) r.took;
        ran = ((want, refl), r.ran);
        within =
            before_takes (exactly (counted u want)) (s x) (counted u want)
            (spent u (λ (t : List ℤ). go reply t) r.replies) (within_exactly (counted u want)) r.within;
      }

  pub spends_tick : (fits : Bool) (want : Want) (go : ℤ → List ℤ → EvaluationResult A) (s : A → Option Span) →
      ((reply : ℤ) → Spends u (λ (t : List ℤ). go reply t) s) →
      Spends u (λ (t : List ℤ). tick fits want t go) (λ x. before (exactly (counted u want)) (s x))
  spends_tick false want go s goes = record { each = λ trace x after rest e. absurd (cc) }
  spends_tick true want go s goes = record { each = ticked want go s goes }

  -- one run or the other
  pub spends_either : (b : Bool) (f g : List ℤ → EvaluationResult A) (s : A → Option Span) → Spends u f s →
      Spends u g s →
      Spends u (λ (t : List ℤ). if b then f t else g t) s
  spends_either true f g s first second = first
  spends_either false f g s first second = second

-- One run after another.

module _ {A B : Type 0} (u : Counted) where
  pub run_then : (run : List ℤ → EvaluationResult A) (go : A → Vars → List ℤ → EvaluationResult B) (replies : List ℤ)
      (x : A)
      (vars : Vars) (more : List ℤ) (y : B) (after : Vars) →
      HasRun run replies x vars → HasRun (λ t. go x vars t) more y after →
      HasRun (λ t. and_then (run t) go) (replies ++ more) y after
  run_then run go [] x vars more y after first second =
      let same : (λ (t : List ℤ). go x vars t) ≡ (λ (t : List ℤ). and_then (run t) go) =
      λ i t. and_then (sym (first t) i) go in
      subst (λ (r : List ℤ → EvaluationResult B). HasRun r more y after) same second
  run_then run go (reply ∷ replies) x vars more y after first second = (
    (first.0.0, ap (λ (o : EvaluationResult A). and_then o go) first.0.1),
    run_then (λ t. run (reply ∷ t)) go replies x vars more y after first.1 second,
  )

  -- where the first run waits, both count the same
  waiting_counts : (o : EvaluationResult A) (go : A → Vars → List ℤ → EvaluationResult B) → IsWaiting o →
      counts u (and_then o go) ≡ counts u o
  waiting_counts o go waits =
      ap (λ (o : EvaluationResult A). counts u (and_then o go)) waits.1 ∙
      sym (ap (λ (o : EvaluationResult A). counts u o) waits.1)

  -- what comes after a run that is over at once
  spent_at_once : (run : List ℤ → EvaluationResult A) (go : A → Vars → List ℤ → EvaluationResult B) (x : A)
      (vars : Vars)
      (more : List ℤ) → HasRun run [] x vars →
      spent u (λ t. and_then (run t) go) more ≡ spent u (λ t. go x vars t) more
  spent_at_once run go x vars more first = λ i. spent u (λ (t : List ℤ). and_then (first t i) go) more

  pub spent_then : (run : List ℤ → EvaluationResult A) (go : A → Vars → List ℤ → EvaluationResult B) (replies : List ℤ)
      (x : A)
      (vars : Vars) (more : List ℤ) → HasRun run replies x vars →
      spent u (λ t. and_then (run t) go) (replies ++ more) ≡ spent u run replies + spent u (λ t. go x vars t) more
  spent_then run go [] x vars more first = omega (arith, spent_at_once run go x vars more first)
  spent_then run go (reply ∷ replies) x vars more first =
      omega (
        arith,
        waiting_counts (run []) go first.0,
        spent_then (λ t. run (reply ∷ t)) go replies x vars more first.1,
      )

  both_ran : (run : List ℤ → EvaluationResult A) (go : A → Vars → List ℤ → EvaluationResult B) (f : A → Option Span)
      (g : A → B → Option Span) (h : B → Option Span) →
      Spends u run f → ((x : A) (vars : Vars) → Spends u (λ (t : List ℤ). go x vars t) (g x)) →
      ((x : A) (y : B) (m n : ℕ) → MayTake (f x) m → MayTake (g x y) n → MayTake (h y) (m + n)) →
      (trace : List ℤ) (y : B) (after : Vars) (rest : List ℤ) (o : EvaluationResult A) → run trace ≡ o →
      and_then o go ≡ Gives y after rest → Ran u (λ (t : List ℤ). and_then (run t) go) (h y) y after trace rest
  both_ran run go f g h first second fits trace y after rest (Awaits want) is e = absurd (cc)
  both_ran run go f g h first second fits trace y after rest (Gives x vars middle) is e =
      let a : Ran u run (f x) x vars trace middle = first.each trace x vars middle is in
      let b : Ran u (λ (t : List ℤ). go x vars t) (g x y) y after middle rest =
      (second x vars).each middle y after rest e
      in
      record {
        replies = a.replies ++ b.replies;
        took = a.took ∙ ap (λ (t : List ℤ). a.replies ++ t) b.took ∙ sym (append_assoc a.replies b.replies rest);
        ran = run_then run go a.replies x vars b.replies y after a.ran b.ran;
        within =
            subst (λ (n : ℕ). MayTake (h y) n) (sym (spent_then run go a.replies x vars b.replies a.ran))
            (fits x y (spent u run a.replies) (spent u (λ (t : List ℤ). go x vars t) b.replies) a.within b.within);
      }

  pub spends_both : (run : List ℤ → EvaluationResult A) (go : A → Vars → List ℤ → EvaluationResult B)
      (f : A → Option Span)
      (g : A → B → Option Span) (h : B → Option Span) →
      Spends u run f → ((x : A) (vars : Vars) → Spends u (λ (t : List ℤ). go x vars t) (g x)) →
      ((x : A) (y : B) (m n : ℕ) → MayTake (f x) m → MayTake (g x y) n → MayTake (h y) (m + n)) →
      Spends u (λ (t : List ℤ). and_then (run t) go) h
  spends_both run go f g h first second fits = record {
    each = λ trace y after rest e. both_ran run go f g h first second fits trace y after rest (run trace) refl e;
  }

  -- a value, and what comes after it
  pub spends_then : (run : List ℤ → EvaluationResult A) (go : A → Vars → List ℤ → EvaluationResult B) (s : Span)
      (g : B → Option Span) → Spends u run (λ x. Some s) →
      ((x : A) (vars : Vars) → Spends u (λ (t : List ℤ). go x vars t) g) →
      Spends u (λ (t : List ℤ). and_then (run t) go) (λ y. before s (g y))
  spends_then run go s g first second =
      spends_both run go (λ x. Some s) (λ x y. g y) (λ y. before s (g y)) first second
      (λ x y m n one other. before_takes s (g y) m n one other)
