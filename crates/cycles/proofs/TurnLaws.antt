-- Turns of loops.
use Rattle.std.specs.Prelude.{◌≡◌, ℕ, ℤ, ◌+◌, List, [], ◌∷◌, Bool, true, false, Option, Some, None, nat_lt, if◌then◌else◌}
use Rattle.std.proofs.Common.{refl}
use Rattle.arith.specs.Op.{holds}
use Rattle.grammar.specs.Profile.{Profile}
use Rattle.grammar.specs.Tree.{Expr, Body, File, While}
use Rattle.code.specs.Meaning.{Vars, EvaluationResult, Gives, Awaits, Completion, Through, Returns, BodyMeaning, and_on, and_then, effect, end_of_branch_or_iteration, quiet_cycle, push, tick, value}
use Rattle.code.specs.declared.want.Want.TheVariants.{Quiet}
use Rattle.cycles.specs.declared.counted.Counted.{Counted}
use Rattle.cycles.specs.declared.spans.Span.{Span}
use Rattle.cycles.specs.declared.spans.Ends.{Ends}
use Rattle.cycles.specs.Spans.{MayTake, anything, exactly}
use Rattle.cycles.specs.Ends.{before, behind, end_of}
use Rattle.cycles.specs.Expressions.{span_of, two_cycles}
use Rattle.cycles.specs.Statements.{ends_of, taken}
use Rattle.cycles.specs.Runs.{body_at, run_within}
use Rattle.cycles.specs.Turns.{TurnEnd, Begins, Leaves, GivesBack, after_turn, turn, turned}
use Rattle.cycles.proofs.Numbers.{behind_takes, within_all, within_anything, within_exactly}
use Rattle.cycles.proofs.Spending.{Spends, spends_both, spends_either, spends_given, spends_wider}
use Rattle.cycles.proofs.Ways.{BodiesTake, behind_taken, behind_two, effect_takes, value_takes}

-- What a turn takes up to where its loop begins again; of the other ends nothing is said.
abbrev begun : Counted → Ends → TurnEnd → Option Span
begun u inside Begins = behind inside.through (Some (two_cycles u))
begun u inside Leaves = Some anything
begun u inside (GivesBack x) = Some anything

-- of the end after the statements
abbrev turned_span : Counted → Completion → TurnEnd → Option Span
turned_span u Through Begins = Some (two_cycles u)
turned_span u Through Leaves = None
turned_span u Through (GivesBack x) = None
turned_span u (Returns y) Begins = None
turned_span u (Returns y) Leaves = None
turned_span u (Returns y) (GivesBack x) = Some anything

abbrev begins_only : TurnEnd → Option Span
begins_only Begins = Some (exactly 0)
begins_only Leaves = None
begins_only (GivesBack x) = None

only_begins : (u : Counted) (last : TurnEnd) (n : ℕ) → MayTake (before (two_cycles u) (begins_only last)) n →
    MayTake (turned_span u Through last) n
only_begins u Begins n h = within_all (two_cycles u) n h
only_begins u Leaves n h = absurd h
only_begins u (GivesBack x) n h = absurd h

begins_after : (u : Counted) (p : Profile) (depth : ℕ) (vars : Vars) →
    Spends u (λ (t : List ℤ). push p depth t (λ rest. quiet_cycle rest (λ rest. Gives Begins vars rest)))
    (turned_span u Through)
begins_after u p depth vars =
    spends_wider u (λ (t : List ℤ). push p depth t (λ rest. quiet_cycle rest (λ rest. Gives Begins vars rest)))
    (λ last. before (two_cycles u) (begins_only last)) (turned_span u Through) (only_begins u)
    (behind_two u (nat_lt depth p.words) true (λ (t : List ℤ). Gives Begins vars t) begins_only
    (spends_given u Begins vars begins_only (within_exactly 0)))

turned_takes : (u : Counted) (p : Profile) (depth : ℕ) (flow : Completion) (vars : Vars) →
    Spends u (λ (t : List ℤ). turned p depth flow vars t) (turned_span u flow)
turned_takes u p depth Through vars = begins_after u p depth vars
turned_takes u p depth (Returns x) vars =
    spends_given u (GivesBack x) vars (turned_span u (Returns x)) (within_anything 0)

turned_fits : (u : Counted) (inside : Ends) (flow : Completion) (last : TurnEnd) (m n : ℕ) →
    MayTake (end_of inside flow) m →
    MayTake (turned_span u flow last) n → MayTake (begun u inside last) (m + n)
turned_fits u inside Through Begins m n one other = behind_takes inside.through (Some (two_cycles u)) m n one other
turned_fits u inside Through Leaves m n one other = absurd other
turned_fits u inside Through (GivesBack x) m n one other = absurd other
turned_fits u inside (Returns y) Begins m n one other = absurd other
turned_fits u inside (Returns y) Leaves m n one other = absurd other
turned_fits u inside (Returns y) (GivesBack x) m n one other = within_anything (m + n)

-- a turn that begins its loop again
abbrev whole_turn : Counted → Span → Ends → TurnEnd → Option Span
whole_turn u test inside last = before test (begun u inside last)

pub turn_takes : (u : Counted) (p : Profile) (file : File) (again : BodyMeaning) → BodiesTake u p file again →
    (fuel : ℕ) (c : Expr) (s : Body) (vars : Vars) (depth frames : ℕ) →
    Spends u (λ (t : List ℤ). turn p file again c s vars depth frames t)
    (whole_turn u (taken u p (run_within u p (body_at file) fuel) c)
    (ends_of u p (run_within u p (body_at file) fuel) s))
turn_takes u p file again sooner fuel c s vars depth frames =
    let runs : ℕ → Span = run_within u p (body_at file) fuel in
    let inside : Ends = ends_of u p runs s in
    behind_taken u (λ (t : List ℤ). value p file again c vars depth frames t)
    (λ x vars rest. if holds x then and_then (effect p file again s vars depth frames rest) (turned p depth) else
    Gives Leaves vars rest)
    (span_of u p runs c) (begun u inside) (value_takes u p file again sooner fuel c vars depth frames)
    (λ x vars. spends_either u (holds x)
    (λ (t : List ℤ). and_then (effect p file again s vars depth frames t) (turned p depth))
    (λ (t : List ℤ). Gives Leaves vars t) (begun u inside)
    (spends_both u (λ (t : List ℤ). effect p file again s vars depth frames t) (turned p depth) (end_of inside)
    (turned_span u) (begun u inside) (effect_takes u p file again sooner fuel s vars depth frames)
    (λ flow vars. turned_takes u p depth flow vars)
    (λ flow last m n one other. turned_fits u inside flow last m n one other))
    (spends_given u Leaves vars (begun u inside) (within_anything 0)))

-- A loop turn by turn.

module _ (p : Profile) (file : File) (again : BodyMeaning) (c : Expr) (s next : Body) (depth frames : ℕ) where
  abbrev later : TurnEnd → Vars → List ℤ → EvaluationResult Completion
  later = after_turn p file again c s next depth frames

  -- after the statements
  turned_is : (b : Bool) (vars : Vars) (trace : List ℤ) →
      tick b Quiet trace (λ reply rest. quiet_cycle rest (λ rest. again (While c s next) vars depth frames rest)) ≡
      and_then (tick b Quiet trace (λ reply rest. quiet_cycle rest (λ rest. Gives Begins vars rest))) later
  turned_is false vars trace = refl
  turned_is true vars [] = refl
  turned_is true vars (reply ∷ []) = refl
  turned_is true vars (reply ∷ other ∷ rest) = refl

  body_is : (o : EvaluationResult Completion) →
      and_on o
      (λ vars rest. end_of_branch_or_iteration p depth rest (λ rest. again (While c s next) vars depth frames rest))
      ≡
      and_then (and_then o (turned p depth)) later
  body_is (Awaits want) = refl
  body_is (Gives Through vars rest) = turned_is (nat_lt depth p.words) vars rest
  body_is (Gives (Returns x) vars rest) = refl

  choice_is : (b : Bool) (vars : Vars) (trace : List ℤ) →
      (if b then and_on (effect p file again s vars depth frames trace)
      (λ vars rest. end_of_branch_or_iteration p depth rest (λ rest. again (While c s next) vars depth frames rest))
      else
      effect p file again next vars depth frames trace) ≡
      and_then
      (if b then and_then (effect p file again s vars depth frames trace) (turned p depth) else Gives Leaves vars trace)
      later
  choice_is true vars trace = body_is (effect p file again s vars depth frames trace)
  choice_is false vars trace = refl

  test_is : (o : EvaluationResult ℤ) →
      and_then o (λ x vars rest.
      quiet_cycle rest (λ rest.
      if holds x then and_on (effect p file again s vars depth frames rest) (λ vars rest.
      end_of_branch_or_iteration p depth rest (λ rest. again (While c s next) vars depth frames rest)) else
      effect p file again next vars depth frames rest)) ≡
      and_then
      (and_then o (λ x vars rest.
      quiet_cycle rest (λ rest.
      if holds x then and_then (effect p file again s vars depth frames rest) (turned p depth) else
      Gives Leaves vars rest))) later
  test_is (Awaits want) = refl
  test_is (Gives x vars []) = refl
  test_is (Gives x vars (reply ∷ rest)) = choice_is (holds x) vars rest

  pub loop_is_turns : (vars : Vars) (trace : List ℤ) →
      effect p file again (While c s next) vars depth frames trace ≡
      and_then (turn p file again c s vars depth frames trace) later
  loop_is_turns vars trace = test_is (value p file again c vars depth frames trace)
