-- Laws of spans: whatever replies come, what is counted along a run is within its span.
use Rattle.std.specs.Prelude.{◌≡◌, ℕ, ℤ, List, ◌++◌, length, Option, Some}
use Rattle.grammar.specs.declared.resolved_names.Callee.TheVariants as callee
use Rattle.grammar.specs.Profile.{Profile}
use Rattle.grammar.specs.Tree.{Expr, Body, File, While}
use Rattle.code.specs.Meaning.{Vars, EvaluationResult, Gives, Completion, and_then, called, value, effect, effect_within}
use Rattle.cycles.specs.declared.counted.Counted.{Counted}
use Rattle.cycles.specs.declared.counted.Counted.TheVariants.{Cycles}
use Rattle.cycles.specs.declared.spans.Span.{Span}
use Rattle.cycles.specs.Counting.{spent}
use Rattle.cycles.specs.Spans.{MayTake}
use Rattle.cycles.specs.Ends.{end_of}
use Rattle.cycles.specs.Expressions.{span_of}
use Rattle.cycles.specs.Statements.{ends_of}
use Rattle.cycles.specs.Runs.{run_span}
use Rattle.cycles.specs.Turns.{TurnEnd, Begins, after_turn, turn, turn_of}

-- a run took the first of these replies and left the rest, and what it counted is within the span
pub record Takes {A : Type 0} (u : Counted) (run : List ℤ → EvaluationResult A) (s : Option Span)
    (trace rest : List ℤ) : Type 0 where
  pub replies : List ℤ
  pub took : trace ≡ replies ++ rest
  pub within : MayTake s (spent u run replies)

-- If an expression has a value along some replies, it takes a number within its span.
abbrev pub ExpressionsTake : Type 0
ExpressionsTake = (u : Counted) (p : Profile) (file : File) (n : ℕ) (e : Expr) (vars : Vars) (depth frames : ℕ)
    (trace : List ℤ) (x : ℤ) (behind : Vars) (rest : List ℤ)
    → value p file (effect_within p file n) e vars depth frames trace ≡ Gives x behind rest
    → Takes u (λ (t : List ℤ). value p file (effect_within p file n) e vars depth frames t)
    (Some (span_of u p (run_span u p file) e)) trace rest

-- If statements end along some replies, they take a number within the span of this end.
abbrev pub StatementsTake : Type 0
StatementsTake = (u : Counted) (p : Profile) (file : File) (n : ℕ) (b : Body) (vars : Vars) (depth frames : ℕ)
    (trace : List ℤ) (flow : Completion) (behind : Vars) (rest : List ℤ)
    → effect_within p file n b vars depth frames trace ≡ Gives flow behind rest
    → Takes u (λ (t : List ℤ). effect_within p file n b vars depth frames t)
    (end_of (ends_of u p (run_span u p file) b) flow) trace rest

-- If a function that is called gives a value along some replies, its run takes a number within its span.
abbrev pub RunsTake : Type 0
RunsTake = (u : Counted) (p : Profile) (file : File) (n k : ℕ) (arguments : List ℤ) (vars : Vars) (depth frames : ℕ)
    (trace : List ℤ) (x : ℤ) (behind : Vars) (rest : List ℤ)
    → called p file (effect_within p file n) (callee.Function k) arguments vars depth frames trace ≡ Gives x behind rest
    → Takes u (λ (t : List ℤ). called p file (effect_within p file n) (callee.Function k) arguments vars depth frames t)
    (Some (run_span u p file k)) trace rest

-- If a turn ends along some replies so that its loop begins again, it takes a number within its span.
abbrev pub TurnsTake : Type 0
TurnsTake = (u : Counted) (p : Profile) (file : File) (n : ℕ) (c : Expr) (s : Body) (vars : Vars) (depth frames : ℕ)
    (trace : List ℤ) (behind : Vars) (rest : List ℤ)
    → turn p file (effect_within p file n) c s vars depth frames trace ≡ Gives Begins behind rest
    → Takes u (λ (t : List ℤ). turn p file (effect_within p file n) c s vars depth frames t)
    (turn_of u p (run_span u p file) c s) trace rest

-- A loop is a turn, and what comes after it: the loop again, the next statements, or a return.
abbrev pub LoopsAreTurns : Type 0
LoopsAreTurns = (p : Profile) (file : File) (n : ℕ) (c : Expr) (s next : Body) (vars : Vars) (depth frames : ℕ)
    (trace : List ℤ) → let again = effect_within p file n in
    effect p file again (While c s next) vars depth frames trace ≡
    and_then (turn p file again c s vars depth frames trace) (after_turn p file again c s next depth frames)

abbrev pub AreReplies : {A : Type 0} → (List ℤ → EvaluationResult A) → Type 0
AreReplies run = (replies : List ℤ) → spent Cycles run replies ≡ length replies

-- Each reply is a cycle: of a value, of statements, and of a turn.
pub record CyclesAreReplies : Type 0 where
  pub of_value : (run : List ℤ → EvaluationResult ℤ) → AreReplies run
  pub of_statements : (run : List ℤ → EvaluationResult Completion) → AreReplies run
  pub of_turn : (run : List ℤ → EvaluationResult TurnEnd) → AreReplies run
