-- One turn of a loop, and what it takes.
use Rattle.std.specs.Prelude.{ℕ, ℤ, List, Option, if◌then◌else◌}
use Rattle.arith.specs.Op.{holds}
use Rattle.grammar.specs.Profile.{Profile}
use Rattle.grammar.specs.Tree.{Expr, Body, File, While}
use Rattle.code.specs.Meaning.{Vars, EvaluationResult, Gives, Completion, Through, Returns, BodyMeaning, and_then, quiet_cycle, push, value, effect}
use Rattle.cycles.specs.declared.counted.Counted.{Counted}
use Rattle.cycles.specs.declared.spans.Span.{Span}
use Rattle.cycles.specs.Statements.{ends_of, taken, turn_span}

-- where a turn ends: the loop begins again, or its test doesn't hold, or the function returns
pub data TurnEnd : Type 0 where
  Begins : TurnEnd
  Leaves : TurnEnd
  GivesBack : (value : ℤ) → TurnEnd

-- the end of a turn after its statements: a push of 0, and a cycle that takes it
abbrev pub turned : Profile → ℕ → Completion → Vars → List ℤ → EvaluationResult TurnEnd
turned p depth Through vars rest = push p depth rest (λ rest. quiet_cycle rest (λ rest. Gives Begins vars rest))
turned p depth (Returns x) vars rest = Gives (GivesBack x) vars rest

module _ (p : Profile) (file : File) (again : BodyMeaning) where
  -- one turn, from its test on
  abbrev pub turn : Expr → Body → Vars → ℕ → ℕ → List ℤ → EvaluationResult TurnEnd
  turn c s vars depth frames trace =
      and_then (value p file again c vars depth frames trace) (λ x vars rest.
      quiet_cycle rest (λ rest.
      if holds x then and_then (effect p file again s vars depth frames rest) (turned p depth) else
      Gives Leaves vars rest))

  -- what a loop does after a turn
  abbrev pub after_turn : Expr → Body → Body → ℕ → ℕ → TurnEnd → Vars → List ℤ → EvaluationResult Completion
  after_turn c s next depth frames Begins vars rest = again (While c s next) vars depth frames rest
  after_turn c s next depth frames Leaves vars rest = effect p file again next vars depth frames rest
  after_turn c s next depth frames (GivesBack x) vars rest = Gives (Returns x) vars rest

-- what a turn takes up to where its loop begins again
abbrev pub turn_of : Counted → Profile → (ℕ → Span) → Expr → Body → Option Span
turn_of u p runs c s = turn_span u (taken u p runs c) (ends_of u p runs s)
