-- The laws of spans.
use Rattle.std.specs.Prelude.{◌≡◌, ℤ, List, [], ◌∷◌, length, Option}
use Rattle.std.proofs.Common.{refl, arith}
use Rattle.grammar.specs.declared.resolved_names.Callee.TheVariants as callee
use Rattle.code.specs.Meaning.{Vars, EvaluationResult, Gives, Awaits, effect_within}
use Rattle.code.specs.declared.want.Want.TheVariants.{Quiet, Ask, Restart}
use Rattle.cycles.specs.declared.counted.Counted.{Counted}
use Rattle.cycles.specs.declared.counted.Counted.TheVariants.{Cycles}
use Rattle.cycles.specs.declared.spans.Span.{Span}
use Rattle.cycles.specs.Counting.{counts, spent}
use Rattle.cycles.specs.Turns.{Begins}
use Rattle.cycles.specs.Laws.{Takes, CyclesAreReplies, ExpressionsTake, LoopsAreTurns, RunsTake, StatementsTake, TurnsTake}
use Rattle.cycles.proofs.Spending.{Ran}
use Rattle.cycles.proofs.Ways.{bodies_take, called_takes, value_takes}
use Rattle.cycles.proofs.TurnLaws.{loop_is_turns, turn_takes}

takes : {A : Type 0} {u : Counted} {run : List ℤ → EvaluationResult A} {s : Option Span}
    {x : A} {after : Vars} {trace rest : List ℤ} → Ran u run s x after trace rest → Takes u run s trace rest
takes r = record { replies = r.replies; took = r.took; within = r.within }

pub expressions_take : ExpressionsTake
expressions_take u p file n e vars depth frames trace x behind rest gives =
    takes
    ((value_takes u p file (effect_within p file n) (bodies_take u p file n) (length file.order) e vars depth
    frames).each trace x behind rest gives)

pub statements_take : StatementsTake
statements_take u p file n b vars depth frames trace flow behind rest gives =
    takes ((bodies_take u p file n (length file.order) b vars depth frames).each trace flow behind rest gives)

pub runs_take : RunsTake
runs_take u p file n k arguments vars depth frames trace x behind rest gives =
    takes
    ((called_takes u p file (effect_within p file n) (bodies_take u p file n) (length file.order) (callee.Function k)
    arguments vars depth frames).each trace x behind rest gives)

pub turns_take : TurnsTake
turns_take u p file n c s vars depth frames trace behind rest gives =
    takes
    ((turn_takes u p file (effect_within p file n) (bodies_take u p file n) (length file.order) c s vars depth
    frames).each trace Begins behind rest gives)

pub loops_are_turns : LoopsAreTurns
loops_are_turns p file n c s next vars depth frames trace =
    loop_is_turns p file (effect_within p file n) c s next depth frames vars trace

each_counts : {A : Type 0} (o : EvaluationResult A) → counts Cycles o ≡ 1
each_counts (Gives x vars rest) = refl
each_counts (Awaits Quiet) = refl
each_counts (Awaits (Ask i arguments)) = refl
each_counts (Awaits Restart) = refl

all_count : {A : Type 0} (run : List ℤ → EvaluationResult A) (replies : List ℤ) →
    spent Cycles run replies ≡ length replies
all_count run [] = refl
all_count run (reply ∷ replies) =
    omega (arith, each_counts (run []), all_count (λ (rest : List ℤ). run (reply ∷ rest)) replies)

pub cycles_are_replies : CyclesAreReplies
cycles_are_replies = record {
  of_value = λ run replies. all_count run replies;
  of_statements = λ run replies. all_count run replies;
  of_turn = λ run replies. all_count run replies;
}
