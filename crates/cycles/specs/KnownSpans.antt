-- Programs that show the rules, and what their functions and turns take. The numbers are counted by hand.
use Rattle.std.specs.Prelude.{◌≡◌, ℕ, [], ◌∷◌, Option, Some, None, codes}
use Rattle.grammar.specs.declared.resolved_names.Callee.TheVariants as callee
use Rattle.grammar.specs.declared.resolved_names.Intrinsic.TheVariants as intrinsic
use Rattle.grammar.specs.declared.resolved_names.Var.TheVariants as var
use Rattle.arith.specs.declared.operators.Op.TheVariants as op
use Rattle.grammar.specs.declared.operators.StoreOp.TheVariants as store_op
use Rattle.grammar.specs.KnownSources.{call_of, constant, file_of_main, local, main_of, shot_tree}
use Rattle.grammar.specs.Profile.{Profile}
use Rattle.grammar.specs.ProfileNumbers.{first_profile, second_profile}
use Rattle.grammar.specs.Tree.{Expr, Assign, Body, Call, Done, ExpressionStatement, File, IfElseStatement, IfStatement, NoMore, Postfix, Return, While}
use Rattle.code.specs.KnownPrograms.{asking_file, calls_f, either_or_shot, shooting_file, statement_of_call}
use Rattle.cycles.specs.declared.counted.Counted.{Counted}
use Rattle.cycles.specs.declared.counted.Counted.TheVariants.{Cycles, Questions, QuestionsOf}
use Rattle.cycles.specs.declared.spans.Span.{Span}
use Rattle.cycles.specs.Runs.{run_span}
use Rattle.cycles.specs.Turns.{turn_of}

abbrev pub from_to : ℕ → ℕ → Span
from_to least most = record { least = least; most = Some most }

abbrev pub from : ℕ → Span
from least = record { least = least; most = None }

abbrev pub damage : Expr
damage = Call (callee.Intrinsic intrinsic.Damage) NoMore

-- main(){int x; if(x) x=1;}
abbrev pub set_file : File
set_file = file_of_main (codes "x" ∷ [])
    (IfStatement (local 0) (ExpressionStatement (Assign store_op.Set (var.Local 0) (constant 1)) Done) Done)

-- main(){int x; if(x) x++; else return 3;}
abbrev pub step_file : File
step_file = file_of_main (codes "x" ∷ [])
    (IfElseStatement (local 0) (ExpressionStatement (Postfix store_op.Add (var.Local 0)) Done)
    (Return (constant 3) Done)
    Done)

-- main(){f();} f(){g();} g(){int x; if(x) f();}
abbrev pub winding_file : File
winding_file = record {
  externals = [];
  functions =
      main_of [] (ExpressionStatement (call_of 1) Done)
      ∷ record {
        name = codes "f";
        parameters = 0;
        variables = [];
        body = ExpressionStatement (call_of 2) Done;
      }
      ∷ record {
        name = codes "g";
        parameters = 0;
        variables = codes "x" ∷ [];
        body = IfStatement (local 0) (ExpressionStatement (call_of 1) Done) Done;
      }
      ∷ [];
  order = 0 ∷ 1 ∷ 2 ∷ [];
  main = 0;
}

-- main(){return 1; while(1);}
abbrev pub early_file : File
early_file = file_of_main [] (Return (constant 1) (While (constant 1) Done Done))

-- if(damage()) return 5;
abbrev pub until_hurt : Body
until_hurt = IfStatement damage (Return (constant 5) Done) Done

-- main(){while(1) if(damage()) return 5;}
abbrev pub waiting_file : File
waiting_file = file_of_main [] (While (constant 1) until_hurt Done)

-- main(){while(1) return 5;}
abbrev pub once_file : File
once_file = file_of_main [] (While (constant 1) (Return (constant 5) Done) Done)

-- main(){while(1);}
abbrev pub idle_file : File
idle_file = file_of_main [] (While (constant 1) Done Done)

-- by both profiles
pub record ByBoth (holds : Profile → Type 0) : Type 0 where
  pub first : holds first_profile
  pub second : holds second_profile

-- the run of a function takes this
abbrev pub RunTakes : Counted → File → ℕ → Span → Profile → Type 0
RunTakes u file k s p = run_span u p file k ≡ s

-- the turn of a loop whose test is 1 takes this
abbrev pub TurnTakes : Counted → File → Body → Option Span → Profile → Type 0
TurnTakes u file body s p = turn_of u p (run_span u p file) (constant 1) body ≡ s

-- The runs of functions, in cycles.
pub record KnownRuns : Type 0 where
  pub callee : ByBoth (RunTakes Cycles asking_file 0 (from_to 6 6))
  pub caller : ByBoth (RunTakes Cycles asking_file 1 (from_to 12 12))
  pub loop : ByBoth (RunTakes Cycles shooting_file 0 (from 5))
  pub one_branch : ByBoth (RunTakes Cycles set_file 0 (from_to 5 8))
  pub two_branches : ByBoth (RunTakes Cycles step_file 0 (from_to 5 12))
  pub both_sides_of_and : RunTakes Cycles (either_or_shot op.And 0) 0 (from_to 10 10) first_profile
  pub both_sides_of_or : RunTakes Cycles (either_or_shot op.Or 0) 0 (from_to 10 10) first_profile
  pub one_side_of_and : RunTakes Cycles (either_or_shot op.And 0) 0 (from_to 7 13) second_profile
  pub one_side_of_or : RunTakes Cycles (either_or_shot op.Or 0) 0 (from_to 9 11) second_profile
  pub calls_itself : ByBoth (RunTakes Cycles (calls_f 0 statement_of_call) 0 (from 10))
  pub calls_what_calls_itself : ByBoth (RunTakes Cycles (calls_f 0 statement_of_call) 1 (from 10))
  pub begins_winding : ByBoth (RunTakes Cycles winding_file 0 (from 15))
  pub winds : ByBoth (RunTakes Cycles winding_file 1 (from 10))
  pub winds_back : ByBoth (RunTakes Cycles winding_file 2 (from 5))
  pub early_return : ByBoth (RunTakes Cycles early_file 0 (from_to 3 3))
  pub return_from_loop : ByBoth (RunTakes Cycles waiting_file 0 (from 5))
  pub idle_loop : ByBoth (RunTakes Cycles idle_file 0 (from 5))
  pub loop_of_no_turn : ByBoth (RunTakes Cycles once_file 0 (from_to 5 5))

-- The turns of loops, in cycles.
pub record KnownTurns : Type 0 where
  pub shots : ByBoth (TurnTakes Cycles shooting_file shot_tree (Some (from_to 9 9)))
  pub questions : ByBoth (TurnTakes Cycles waiting_file until_hurt (Some (from_to 7 7)))
  pub return : ByBoth (TurnTakes Cycles once_file (Return (constant 5) Done) None)
  pub nothing : ByBoth (TurnTakes Cycles once_file Done (Some (from_to 4 4)))

-- The questions of runs and turns.
pub record KnownQuestions : Type 0 where
  pub of_callee : ByBoth (RunTakes Questions asking_file 1 (from_to 1 1))
  pub of_its_kind : ByBoth (RunTakes (QuestionsOf intrinsic.Damage) asking_file 1 (from_to 1 1))
  pub of_other_kind : ByBoth (RunTakes (QuestionsOf intrinsic.Scan) asking_file 1 (from_to 0 0))
  pub of_both_sides : RunTakes Questions (either_or_shot op.And 0) 0 (from_to 1 1) first_profile
  pub of_one_side : RunTakes Questions (either_or_shot op.And 0) 0 (from_to 0 1) second_profile
  pub of_turn : ByBoth (TurnTakes (QuestionsOf intrinsic.Cannon) shooting_file shot_tree (Some (from_to 1 1)))
  pub of_loop : ByBoth (RunTakes Questions shooting_file 0 (from 0))
  pub of_idle_loop : ByBoth (RunTakes Questions idle_file 0 (from_to 0 0))
  pub of_loop_that_asks_others : ByBoth (RunTakes (QuestionsOf intrinsic.Scan) shooting_file 0 (from_to 0 0))
  pub of_return_from_loop : ByBoth (RunTakes (QuestionsOf intrinsic.Damage) waiting_file 0 (from 0))
  pub of_branch : ByBoth (RunTakes Questions set_file 0 (from_to 0 0))
