-- Programs that show the rules, and what they want in their first cycles.
use Rattle.std.specs.Prelude.{◌≡◌, ℕ, ℤ, zero, suc, pos, ◌+◌, ◌-◌, List, [], ◌∷◌, ◌++◌, Bool, true, false, Option, Some, None, codes, replicate, if◌then◌else◌}
use Rattle.grammar.specs.declared.resolved_names.Callee.TheVariants as callee
use Rattle.grammar.specs.declared.resolved_names.Intrinsic.{Intrinsic}
use Rattle.grammar.specs.declared.resolved_names.Intrinsic.TheVariants as intrinsic
use Rattle.grammar.specs.declared.resolved_names.Var.TheVariants as var
use Rattle.arith.specs.declared.operators.Op.{Op}
use Rattle.arith.specs.declared.operators.Op.TheVariants as op
use Rattle.grammar.specs.declared.operators.StoreOp.{StoreOp}
use Rattle.grammar.specs.declared.operators.StoreOp.TheVariants as store_op
use Rattle.grammar.specs.KnownSources.{call_of, constant, file_of_main, late_read_file, local, main_of, shot_tree}
use Rattle.grammar.specs.Profile.{Profile}
use Rattle.grammar.specs.ProfileNumbers.{first_profile, second_profile}
use Rattle.grammar.specs.Tree.{Expr, Args, NoMore, Argument, Assign, Binary, Postfix, Body, Call, Done, ExpressionStatement, IfStatement, File, Function, Return, While}
use Rattle.code.specs.declared.want.Want.{Want}
use Rattle.code.specs.declared.want.Want.TheVariants.{Quiet, Ask, Restart}
use Rattle.code.specs.Generation.{code_of}
use Rattle.code.specs.Machine.{want_code}
use Rattle.code.specs.Meaning.{want, zeros}

-- a file of a first function, and a main after it
abbrev pub file_of_two : Function → Body → File
file_of_two first main = record {
  externals = [];
  functions = first ∷ main_of [] main ∷ [];
  order = 0 ∷ 1 ∷ [];
  main = 1;
}

abbrev pub statement_of_call : Body
statement_of_call = ExpressionStatement (call_of 0) Done

-- main(){1+2;}
abbrev pub sum_file : File
sum_file = file_of_main [] (ExpressionStatement (Binary op.Add (constant 1) (constant 2)) Done)

-- f(a){return a+damage();} main(){f(5);}
abbrev pub asking_file : File
asking_file = file_of_two
    (record {
      name = codes "f";
      parameters = 1;
      variables = codes "a" ∷ [];
      body = Return (Binary op.Add (local 0) (Call (callee.Intrinsic intrinsic.Damage) NoMore)) Done;
    })
    (ExpressionStatement (Call (callee.Function 0) (Argument (constant 5) NoMore)) Done)

-- int e; main(){g();} f(){} g(){e-=-1;}: g is mentioned before f, and defined after it
abbrev pub defined_behind_file : File
defined_behind_file = record {
  externals = codes "e" ∷ [];
  functions =
      main_of [] (ExpressionStatement (call_of 1) Done)
      ∷ record {
        name = codes "g";
        parameters = 0;
        variables = [];
        body = ExpressionStatement
            (Assign store_op.Subtract (var.External 0) (Binary op.Subtract (constant 0) (constant 1))) Done;
      }
      ∷ record { name = codes "f"; parameters = 0; variables = []; body = Done }
      ∷ [];
  order = 0 ∷ 2 ∷ 1 ∷ [];
  main = 0;
}

abbrev pub ask : Intrinsic → Args → Expr
ask i arguments = Call (callee.Intrinsic i) arguments

abbrev pub two : Expr → Expr → Args
two a b = Argument a (Argument b NoMore)

abbrev pub cannon_of : Expr → Expr → Expr
cannon_of a b = ask intrinsic.Cannon (two a b)

-- a main with these variables and one expression statement, and one with two such statements
abbrev pub says : List (List ℕ) → Expr → File
says variables e = file_of_main variables (ExpressionStatement e Done)

abbrev pub says_then : List (List ℕ) → Expr → Expr → File
says_then variables e next = file_of_main variables (ExpressionStatement e (ExpressionStatement next Done))

-- main(){if((2&&3)==1) cannon(0,0); while(1);}
abbrev pub truth_file : File
truth_file =
    file_of_main [] (IfStatement (Binary op.Equal (Binary op.And (constant 2) (constant 3)) (constant 1)) shot_tree
    (While (constant 1) Done Done))

-- The trees and the instructions want the same after these replies.
pub record BothWant (p : Profile) (file : File) (trace : List ℤ) (event : Want) : Type 0 where
  pub source : want p file trace ≡ event
  pub instructions : want_code (code_of p file) trace ≡ event

-- what is wanted in this cycle, counted from 1, if every reply is 0
abbrev pub InCycle : Profile → File → ℕ → Want → Type 0
InCycle p file cycle event = BothWant p file (zeros (cycle - 1)) event

abbrev pub asks : Intrinsic → ℤ → ℤ → Want
asks i a b = Ask i (a ∷ b ∷ [])

abbrev pub asks_cannon : ℤ → ℤ → Want
asks_cannon a b = asks intrinsic.Cannon a b

-- cannon(0,0)
abbrev pub shot : Want
shot = asks_cannon (pos 0) (pos 0)

abbrev pub damage_asked : Want
damage_asked = asks intrinsic.Damage (pos 0) (pos 0)

-- main(){while(1)cannon(0,0);}: a turn is nine cycles
abbrev pub shooting_file : File
shooting_file = file_of_main [] (While (constant 1) shot_tree Done)

-- main(){A || cannon(0,0);}, and the same with &&
abbrev pub either_or_shot : Op → ℕ → File
either_or_shot o a = says [] (Binary o (constant a) (cannon_of (constant 0) (constant 0)))

-- What programs want in single cycles.
pub record KnownWants : Type 0 where
  pub asked : InCycle first_profile asking_file 6 damage_asked
  pub returned : BothWant first_profile asking_file (zeros 5 ++ pos 7 ∷ zeros 4) Restart
  pub shot_late : InCycle first_profile late_read_file 17 shot
  pub first_shot : InCycle first_profile shooting_file 6 shot
  pub quiet_after : InCycle first_profile shooting_file 7 Quiet
  pub third_shot : InCycle first_profile shooting_file 24 shot
  pub both_sides_of_and : InCycle first_profile (either_or_shot op.And 0) 5 shot
  pub both_sides_of_or : InCycle first_profile (either_or_shot op.Or 1) 5 shot
  pub end_of_main : InCycle first_profile (either_or_shot op.And 0) 9 Restart

-- What programs want if the right side of && and || is left out when the left side decides.
pub record KnownChoices : Type 0 where
  pub and_is_decided : InCycle second_profile (either_or_shot op.And 0) 5 Quiet
  pub end_after_decided_and : InCycle second_profile (either_or_shot op.And 0) 6 Restart
  pub and_goes_on : InCycle second_profile (either_or_shot op.And 1) 6 shot
  pub or_goes_on : InCycle second_profile (either_or_shot op.Or 0) 6 shot
  pub or_is_decided : InCycle second_profile (either_or_shot op.Or 1) 6 Quiet
  pub end_after_decided_or : InCycle second_profile (either_or_shot op.Or 1) 8 Restart
  pub truth_is_one : InCycle second_profile truth_file 13 shot
  pub decided_or_is_one : InCycle second_profile
      (says [] (cannon_of (Binary op.Or (constant 5) (constant 0)) (constant 0))) 8 (asks_cannon (pos 1) (pos 0))
  pub right_side_of_or_is_one : InCycle second_profile
      (says [] (cannon_of (Binary op.Or (constant 0) (constant 5)) (constant 0))) 7 (asks_cannon (pos 1) (pos 0))
  pub right_side_of_and_is_one : InCycle second_profile
      (says [] (cannon_of (Binary op.And (constant 5) (constant 7)) (constant 0))) 9 (asks_cannon (pos 1) (pos 0))
  pub decided_and_is_zero : InCycle second_profile
      (says [] (cannon_of (Binary op.And (constant 0) (constant 7)) (constant 9))) 6 (asks_cannon (pos 0) (pos 9))

-- f(a,b){cannon(a,b);} main(){f(1,2,3); f(4);}
abbrev pub passing_file : File
passing_file = file_of_two
    (record {
      name = codes "f";
      parameters = 2;
      variables = codes "a" ∷ codes "b" ∷ [];
      body = ExpressionStatement (cannon_of (local 0) (local 1)) Done;
    })
    (ExpressionStatement (Call (callee.Function 0) (Argument (constant 1) (two (constant 2) (constant 3))))
    (ExpressionStatement (Call (callee.Function 0) (Argument (constant 4) NoMore)) Done))

-- main(){int x; x=45; cannon(x OP 3,x);}
abbrev pub storing_file : StoreOp → File
storing_file o =
    says_then (codes "x" ∷ []) (Assign store_op.Set (var.Local 0) (constant 45))
    (cannon_of (Assign o (var.Local 0) (constant 3)) (local 0))

-- the variable's new value is the assignment's value too
abbrev pub Stores : StoreOp → ℕ → Type 0
Stores o x = InCycle first_profile (storing_file o) 8 (asks_cannon (pos x) (pos x))

-- What a function, an intrinsic, a variable and an operator get, and in which order.
pub record KnownValues : Type 0 where
  pub surplus_argument : InCycle first_profile passing_file 9 (asks_cannon (pos 1) (pos 2))
  pub missing_argument : InCycle first_profile passing_file 20 (asks_cannon (pos 4) (pos 0))
  pub unused_argument : InCycle first_profile (says [] (ask intrinsic.Rand (two (constant 5) (constant 7)))) 4
      (asks intrinsic.Rand (pos 5) (pos 0))
  pub one_argument_of_two : InCycle first_profile (says [] (ask intrinsic.Scan (Argument (constant 1) NoMore))) 3
      (asks intrinsic.Scan (pos 1) (pos 0))
  pub no_argument : InCycle first_profile (says [] (ask intrinsic.Drive NoMore)) 2
      (asks intrinsic.Drive (pos 0) (pos 0))
  pub arguments_in_order :
      InCycle first_profile (says (codes "x" ∷ []) (cannon_of (Postfix store_op.Add (var.Local 0)) (local 0))) 7
      (asks_cannon (pos 0) (pos 1))
  pub assignment_of_assignment :
      InCycle first_profile
      (says_then (codes "x" ∷ codes "y" ∷ [])
      (Assign store_op.Set (var.Local 0) (Assign store_op.Set (var.Local 1) (constant 2)))
      (cannon_of (local 0) (local 1)))
      8 (asks_cannon (pos 2) (pos 2))
  pub sides_in_order :
      InCycle first_profile (says [] (cannon_of (Binary op.Subtract (constant 7) (constant 2))
      (Binary op.ShiftLeft (constant 1) (constant 3)))) 8 (asks_cannon (pos 5) (pos 8))
  pub set : Stores store_op.Set 3
  pub add : Stores store_op.Add 48
  pub subtract : Stores store_op.Subtract 42
  pub multiply : Stores store_op.Multiply 135
  pub divide : Stores store_op.Divide 15
  pub remainder : Stores store_op.Remainder 0
  pub shift_left : Stores store_op.ShiftLeft 360
  pub shift_right : Stores store_op.ShiftRight 5
  pub bit_and : Stores store_op.BitAnd 1
  pub bit_xor : Stores store_op.BitXor 46
  pub bit_or : Stores store_op.BitOr 47

abbrev pub is_restart : Want → Bool
is_restart Quiet = false
is_restart (Ask i arguments) = false
is_restart Restart = true

-- the first cycle in which a restart is wanted, of `count` cycles from this one on, if every reply is 0
abbrev pub first_restart : (List ℤ → Want) → (cycle count : ℕ) → Option ℕ
first_restart wanted cycle zero = None
first_restart wanted cycle (suc n) = if is_restart (wanted (zeros (cycle - 1))) then Some cycle else first_restart
    wanted (cycle + 1) n

-- by the trees and by the instructions the first restart is in this cycle
pub record RestartsIn (p : Profile) (cycle : ℕ) (file : File) : Type 0 where
  pub source : first_restart (want p file) 1 260 ≡ Some cycle
  pub instructions : first_restart (want_code (code_of p file)) 1 260 ≡ Some cycle

-- a function f with this many locals that does something, and a main that calls it
abbrev pub calls_f : ℕ → Body → File
calls_f locals body = file_of_two
    (record { name = codes "f"; parameters = 0; variables = replicate locals (codes "a"); body = body })
    statement_of_call

-- damage(); and then these statements
abbrev pub damage_then : Body → Body
damage_then next = ExpressionStatement (Call (callee.Intrinsic intrinsic.Damage) NoMore) next

-- The first restarts of programs.
pub record KnownRestarts : Type 0 where
  pub return_in_main : RestartsIn first_profile 2 (file_of_main [] (Return (constant 5) Done))
  pub return_in_loops : RestartsIn first_profile 6
      (file_of_main [] (While (constant 1) (While (constant 1) (Return (constant 0) Done) Done) Done))
  pub main_calls_itself : RestartsIn first_profile 127 (file_of_main [] statement_of_call)
  pub f_calls_itself : RestartsIn first_profile 127 (calls_f 0 statement_of_call)
  pub fifty_locals : RestartsIn first_profile 22 (calls_f 50 statement_of_call)
  pub fifty_locals_and_damage : RestartsIn first_profile 49 (calls_f 50 (damage_then statement_of_call))
  pub f_calls_itself_in_more_frames : RestartsIn second_profile 255 (calls_f 0 statement_of_call)
  pub fifty_locals_on_more_words : RestartsIn second_profile 42 (calls_f 50 statement_of_call)
