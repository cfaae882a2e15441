-- What small files need, worked out by hand.
use Rattle.std.specs.Prelude.{◌≡◌, ℕ, List, [], ◌∷◌, Option, None, codes}
use Rattle.arith.specs.declared.operators.Op.TheVariants as op
use Rattle.grammar.specs.declared.resolved_names.Callee.TheVariants as callee
use Rattle.grammar.specs.declared.resolved_names.Intrinsic.TheVariants as intrinsic
use Rattle.grammar.specs.declared.resolved_names.Var.TheVariants as var
use Rattle.grammar.specs.declared.operators.StoreOp.TheVariants as store_op
use Rattle.grammar.specs.KnownSources.{constant, file_of_main, local}
use Rattle.grammar.specs.ProfileNumbers.{first_profile, second_profile}
use Rattle.grammar.specs.Tree.{Expr, Binary, Assign, Postfix, Call, Args, NoMore, Argument, Body, Done}
use Rattle.grammar.specs.Tree.{ExpressionStatement, IfStatement, IfElseStatement, While, Return, Function, File}
use Rattle.code.specs.KnownPrograms.{ask, cannon_of, defined_behind_file, file_of_two, says, two}
use Rattle.room.specs.declared.room.Room.{Room}
use Rattle.room.specs.Functions.{need_of}
use Rattle.room.specs.Rooms.{room}

-- what a file needs in each of the two profiles
pub record Needs (file : File) (one other : Option Room) : Type 0 where
  pub first : need_of first_profile file ≡ one
  pub second : need_of second_profile file ≡ other

-- the same in both
abbrev pub NeedsInBoth : File → Option Room → Type 0
NeedsInBoth file need = Needs file need need

-- a function without parameters, f
abbrev pub f_of : List (List ℕ) → Body → Function
f_of variables body = record { name = codes "f"; parameters = 0; variables = variables; body = body }

abbrev pub call : ℕ → Args → Expr
call k arguments = Call (callee.Function k) arguments

abbrev pub says_call : ℕ → Body
says_call k = ExpressionStatement (call k NoMore) Done

abbrev pub sum : ℕ → Expr → Expr
sum n e = Binary op.Add (constant n) e

-- main(){}
abbrev pub empty_main : File
empty_main = file_of_main [] Done

-- main(){int a, b; a = 1+(2+3);}
abbrev pub two_variables : File
two_variables = says (codes "a" ∷ codes "b" ∷ []) (Assign store_op.Set (var.Local 0) (sum 1 (sum 2 (constant 3))))

-- main(){1 && (2 || 3);}
abbrev pub sides : File
sides = says [] (Binary op.And (constant 1) (Binary op.Or (constant 2) (constant 3)))

-- main(){int a; while(1) a++;}
abbrev pub counting : File
counting = file_of_main (codes "a" ∷ [])
    (While (constant 1) (ExpressionStatement (Postfix store_op.Add (var.Local 0)) Done) Done)

-- main(){cannon(1, 2+3);}
abbrev pub shooting : File
shooting = says [] (cannon_of (constant 1) (sum 2 (constant 3)))

-- f(a){int b; return a+b;} main(){f(5);}
abbrev pub calling : File
calling = file_of_two
    (record {
      name = codes "f";
      parameters = 1;
      variables = codes "a" ∷ codes "b" ∷ [];
      body = Return (Binary op.Add (local 0) (local 1)) Done;
    })
    (ExpressionStatement (call 0 (Argument (constant 5) NoMore)) Done)

-- f(){} main(){scan(f(), f());}: f runs in the frame of the call of scan, the second time on the value of the first
abbrev pub calling_twice : File
calling_twice = file_of_two (f_of [] Done)
    (ExpressionStatement (ask intrinsic.Scan (two (call 0 NoMore) (call 0 NoMore))) Done)

-- f(){int a; if(1) a; else f();} main(){f();}
abbrev pub recursive : File
recursive = file_of_two (f_of (codes "a" ∷ []) (IfElseStatement (constant 1) (ExpressionStatement (local 0) Done)
    (says_call 0) Done)) (says_call 0)

-- f(){main();} main(){f();}
abbrev pub recursive_by_two : File
recursive_by_two = file_of_two (f_of [] (says_call 1)) (says_call 0)

-- f(){f();} main(){}: f is never called
abbrev pub recursive_apart : File
recursive_apart = file_of_two (f_of [] (says_call 0)) Done

-- f(){return 0; f();} main(){if(f()) f();}
abbrev pub behind_return : File
behind_return = file_of_two (f_of [] (Return (constant 0) (says_call 0)))
    (IfStatement (call 0 NoMore) (says_call 0) Done)

-- f(){int a; if(1) a; else {1+2;}} main(){f();}
abbrev pub either : File
either = file_of_two (f_of (codes "a" ∷ []) (IfElseStatement (constant 1) (ExpressionStatement (local 0) Done)
    (ExpressionStatement (sum 1 (constant 2)) Done) Done)) (says_call 0)

pub record KnownNeeds : Type 0 where
  pub empty : NeedsInBoth empty_main (room 1 1)
  pub variables : NeedsInBoth two_variables (room 5 1)
  pub operators : Needs sides (room 3 1) (room 2 1)
  pub turns : NeedsInBoth counting (room 3 1)
  pub question : NeedsInBoth shooting (room 3 2)
  pub call : NeedsInBoth calling (room 4 2)
  pub argument : NeedsInBoth calling_twice (room 2 3)
  pub callee_behind : NeedsInBoth defined_behind_file (room 2 2)
  pub itself : NeedsInBoth recursive None
  pub each_other : NeedsInBoth recursive_by_two None
  pub apart : NeedsInBoth recursive_apart (room 1 1)
  pub returned : NeedsInBoth behind_return (room 1 2)
  pub branches : NeedsInBoth either (room 3 2)
