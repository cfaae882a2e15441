-- The room that each construct needs, by that which each function needs. It is counted as the meaning of the trees
-- counts it: `crates/code/specs/Meaning.antt`.
use Rattle.std.specs.Prelude.{ℕ, Bool, Option, if◌then◌else◌, false}
use Rattle.arith.specs.declared.operators.Op.{Op}
use Rattle.arith.specs.Op.{is_logic}
use Rattle.grammar.specs.declared.resolved_names.Callee.{Callee}
use Rattle.grammar.specs.declared.resolved_names.Callee.TheVariants as callee
use Rattle.grammar.specs.Tree.{Expr, Constant, Variable, Binary, Assign, Postfix, Call, Args, NoMore, Argument, Body}
use Rattle.grammar.specs.Tree.{Done, ExpressionStatement, IfStatement, IfElseStatement, While, Return}
use Rattle.room.specs.declared.room.Room.{Room}
use Rattle.room.specs.Rooms.{words, both, above}

-- the operator may leave out its right side
abbrev pub may_skip : Bool → Op → Bool
may_skip short op = if short then is_logic op else false

-- The right side stands on the left one's value; one that may be left out stands in its place, and then two words make
-- the value a truth value.
abbrev pub binary_need : Bool → Op → Option Room → Option Room → Option Room
binary_need short op left right =
    if may_skip short op then both left (both right (words 2)) else both left (above 1 0 right)

-- what is called, after the arguments; an intrinsic function gives a word
abbrev pub callee_need : (ℕ → Option Room) → Callee → Option Room
callee_need calls (callee.Function k) = calls k
callee_need calls (callee.Intrinsic i) = words 1

module _ (short : Bool) (calls : ℕ → Option Room) where
  abbrev mutual
    -- an expression, up to its value
    pub expr_need : Expr → Option Room
    expr_need (Constant value) = words 1
    expr_need (Variable v) = words 1
    expr_need (Binary op a b) = binary_need short op (expr_need a) (expr_need b)
    expr_need (Assign op v e) = expr_need e
    expr_need (Postfix op v) = words 2
    expr_need (Call f arguments) = both (above 0 1 (args_need arguments)) (callee_need calls f)

    -- arguments, each on those before it
    pub args_need : Args → Option Room
    args_need NoMore = words 0
    args_need (Argument e rest) = both (expr_need e) (above 1 0 (args_need rest))

  -- Statements. The end of a first branch before an `else`, and of each turn, pushes a word. What follows a `return` is
  -- never reached.
  abbrev pub body_need : Body → Option Room
  body_need Done = words 0
  body_need (ExpressionStatement e rest) = both (expr_need e) (body_need rest)
  body_need (IfStatement c s rest) = both (expr_need c) (both (body_need s) (body_need rest))
  body_need (IfElseStatement c s t rest) =
      both (expr_need c) (both (both (body_need s) (words 1)) (both (body_need t) (body_need rest)))
  body_need (While c s rest) = both (expr_need c) (both (both (body_need s) (words 1)) (body_need rest))
  body_need (Return e rest) = expr_need e
