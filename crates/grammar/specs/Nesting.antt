-- How many calls, branches, loops and right sides of && and || are open at once within a tree, at most.
use Rattle.std.specs.Prelude.{ℕ, ◌+◌, max, if◌then◌else◌}
use Rattle.arith.specs.declared.operators.Op.{Op}
use Rattle.arith.specs.Op.{is_logic}
use Rattle.grammar.specs.Tree.{Expr, Constant, Variable, Binary, Assign, Postfix, Call, Args, NoMore, Argument, Body}
use Rattle.grammar.specs.Tree.{Done, ExpressionStatement, IfStatement, IfElseStatement, While, Return}

-- the most calls, ifs, whiles and right sides of && and || that are open at once
abbrev pub most_open : ℕ
most_open = 200

abbrev pub right_side : Op → ℕ
right_side op = if is_logic op then 1 else 0

abbrev mutual
  pub nesting : Expr → ℕ
  nesting (Constant value) = 0
  nesting (Variable v) = 0
  nesting (Binary op a b) = max (nesting a) (right_side op + nesting b)
  nesting (Assign op v e) = nesting e
  nesting (Postfix op v) = 0
  nesting (Call callee args) = 1 + args_nesting args

  pub args_nesting : Args → ℕ
  args_nesting NoMore = 0
  args_nesting (Argument e rest) = max (nesting e) (args_nesting rest)

abbrev pub body_nesting : Body → ℕ
body_nesting Done = 0
body_nesting (ExpressionStatement e rest) = max (nesting e) (body_nesting rest)
body_nesting (IfStatement c s rest) = max (max (nesting c) (1 + body_nesting s)) (body_nesting rest)
body_nesting (IfElseStatement c s t rest) = max (max (nesting c) (1 + max (body_nesting s) (body_nesting t)))
    (body_nesting rest)
body_nesting (While c s rest) = max (1 + max (nesting c) (body_nesting s)) (body_nesting rest)
body_nesting (Return e rest) = max (nesting e) (body_nesting rest)
