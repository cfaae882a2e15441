-- How many instructions a function's trees make. Its code (`code/Generation`) has as many, by two laws:
-- `ActionsHaveLengths` in `grammar/Laws`, and `HasLengthOfActions` in `code/Laws`.
use Rattle.std.specs.Prelude.{ℕ, ◌+◌, if◌then◌else◌, ◌&&◌}
use Rattle.arith.specs.Op.{is_logic}
use Rattle.arith.specs.declared.operators.Op.{Op}
use Rattle.grammar.specs.Profile.{Profile}
use Rattle.grammar.specs.Tree.{Expr, Constant, Variable, Binary, Assign, Postfix, Call, Args, NoMore, Argument, Body}
use Rattle.grammar.specs.Tree.{Done, ExpressionStatement, IfStatement, IfElseStatement, While, Return, Function}

module _ (p : Profile) where
  -- an operator; && and || are longer if they may leave out their right side
  abbrev pub operator_length : Op → ℕ
  operator_length o = if p.short_circuit && is_logic o then 5 else 1

  abbrev mutual
    pub expr_length : Expr → ℕ
    expr_length (Constant value) = 1
    expr_length (Variable v) = 1
    expr_length (Binary o a b) = expr_length a + expr_length b + operator_length o
    expr_length (Assign o v e) = expr_length e + 1
    expr_length (Postfix o v) = 4
    expr_length (Call callee arguments) = args_length arguments + 2

    pub args_length : Args → ℕ
    args_length NoMore = 0
    args_length (Argument e rest) = expr_length e + args_length rest

  abbrev pub body_length : Body → ℕ
  body_length Done = 0
  body_length (ExpressionStatement e rest) = expr_length e + 1 + body_length rest
  body_length (IfStatement c s rest) = expr_length c + 1 + body_length s + body_length rest
  body_length (IfElseStatement c s t rest) =
      expr_length c + 1 + body_length s + 2 + body_length t + body_length rest
  body_length (While c s rest) = expr_length c + 1 + body_length s + 2 + body_length rest
  body_length (Return e rest) = expr_length e + 1 + body_length rest

  -- a function ends with a return of 0
  abbrev pub function_length : Function → ℕ
  function_length f = body_length f.body + 2
