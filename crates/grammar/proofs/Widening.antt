-- What is among this many names is among more.
use Rattle.std.proofs.Common.{ℕ, ◌≤◌, arith, length}
use Rattle.grammar.specs.declared.resolved_names.Callee.{Callee}
use Rattle.grammar.specs.declared.resolved_names.Callee.TheVariants as callee
use Rattle.grammar.specs.declared.resolved_names.Var.{Var}
use Rattle.grammar.specs.declared.resolved_names.Var.TheVariants as var
use Rattle.grammar.specs.Resolved.{IsVariable, IsCallable, InExpr, InArgs, InBody, FitsFile}
use Rattle.grammar.specs.Tree.{Expr, Constant, Variable, Binary, Assign, Postfix, Call, Args, NoMore, Argument, Body, Done, ExpressionStatement, IfStatement, IfElseStatement, While, Return, Function}

-- as many names, or more
pub record IsWider (e l n e' l' n' : ℕ) : Type 0 where
  pub externals : e ≤ e'
  pub locals : l ≤ l'
  pub functions : n ≤ n'

pub variable_wider : (e l n e' l' n' : ℕ) → IsWider e l n e' l' n' → (v : Var) → IsVariable e l v → IsVariable e' l' v
variable_wider e l n e' l' n' w (var.External j) h = omega (arith, w.externals)
variable_wider e l n e' l' n' w (var.Local j) h = omega (arith, w.locals)

pub callable_wider : (e l n e' l' n' : ℕ) → IsWider e l n e' l' n' → (f : Callee) → IsCallable n f → IsCallable n' f
callable_wider e l n e' l' n' w (callee.Function k) h = omega (arith, w.functions)
callable_wider e l n e' l' n' w (callee.Intrinsic i) h = tt

mutual
  pub expr_wider : (e l n e' l' n' : ℕ) → IsWider e l n e' l' n' → (x : Expr) → InExpr e l n x → InExpr e' l' n' x
  expr_wider e l n e' l' n' w (Constant value) h = tt
  expr_wider e l n e' l' n' w (Variable v) h = variable_wider e l n e' l' n' w v h
  expr_wider e l n e' l' n' w (Binary op a b) h = (expr_wider e l n e' l' n' w a h.0, expr_wider e l n e' l' n' w b h.1)
  expr_wider e l n e' l' n' w (Assign op v a) h =
      (variable_wider e l n e' l' n' w v h.0, expr_wider e l n e' l' n' w a h.1)
  expr_wider e l n e' l' n' w (Postfix op v) h = variable_wider e l n e' l' n' w v h
  expr_wider e l n e' l' n' w (Call f args) h =
      (callable_wider e l n e' l' n' w f h.0, args_wider e l n e' l' n' w args h.1)

  pub args_wider : (e l n e' l' n' : ℕ) → IsWider e l n e' l' n' → (x : Args) → InArgs e l n x → InArgs e' l' n' x
  args_wider e l n e' l' n' w NoMore h = tt
  args_wider e l n e' l' n' w (Argument a rest) h =
      (expr_wider e l n e' l' n' w a h.0, args_wider e l n e' l' n' w rest h.1)

pub body_wider : (e l n e' l' n' : ℕ) → IsWider e l n e' l' n' → (b : Body) → InBody e l n b → InBody e' l' n' b
body_wider e l n e' l' n' w Done h = tt
body_wider e l n e' l' n' w (ExpressionStatement a rest) h =
    (expr_wider e l n e' l' n' w a h.0, body_wider e l n e' l' n' w rest h.1)
body_wider e l n e' l' n' w (IfStatement c s rest) h =
    (expr_wider e l n e' l' n' w c h.0, body_wider e l n e' l' n' w s h.1, body_wider e l n e' l' n' w rest h.2)
body_wider e l n e' l' n' w (IfElseStatement c s t rest) h = (
  expr_wider e l n e' l' n' w c h.0,
  body_wider e l n e' l' n' w s h.1,
  body_wider e l n e' l' n' w t h.2,
  body_wider e l n e' l' n' w rest h.3,
)
body_wider e l n e' l' n' w (While c s rest) h =
    (expr_wider e l n e' l' n' w c h.0, body_wider e l n e' l' n' w s h.1, body_wider e l n e' l' n' w rest h.2)
body_wider e l n e' l' n' w (Return a rest) h =
    (expr_wider e l n e' l' n' w a h.0, body_wider e l n e' l' n' w rest h.1)

pub function_wider : (e n e' n' : ℕ) → e ≤ e' → n ≤ n' → (f : Function) → FitsFile e n f → FitsFile e' n' f
function_wider e n e' n' p q f h = record {
  parameters = h.parameters;
  variables = h.variables;
  distinct = h.distinct;
  body = body_wider e (length f.variables) n e' (length f.variables) n'
      (record { externals = p; locals = omega arith; functions = q }) f.body h.body;
}
