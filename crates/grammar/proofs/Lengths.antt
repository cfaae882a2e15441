-- How long the code of actions is that come one after another, and that of a function's trees.
use Rattle.std.proofs.Common.{◌≡◌, ℕ, ◌+◌, List, [], ◌∷◌, ◌++◌, length, Bool, true, false, ◌&&◌, if◌then◌else◌, refl, arith}
use Rattle.arith.specs.declared.operators.Op.{Op}
use Rattle.arith.specs.declared.operators.Op.TheVariants as op
use Rattle.grammar.specs.declared.actions.Action.{Action}
use Rattle.grammar.specs.declared.actions.Action.TheVariants.{StoreVariable, ApplyBinop, EndCall}
use Rattle.grammar.specs.declared.actions.Action.TheVariants.{EndFunction}
use Rattle.grammar.specs.Actions.{code_length, instructions, middle, expr_actions, args_actions, body_actions}
use Rattle.grammar.specs.Actions.{last_return, function_actions}
use Rattle.grammar.specs.Beginning.{definitions_actions}
use Rattle.grammar.specs.CodeLengths.{operator_length, expr_length, args_length, body_length, function_length}
use Rattle.grammar.specs.Derivation.{Definition}
use Rattle.grammar.specs.Faults.{definitions_length}
use Rattle.grammar.specs.Profile.{Profile}
use Rattle.grammar.specs.Tree.{Expr, Constant, Variable, Binary, Assign, Postfix, Call, Args, NoMore, Argument, Body}
use Rattle.grammar.specs.Tree.{Done, ExpressionStatement, IfStatement, IfElseStatement, While, Return, Function}

pub code_length-append : (p : Profile) (xs ys : List Action) →
    code_length p (xs ++ ys) ≡ code_length p xs + code_length p ys
code_length-append p [] ys = omega arith
code_length-append p (x ∷ xs) ys = omega (arith, code_length-append p xs ys)

pub code_length-last : (p : Profile) (acts : List Action) (a : Action) →
    code_length p (acts ++ a ∷ []) ≡ code_length p acts + instructions p a
code_length-last p acts a = omega (arith, code_length-append p acts (a ∷ []))

-- How long the code of a function's trees is.

and_length : (short : Bool) →
    (if short then 1 else 0) + 0 + (if short then 4 else 1) ≡ (if short && true then 5 else 1)
and_length true = refl
and_length false = refl

or_length : (short : Bool) →
    (if short then 4 else 0) + 0 + (if short then 1 else 1) ≡ (if short && true then 5 else 1)
or_length true = refl
or_length false = refl

full_length : (short : Bool) → 0 + (if short then 1 else 1) ≡ (if short && false then 5 else 1)
full_length true = refl
full_length false = refl

operator_lengths : (p : Profile) (o : Op) →
    code_length p (middle o) + instructions p (ApplyBinop o) ≡ operator_length p o
operator_lengths p op.And = and_length p.short_circuit
operator_lengths p op.Or = or_length p.short_circuit
operator_lengths p o = full_length p.short_circuit

mutual
  pub expr_lengths : (p : Profile) (e : Expr) → code_length p (expr_actions e) ≡ expr_length p e
  expr_lengths p (Constant value) = refl
  expr_lengths p (Variable v) = refl
  expr_lengths p (Binary o a b) =
      omega (
        arith,
        code_length-append p (expr_actions a) (middle o ++ (expr_actions b ++ ApplyBinop o ∷ [])),
        code_length-append p (middle o) (expr_actions b ++ ApplyBinop o ∷ []),
        code_length-last p (expr_actions b) (ApplyBinop o),
        operator_lengths p o,
        expr_lengths p a,
        expr_lengths p b,
      )
  expr_lengths p (Assign o v e) =
      omega (arith, code_length-last p (expr_actions e) (StoreVariable v o), expr_lengths p e)
  expr_lengths p (Postfix o v) = refl
  expr_lengths p (Call callee arguments) =
      omega (arith, code_length-last p (args_actions arguments) (EndCall callee), args_lengths p arguments)

  pub args_lengths : (p : Profile) (arguments : Args) → code_length p (args_actions arguments) ≡ args_length p arguments
  args_lengths p NoMore = refl
  args_lengths p (Argument e rest) =
      omega (
        arith,
        code_length-append p (expr_actions e) (args_actions rest),
        expr_lengths p e,
        args_lengths p rest,
      )

pub body_lengths : (p : Profile) (b : Body) → code_length p (body_actions b) ≡ body_length p b
body_lengths p Done = refl
body_lengths p (ExpressionStatement e rest) =
    simp (code_length-append p, expr_lengths p e, body_lengths p rest) (omega arith)
body_lengths p (IfStatement c s rest) =
    simp (code_length-append p, expr_lengths p c, body_lengths p s, body_lengths p rest) (omega arith)
body_lengths p (IfElseStatement c s t rest) =
    simp (code_length-append p, expr_lengths p c, body_lengths p s, body_lengths p t, body_lengths p rest) (omega arith)
body_lengths p (While c s rest) =
    simp (code_length-append p, expr_lengths p c, body_lengths p s, body_lengths p rest) (omega arith)
body_lengths p (Return e rest) =
    simp (code_length-append p, expr_lengths p e, body_lengths p rest) (omega arith)

pub function_lengths : (p : Profile) (number : ℕ) (f : Function) →
    code_length p (function_actions number f) ≡ function_length p f
function_lengths p number f =
    omega (
      arith,
      code_length-append p (body_actions f.body) (last_return ++ EndFunction (length f.variables) ∷ []),
      body_lengths p f.body,
    )

pub definitions_lengths : (p : Profile) (definitions : List Definition) →
    code_length p (definitions_actions definitions) ≡ definitions_length p definitions
definitions_lengths p [] = refl
definitions_lengths p (d ∷ ds) =
    omega (
      arith,
      code_length-append p (function_actions d.number d.function) (definitions_actions ds),
      function_lengths p d.number d.function,
      definitions_lengths p ds,
    )
