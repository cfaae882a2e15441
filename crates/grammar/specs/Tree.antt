-- The trees of a program.
use Rattle.std.specs.Prelude.{ℕ, ℤ, List}
use Rattle.arith.specs.declared.operators.Op.{Op}
use Rattle.grammar.specs.declared.operators.StoreOp.{StoreOp}
use Rattle.grammar.specs.declared.resolved_names.Var.{Var}
use Rattle.grammar.specs.declared.resolved_names.Callee.{Callee}

-- variables and functions are named by their numbers
mutual
  pub data Expr : Type 0 where
    Constant : (value : ℤ) → Expr
    Variable : (v : Var) → Expr
    Binary : (op : Op) (left right : Expr) → Expr
    -- the right side first; then the variable takes its new value, which is the expression's
    Assign : (op : StoreOp) (v : Var) (right : Expr) → Expr
    -- v++ and v--: the variable goes up or down by 1, and the expression's value is the old one
    Postfix : (op : StoreOp) (v : Var) → Expr
    Call : (callee : Callee) (arguments : Args) → Expr

  pub data Args : Type 0 where
    NoMore : Args
    Argument : (e : Expr) (rest : Args) → Args

-- a list of statements, each with those after it; a block adds its statements, and ; adds none
pub data Body : Type 0 where
  Done : Body
  ExpressionStatement : (e : Expr) (rest : Body) → Body
  IfStatement : (c : Expr) (s rest : Body) → Body
  IfElseStatement : (c : Expr) (s t rest : Body) → Body
  While : (c : Expr) (s rest : Body) → Body
  Return : (e : Expr) (rest : Body) → Body

-- -e is 0 - e, !e is e == 0, ~e is e ^ -1, ++v is v += 1, --v is v -= 1, and return; is return 0;

abbrev pub add_argument : Args → Expr → Args
add_argument NoMore e = Argument e NoMore
add_argument (Argument a rest) e = Argument a (add_argument rest e)

-- the statements of one body, then those of another
abbrev pub join : Body → Body → Body
join Done b = b
join (ExpressionStatement e rest) b = ExpressionStatement e (join rest b)
join (IfStatement c s rest) b = IfStatement c s (join rest b)
join (IfElseStatement c s t rest) b = IfElseStatement c s t (join rest b)
join (While c s rest) b = While c s (join rest b)
join (Return e rest) b = Return e (join rest b)

-- a function, its variables by name: the parameters come first
pub record Function : Type 0 where
  pub name : List ℕ
  pub parameters : ℕ
  pub variables : List (List ℕ)
  pub body : Body

-- a resolved file
pub record File : Type 0 where
  pub externals : List (List ℕ)  -- their names
  pub functions : List Function  -- by number
  pub order : List ℕ  -- the numbers in the order of the definitions
  pub main : ℕ  -- its number
