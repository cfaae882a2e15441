-- What a resolved file is: each number is one of a variable or function that there is, and each name
-- names one thing.
use Rattle.std.specs.Prelude.{ℕ, ◌≡◌, ◌<◌, ◌≤◌, ◌⊎◌, List, [], ◌∷◌, length, map, Some, slice_get}
use Rattle.grammar.specs.declared.resolved_names.Callee.{Callee}
use Rattle.grammar.specs.declared.resolved_names.Callee.TheVariants as callee
use Rattle.grammar.specs.declared.resolved_names.Var.{Var}
use Rattle.grammar.specs.declared.resolved_names.Var.TheVariants as var
use Rattle.grammar.specs.NameLimits.{most_names}
use Rattle.grammar.specs.Tree.{Expr, Constant, Variable, Binary, Assign, Postfix, Call, Args, NoMore, Argument, Body}
use Rattle.grammar.specs.Tree.{Done, ExpressionStatement, IfStatement, IfElseStatement, While, Return, Function, File}

-- one of this many externals and locals
abbrev pub IsVariable : (externals locals : ℕ) → Var → Type 0
IsVariable e l (var.External j) = j < e
IsVariable e l (var.Local j) = j < l

-- one of this many functions, or an intrinsic one
abbrev pub IsCallable : (functions : ℕ) → Callee → Type 0
IsCallable n (callee.Function k) = k < n
IsCallable n (callee.Intrinsic i) = Unit {0}

-- the expression's names are among this many externals, locals and functions
abbrev mutual
  pub InExpr : (externals locals functions : ℕ) → Expr → Type 0
  InExpr e l n (Constant value) = Unit {0}
  InExpr e l n (Variable v) = IsVariable e l v
  InExpr e l n (Binary op a b) = InExpr e l n a × InExpr e l n b
  InExpr e l n (Assign op v a) = IsVariable e l v × InExpr e l n a
  InExpr e l n (Postfix op v) = IsVariable e l v
  InExpr e l n (Call f arguments) = IsCallable n f × InArgs e l n arguments

  pub InArgs : (externals locals functions : ℕ) → Args → Type 0
  InArgs e l n NoMore = Unit {0}
  InArgs e l n (Argument a rest) = InExpr e l n a × InArgs e l n rest

abbrev pub InBody : (externals locals functions : ℕ) → Body → Type 0
InBody e l n Done = Unit {0}
InBody e l n (ExpressionStatement a rest) = InExpr e l n a × InBody e l n rest
InBody e l n (IfStatement c s rest) = InExpr e l n c × InBody e l n s × InBody e l n rest
InBody e l n (IfElseStatement c s t rest) = InExpr e l n c × InBody e l n s × InBody e l n t × InBody e l n rest
InBody e l n (While c s rest) = InExpr e l n c × InBody e l n s × InBody e l n rest
InBody e l n (Return a rest) = InExpr e l n a × InBody e l n rest

abbrev pub IsAmong : {A : Type 0} → A → List A → Type 0
IsAmong x [] = ⊥
IsAmong x (y ∷ others) = (x ≡ y) ⊎ IsAmong x others

-- nothing is there twice
abbrev pub AreDistinct : {A : Type 0} → List A → Type 0
AreDistinct [] = Unit {0}
AreDistinct (x ∷ others) = (IsAmong x others → ⊥) × AreDistinct others

-- a function among this many externals and functions
pub record FitsFile (externals functions : ℕ) (f : Function) : Type 0 where
  pub parameters : f.parameters ≤ length f.variables
  pub variables : length f.variables ≤ most_names
  pub distinct : AreDistinct f.variables
  pub body : InBody externals (length f.variables) functions f.body

-- the names are within the pools, no name names two things of a kind, and each function is defined once
pub record IsResolved (file : File) : Type 0 where
  pub externals : length file.externals ≤ most_names
  pub functions : length file.functions ≤ most_names
  pub distinct_externals : AreDistinct file.externals
  pub distinct_functions : AreDistinct (map (λ (f : Function). f.name) file.functions)
  pub each : (k : ℕ) (f : Function) → slice_get file.functions k ≡ Some f
      → FitsFile (length file.externals) (length file.functions) f
  pub defined : (k : ℕ) → k < length file.functions → IsAmong k file.order
  pub only : (k : ℕ) → IsAmong k file.order → k < length file.functions
  pub once : AreDistinct file.order
  pub main : file.main < length file.functions
