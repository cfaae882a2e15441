-- What is reported of a program to a builder, in the order of the tokens. The actions themselves are declared in
-- src/actions.rt.
use Rattle.std.specs.Prelude.{ℕ, pos, ◌+◌, List, [], ◌∷◌, ◌++◌, length, Bool, true, false, if◌then◌else◌, Option, Some, None, slice_get}
use Rattle.grammar.specs.declared.actions.Action.{Action}
use Rattle.grammar.specs.declared.actions.Action.TheVariants.{PushConstant, FetchVariable, StoreVariable, ApplyBinop, LogicMiddle, BeginCall, EndCall, IfTest, ElsePart, EndIf, BeginWhile, WhileTest, EndWhile, GiveBack, Chop, BeginFunction, EndFunction}
use Rattle.arith.specs.declared.operators.Op.{Op}
use Rattle.arith.specs.declared.operators.Op.TheVariants as op
use Rattle.arith.specs.Op.{is_logic}
use Rattle.grammar.specs.Profile.{Profile}
use Rattle.grammar.specs.Tree.{Expr, Constant, Variable, Binary, Assign, Postfix, Call, Args, NoMore, Argument, Body}
use Rattle.grammar.specs.Tree.{Done, ExpressionStatement, IfStatement, IfElseStatement, While, Return, Function, File}

-- the action ends a function
abbrev pub ends_function : Action → Bool
ends_function (EndFunction variables) = true
ends_function _ = false

-- How many instructions are made between the sides of && and ||, if the right side may be left out. The law
-- `length_of_code` of `code` says that generation makes this many.
abbrev pub middle_length : Op → ℕ
middle_length op.And = 1
middle_length op.Or = 4
middle_length o = 0

-- and after both sides
abbrev pub end_length : Op → ℕ
end_length op.And = 4
end_length o = 1

-- how many instructions an action makes
abbrev pub instructions : Profile → Action → ℕ
instructions p (PushConstant value) = 1
instructions p (FetchVariable v) = 1
instructions p (StoreVariable v o) = 1
instructions p (ApplyBinop o) = if p.short_circuit then end_length o else 1
instructions p (LogicMiddle o) = if p.short_circuit then middle_length o else 0
instructions p BeginCall = 1
instructions p (EndCall callee) = 1
instructions p IfTest = 1
instructions p ElsePart = 2
instructions p EndIf = 0
instructions p BeginWhile = 0
instructions p WhileTest = 1
instructions p EndWhile = 2
instructions p GiveBack = 1
instructions p Chop = 1
instructions p (BeginFunction number parameters) = 0
instructions p (EndFunction variables) = 0

-- how many instructions these actions make
abbrev pub code_length : Profile → List Action → ℕ
code_length p [] = 0
code_length p (a ∷ acts) = instructions p a + code_length p acts

abbrev pub middle : Op → List Action
middle op = if is_logic op then LogicMiddle op ∷ [] else []

abbrev mutual
  pub expr_actions : Expr → List Action
  expr_actions (Constant value) = PushConstant value ∷ []
  expr_actions (Variable v) = FetchVariable v ∷ []
  expr_actions (Binary op a b) = expr_actions a ++ (middle op ++ (expr_actions b ++ ApplyBinop op ∷ []))
  expr_actions (Assign op v e) = expr_actions e ++ StoreVariable v op ∷ []
  expr_actions (Postfix op v) = FetchVariable v ∷ PushConstant (pos 1) ∷ StoreVariable v op ∷ Chop ∷ []
  expr_actions (Call callee args) = BeginCall ∷ (args_actions args ++ EndCall callee ∷ [])

  pub args_actions : Args → List Action
  args_actions NoMore = []
  args_actions (Argument e rest) = expr_actions e ++ args_actions rest

abbrev pub body_actions : Body → List Action
body_actions Done = []
body_actions (ExpressionStatement e rest) = expr_actions e ++ Chop ∷ body_actions rest
body_actions (IfStatement c s rest) = expr_actions c ++ IfTest ∷ (body_actions s ++ EndIf ∷ body_actions rest)
body_actions (IfElseStatement c s t rest) =
    expr_actions c ++ IfTest ∷ (body_actions s ++ ElsePart ∷ (body_actions t ++ EndIf ∷ body_actions rest))
body_actions (While c s rest) = BeginWhile ∷ (expr_actions c
    ++ WhileTest ∷ (body_actions s ++ EndWhile ∷ body_actions rest))
body_actions (Return e rest) = expr_actions e ++ GiveBack ∷ body_actions rest

-- the return at each function's end
abbrev pub last_return : List Action
last_return = PushConstant (pos 0) ∷ GiveBack ∷ []

abbrev pub function_actions : ℕ → Function → List Action
function_actions number f =
    BeginFunction number f.parameters ∷ (body_actions f.body ++ (last_return ++ EndFunction (length f.variables) ∷ []))

abbrev pub numbered_actions : ℕ → Option Function → List Action
numbered_actions number None = []
numbered_actions number (Some f) = function_actions number f

-- the functions of these numbers, one after another
abbrev pub functions_actions : List Function → List ℕ → List Action
functions_actions functions [] = []
functions_actions functions (k ∷ ks) = numbered_actions k (slice_get functions k) ++ functions_actions functions ks

-- the actions of a file: its functions in the order of their definitions
abbrev pub actions : File → List Action
actions file = functions_actions file.functions file.order
