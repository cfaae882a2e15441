-- The tree of what is written, its names resolved in the order of the tokens.
use Rattle.std.specs.Prelude.{ℕ, pos, negsuc, List}
use Rattle.arith.specs.declared.operators.Op.TheVariants as op
use Rattle.grammar.specs.declared.operators.StoreOp.{StoreOp}
use Rattle.grammar.specs.declared.operators.StoreOp.TheVariants as store_op
use Rattle.grammar.specs.Grammar.{Called, Mentioned}
use Rattle.grammar.specs.Scope.{Scope, scope_after_name, variable_of, callee_of}
use Rattle.grammar.specs.Tree as tree
use Rattle.grammar.specs.Tree.{Expr, Args, Body, join}
use Rattle.grammar_laws.specs.Written.{Sign, Minus, Not, Tilde, Increment, Up, Down, Expression, Constant, Variable, Binary}
use Rattle.grammar_laws.specs.Written.{Signed, Assign, PreIncrement, PostIncrement, Call, Arguments, NoMore, Argument}
use Rattle.grammar_laws.specs.Written.{Statement, Nothing, Evaluate, If, IfElse, While, Return, ReturnValue, Block}
use Rattle.grammar_laws.specs.Written.{Statements, Done, Next}

-- the scope after a variable's name
abbrev pub mentioned : List ℕ → Scope → Scope
mentioned name scope = scope_after_name Mentioned name 0 scope

-- the scope after the name of a call; lines are left aside, so it is mentioned on line 0
abbrev pub behind_callee : List ℕ → Scope → Scope
behind_callee name scope = scope_after_name Called name 0 scope

-- the scope after an expression
abbrev mutual
  pub behind : Expression → Scope → Scope
  behind (Constant value) scope = scope
  behind (Variable name) scope = mentioned name scope
  behind (Binary o a b) scope = behind b (behind a scope)
  behind (Signed sign e) scope = behind e scope
  behind (Assign o name e) scope = behind e (mentioned name scope)
  behind (PreIncrement increment name) scope = mentioned name scope
  behind (PostIncrement increment name) scope = mentioned name scope
  behind (Call name arguments) scope = behind_arguments arguments (behind_callee name scope)

  pub behind_arguments : Arguments → Scope → Scope
  behind_arguments NoMore scope = scope
  behind_arguments (Argument e rest) scope = behind_arguments rest (behind e scope)

-- -e is 0 - e, !e is e == 0, ~e is e ^ -1
abbrev pub signed : Sign → Expr → Expr
signed Minus e = tree.Binary op.Subtract (tree.Constant (pos 0)) e
signed Not e = tree.Binary op.Equal e (tree.Constant (pos 0))
signed Tilde e = tree.Binary op.BitXor e (tree.Constant (negsuc 0))

abbrev pub increment_operator : Increment → StoreOp
increment_operator Up = store_op.Add
increment_operator Down = store_op.Subtract

-- an expression's tree, in the scope before it
abbrev mutual
  pub tree_of : Expression → Scope → Expr
  tree_of (Constant value) scope = tree.Constant (pos value)
  tree_of (Variable name) scope = tree.Variable (variable_of name scope)
  tree_of (Binary o a b) scope = tree.Binary o (tree_of a scope) (tree_of b (behind a scope))
  tree_of (Signed sign e) scope = signed sign (tree_of e scope)
  tree_of (Assign o name e) scope = tree.Assign o (variable_of name scope) (tree_of e (mentioned name scope))
  tree_of (PreIncrement increment name) scope =
      tree.Assign (increment_operator increment) (variable_of name scope) (tree.Constant (pos 1))
  tree_of (PostIncrement increment name) scope = tree.Postfix (increment_operator increment) (variable_of name scope)
  tree_of (Call name arguments) scope = tree.Call (callee_of name scope) (trees_of arguments (behind_callee name scope))

  pub trees_of : Arguments → Scope → Args
  trees_of NoMore scope = tree.NoMore
  trees_of (Argument e rest) scope = tree.Argument (tree_of e scope) (trees_of rest (behind e scope))

-- the scope after a statement
abbrev mutual
  pub behind_statement : Statement → Scope → Scope
  behind_statement Nothing scope = scope
  behind_statement (Evaluate e) scope = behind e scope
  behind_statement (If c body) scope = behind_statements body (behind c scope)
  behind_statement (IfElse c body other) scope = behind_statements other (behind_statements body (behind c scope))
  behind_statement (While c body) scope = behind_statements body (behind c scope)
  behind_statement Return scope = scope
  behind_statement (ReturnValue e) scope = behind e scope
  behind_statement (Block body) scope = behind_statements body scope

  pub behind_statements : Statements → Scope → Scope
  behind_statements Done scope = scope
  behind_statements (Next s rest) scope = behind_statements rest (behind_statement s scope)

-- what a statement is in a body: a block adds its statements, ; adds none
abbrev mutual
  pub body_of : Statement → Scope → Body
  body_of Nothing scope = tree.Done
  body_of (Evaluate e) scope = tree.ExpressionStatement (tree_of e scope) tree.Done
  body_of (If c body) scope = tree.IfStatement (tree_of c scope) (bodies_of body (behind c scope)) tree.Done
  body_of (IfElse c body other) scope =
      tree.IfElseStatement (tree_of c scope) (bodies_of body (behind c scope))
      (bodies_of other (behind_statements body (behind c scope))) tree.Done
  body_of (While c body) scope = tree.While (tree_of c scope) (bodies_of body (behind c scope)) tree.Done
  body_of Return scope = tree.Return (tree.Constant (pos 0)) tree.Done
  body_of (ReturnValue e) scope = tree.Return (tree_of e scope) tree.Done
  body_of (Block body) scope = bodies_of body scope

  pub bodies_of : Statements → Scope → Body
  bodies_of Done scope = tree.Done
  bodies_of (Next s rest) scope = join (body_of s scope) (bodies_of rest (behind_statement s scope))
