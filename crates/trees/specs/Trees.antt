-- The trees of the crate's code as trees of the language.
use Rattle.std.specs.Prelude.{List, [], ◌∷◌, ◌++◌, map, replicate}
use Rattle.grammar.specs.declared.actions.Action.{Action}
use Rattle.grammar.specs.Actions.{body_actions, function_actions}
use Rattle.grammar.specs.Tree.{Args, NoMore, Argument, Body, Done}
use Rattle.grammar.specs.Tree as tree
use Rattle.trees.specs.declared.tree.Expr.{Expr, Expr-F, fold-Expr}
use Rattle.trees.specs.declared.tree.Function.{Function}
use Rattle.trees.specs.declared.tree.Statement.{Statement, Statement-F, fold-Statement}

-- expressions as the arguments of a call
abbrev pub arguments : List tree.Expr → Args
arguments [] = NoMore
arguments (e ∷ es) = Argument e (arguments es)

-- one node, with the tree of each part at its position
abbrev pub expr_node : Expr-F tree.Expr → tree.Expr
expr_node (Expr-F.Constant value) = tree.Constant value
expr_node (Expr-F.Variable v) = tree.Variable v
expr_node (Expr-F.Binary op a b) = tree.Binary op a.value b.value
expr_node (Expr-F.Assign op v e) = tree.Assign op v e.value
expr_node (Expr-F.Postfix op v) = tree.Postfix op v
expr_node (Expr-F.Call callee es) = tree.Call callee (arguments es.items)

-- the tree of an expression
abbrev pub expr_tree : Expr → tree.Expr
expr_tree = fold-Expr tree.Expr expr_node

-- statements one after another, each of which is given those after it
abbrev pub joined_statements : List (Body → Body) → Body
joined_statements [] = Done
joined_statements (s ∷ ss) = s (joined_statements ss)

abbrev pub statement_node : Statement-F (Body → Body) → Body → Body
statement_node (Statement-F.ExpressionStatement e) rest = tree.ExpressionStatement (expr_tree e) rest
statement_node (Statement-F.IfStatement c s) rest = tree.IfStatement (expr_tree c) (joined_statements s.items) rest
statement_node (Statement-F.IfElseStatement c s t) rest = tree.IfElseStatement (expr_tree c) (joined_statements s.items)
    (joined_statements t.items) rest
statement_node (Statement-F.While c s) rest = tree.While (expr_tree c) (joined_statements s.items) rest
statement_node (Statement-F.Return e) rest = tree.Return (expr_tree e) rest

-- a statement, and what follows it
abbrev pub statement_tree : Statement → Body → Body
statement_tree = fold-Statement (Body → Body) statement_node

-- the actions of a statement
abbrev pub statement_actions : Statement → List Action
statement_actions s = body_actions (statement_tree s Done)

-- the tree of a list of statements
abbrev pub body_tree : List Statement → Body
body_tree ss = joined_statements (map statement_tree ss)

-- the tree of a function, whose names aren't known
abbrev pub function_tree : Function → tree.Function
function_tree f = record {
  name = [];
  parameters = f.parameters;
  variables = replicate f.variables [];
  body = body_tree f.body.items;
}

-- the actions of functions, one after another
abbrev pub made_actions : List Function → List Action
made_actions [] = []
made_actions (f ∷ fs) = function_actions f.number (function_tree f) ++ made_actions fs
