-- How the value of an expression came about, and whether a body ends with `return 0;`.
use Rattle.std.specs.Prelude.{Bool, false}
use Rattle.grammar.specs.Following.{ValueCategory, Number, Fetched, Computed, stored_origin, is_number}
use Rattle.grammar.specs.Tree.{Expr, Constant, Variable, Binary, Assign, Postfix, Call}
use Rattle.grammar.specs.Tree.{Body, Done, ExpressionStatement, IfStatement, IfElseStatement, While, Return}

abbrev pub origin_of : Expr → ValueCategory
origin_of (Constant value) = Number value
origin_of (Variable v) = Fetched v
origin_of (Binary op a b) = Computed
origin_of (Assign op v e) = stored_origin v (origin_of e)
origin_of (Postfix op v) = Computed
origin_of (Call f args) = Computed

-- whether the last of these statements is `return 0;`; if there is none, what was before
abbrev pub ends_in_return : Bool → Body → Bool
ends_in_return before Done = before
ends_in_return before (ExpressionStatement e rest) = ends_in_return false rest
ends_in_return before (IfStatement c s rest) = ends_in_return false rest
ends_in_return before (IfElseStatement c s t rest) = ends_in_return false rest
ends_in_return before (While c s rest) = ends_in_return false rest
ends_in_return before (Return e rest) = ends_in_return (is_number 0 (origin_of e)) rest
