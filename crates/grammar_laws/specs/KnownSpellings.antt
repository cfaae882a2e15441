-- Expressions and statements with the tokens that spell them, and the trees that they are in a function main.
use Rattle.std.specs.Prelude.{◌≡◌, ℕ, pos, List, [], ◌∷◌, codes}
use Rattle.tokens.specs.declared.located_tokens.Punctuator.TheVariants as punctuator
use Rattle.tokens.specs.declared.located_tokens.Token.{Token}
use Rattle.tokens.specs.declared.located_tokens.Token.TheVariants as token
use Rattle.tokens.specs.declared.located_tokens.Keyword.TheVariants as keyword
use Rattle.grammar.specs.declared.resolved_names.Callee.TheVariants as callee
use Rattle.grammar.specs.declared.resolved_names.Intrinsic.TheVariants as intrinsic
use Rattle.grammar.specs.declared.resolved_names.Var.TheVariants as var
use Rattle.arith.specs.declared.operators.Op.TheVariants as op
use Rattle.grammar.specs.declared.operators.StoreOp.TheVariants as store_op
use Rattle.grammar.specs.KnownSources.{a, b, f, x, scan, number, return, ro, rc, co, cc, end, comma, equals}
use Rattle.grammar.specs.Tree as tree
use Rattle.grammar.specs.Tree.{Expr, Args, Body}
use Rattle.grammar_laws.specs.Written.{Minus, Up, Expression, Constant, Variable, Binary, Signed, Assign, PostIncrement}
use Rattle.grammar_laws.specs.Written.{Call, NoMore, Argument, Statement, Evaluate, IfElse, While, Return, Done, Next}
use Rattle.grammar_laws.specs.Spelling.{spell, spell_statement, in_main}
use Rattle.grammar_laws.specs.Resolving.{tree_of, body_of}
use Rattle.grammar_laws.specs.RoundTrip.{in_body}

abbrev minus : Token
minus = token.Punctuator punctuator.Minus

abbrev variable : ℕ → Expr
variable n = tree.Variable (var.Local n)

-- x = a - (b - 1)
abbrev pub difference : Expression
difference =
    Assign store_op.Set (codes "x")
    (Binary op.Subtract (Variable (codes "a")) (Binary op.Subtract (Variable (codes "b")) (Constant 1)))

-- x = (a - (b - 1))
abbrev pub difference_tokens : List Token
difference_tokens = x ∷ equals ∷ ro ∷ a ∷ minus ∷ ro ∷ b ∷ minus ∷ number 1 ∷ rc ∷ rc ∷ []

abbrev pub difference_tree : Expr
difference_tree = tree.Assign store_op.Set (var.Local 0)
    (tree.Binary op.Subtract (variable 1) (tree.Binary op.Subtract (variable 2) (tree.Constant (pos 1))))

-- f(x, x++) || -scan()
abbrev pub calls : Expression
calls =
    Binary op.Or
    (Call (codes "f") (Argument (Variable (codes "x")) (Argument (PostIncrement Up (codes "x")) NoMore)))
    (Signed Minus (Call (codes "scan") NoMore))

-- (f(x, (x++))) || (-(scan()))
abbrev pub calls_tokens : List Token
calls_tokens =
    ro ∷ f ∷ ro ∷ x ∷ comma ∷ ro ∷ x ∷ token.Punctuator punctuator.PlusPlus ∷ rc ∷ rc ∷ rc
    ∷ token.Punctuator punctuator.OrOr ∷ ro ∷ minus ∷ ro ∷ scan ∷ ro ∷ rc ∷ rc ∷ rc ∷ []

abbrev pub calls_tree : Expr
calls_tree =
    tree.Binary op.Or
    (tree.Call (callee.Function 1) (tree.Argument (variable 0)
    (tree.Argument (tree.Postfix store_op.Add (var.Local 0)) tree.NoMore)))
    (tree.Binary op.Subtract (tree.Constant (pos 0)) (tree.Call (callee.Intrinsic intrinsic.Scan) tree.NoMore))

-- if (a < b) { while (a) { } } else { x; return; }
abbrev pub decision : Statement
decision =
    IfElse (Binary op.Less (Variable (codes "a")) (Variable (codes "b")))
    (Next (While (Variable (codes "a")) Done) Done)
    (Next (Evaluate (Variable (codes "x"))) (Next Return Done))

abbrev pub decision_tokens : List Token
decision_tokens =
    token.Keyword keyword.If ∷ ro ∷ a ∷ token.Punctuator punctuator.Less ∷ b ∷ rc
    ∷ co ∷ token.Keyword keyword.While ∷ ro ∷ a ∷ rc ∷ co ∷ cc ∷ cc
    ∷ token.Keyword keyword.Else ∷ co ∷ x ∷ end ∷ return ∷ end ∷ cc ∷ []

abbrev pub decision_body : Body
decision_body =
    tree.IfElseStatement (tree.Binary op.Less (variable 0) (variable 1))
    (tree.While (variable 0) tree.Done tree.Done)
    (tree.ExpressionStatement (variable 2) (tree.Return (tree.Constant (pos 0)) tree.Done)) tree.Done

-- main() { x; } and the end
abbrev pub whole_tokens : List Token
whole_tokens = token.Name (codes "main") ∷ ro ∷ rc ∷ co ∷ x ∷ end ∷ cc ∷ token.End ∷ []

-- A name is a variable by first mention; main is function 0, so f is function 1.
pub record KnownSpellings : Type 0 where
  pub difference_spelled : spell difference ≡ difference_tokens
  pub difference_resolved : tree_of difference in_body ≡ difference_tree
  pub calls_spelled : spell calls ≡ calls_tokens
  pub calls_resolved : tree_of calls in_body ≡ calls_tree
  pub decision_spelled : spell_statement decision ≡ decision_tokens
  pub decision_resolved : body_of decision in_body ≡ decision_body
  pub whole_spelled : in_main (spell_statement (Evaluate (Variable (codes "x")))) ≡ whole_tokens
