-- The trees of each kind of expression and statement, and the actions of lists of them.
use Rattle.std.proofs.Common.{◌≡◌, ℕ, zero, suc, List, [], ◌∷◌, ◌++◌, Bool, true, false, map, take, drop, Vec, Box, Global, sym, ap, ◌∙◌, refl, append_assoc}
use Rattle.std.proofs.lemmas.List.{append-nil}
use Rattle.grammar.specs.declared.resolved_names.Callee.{Callee}
use Rattle.grammar.specs.declared.resolved_names.Var.{Var}
use Rattle.arith.specs.declared.operators.Op.{Op}
use Rattle.grammar.specs.declared.operators.StoreOp.{StoreOp}
use Rattle.grammar.specs.declared.actions.Action.{Action}
use Rattle.grammar.specs.declared.actions.Action.TheVariants.{Chop, GiveBack}
use Rattle.grammar.specs.Actions.{body_actions, args_actions, expr_actions, function_actions, last_return}
use Rattle.grammar.specs.Laws.Origins.{ends_in_return}
use Rattle.grammar.specs.Tree.{Args, Body, Done}
use Rattle.grammar.specs.Tree as tree
use Rattle.grammar.proofs.UnfinishedSteps.{number_is}
use Rattle.trees.specs.TreeStacks.{without_last}
use Rattle.trees.specs.Trees.{arguments, expr_node, expr_tree, statement_node, statement_tree, statement_actions, body_tree, function_tree, made_actions}
use Rattle.trees.specs.declared.tree.Expr.{Expr, Expr-F, fold-roll-Expr}
use Rattle.trees.specs.declared.tree.Expr.TheVariants as expr
use Rattle.trees.specs.declared.tree.Function.{Function}
use Rattle.trees.specs.declared.tree.Statement.{Statement, Statement-F, fold-roll-Statement, fold_out-Statement}
use Rattle.trees.specs.declared.tree.Statement.TheVariants as statement

pub tree-Binary : (op : Op) (a b : Box Expr Global) →
    expr_tree (expr.Binary op a b) ≡ tree.Binary op (expr_tree a.value) (expr_tree b.value)
tree-Binary op a b =
    ap expr_tree (sym (expr.rolls-Binary op a b)) ∙ fold-roll-Expr tree.Expr expr_node (Expr-F.Binary op a b)

pub tree-Assign : (op : StoreOp) (v : Var) (e : Box Expr Global) →
    expr_tree (expr.Assign op v e) ≡ tree.Assign op v (expr_tree e.value)
tree-Assign op v e =
    ap expr_tree (sym (expr.rolls-Assign op v e)) ∙ fold-roll-Expr tree.Expr expr_node (Expr-F.Assign op v e)

pub tree-Postfix : (op : StoreOp) (v : Var) → expr_tree (expr.Postfix op v) ≡ tree.Postfix op v
tree-Postfix op v =
    ap expr_tree (sym (expr.rolls-Postfix op v)) ∙ fold-roll-Expr tree.Expr expr_node (Expr-F.Postfix op v)

pub tree-Call : (callee : Callee) (es : Vec Expr Global) →
    expr_tree (expr.Call callee es) ≡ tree.Call callee (arguments (map expr_tree es.items))
tree-Call callee es =
    ap expr_tree (sym (expr.rolls-Call callee es)) ∙ fold-roll-Expr tree.Expr expr_node (Expr-F.Call callee es)

pub tree-ExpressionStatement : (e : Expr) →
    statement_tree (statement.ExpressionStatement e) ≡ (λ rest. tree.ExpressionStatement (expr_tree e) rest)
tree-ExpressionStatement e =
    ap statement_tree (sym (statement.rolls-ExpressionStatement e)) ∙
    fold-roll-Statement (Body → Body) statement_node (Statement-F.ExpressionStatement e)

pub tree-IfStatement : (c : Expr) (s : Vec Statement Global) →
    statement_tree (statement.IfStatement c s) ≡ (λ rest. tree.IfStatement (expr_tree c) (body_tree s.items) rest)
tree-IfStatement c s =
    ap statement_tree (sym (statement.rolls-IfStatement c s)) ∙
    fold-roll-Statement (Body → Body) statement_node (Statement-F.IfStatement c s)

pub tree-IfElseStatement : (c : Expr) (s t : Vec Statement Global) →
    statement_tree (statement.IfElseStatement c s t) ≡
    (λ rest. tree.IfElseStatement (expr_tree c) (body_tree s.items) (body_tree t.items) rest)
tree-IfElseStatement c s t =
    ap statement_tree (sym (statement.rolls-IfElseStatement c s t)) ∙
    fold-roll-Statement (Body → Body) statement_node (Statement-F.IfElseStatement c s t)

pub tree-While : (c : Expr) (s : Vec Statement Global) →
    statement_tree (statement.While c s) ≡ (λ rest. tree.While (expr_tree c) (body_tree s.items) rest)
tree-While c s =
    ap statement_tree (sym (statement.rolls-While c s)) ∙
    fold-roll-Statement (Body → Body) statement_node (Statement-F.While c s)

pub tree-Return : (e : Expr) → statement_tree (statement.Return e) ≡ (λ rest. tree.Return (expr_tree e) rest)
tree-Return e =
    ap statement_tree (sym (statement.rolls-Return e)) ∙
    fold-roll-Statement (Body → Body) statement_node (Statement-F.Return e)

-- Items reported one after another.

-- a list of actions for each list of items, by which the items are reported one after another
pub record Tells {X : Type 0} (acts : X → List Action) (told : List X → List Action) : Type 0 where
  pub none : told [] ≡ []
  pub more : (x : X) (xs : List X) → told (x ∷ xs) ≡ acts x ++ told xs

-- those of the first items, and those of the rest
pub tells_split : {X : Type 0} (acts : X → List Action) (told : List X → List Action) → Tells acts told →
    (i : ℕ) (xs : List X) → told xs ≡ told (take i xs) ++ told (drop i xs)
tells_split acts told tells zero xs = sym (ap (λ ys. ys ++ told xs) tells.none)
tells_split acts told tells (suc i) [] = sym (ap (λ ys. ys ++ told []) tells.none)
tells_split acts told tells (suc i) (x ∷ xs) =
    tells.more x xs ∙ ap (λ ys. acts x ++ ys) (tells_split acts told tells i xs) ∙
    sym (append_assoc (acts x) (told (take i xs)) (told (drop i xs)))
    ∙ ap (λ ys. ys ++ told (drop i xs)) (sym (tells.more x (take i xs)))

-- the last item's actions come last
pub tells_last : {X : Type 0} (acts : X → List Action) (told : List X → List Action) → Tells acts told →
    (xs : List X) (x : X) → told (xs ++ x ∷ []) ≡ told xs ++ acts x
tells_last acts told tells [] x =
    tells.more x [] ∙ ap (λ ys. acts x ++ ys) tells.none ∙ append-nil (acts x) ∙
    sym (ap (λ ys. ys ++ acts x) tells.none)
tells_last acts told tells (y ∷ xs) x =
    tells.more y (xs ++ x ∷ []) ∙ ap (λ ys. acts y ++ ys) (tells_last acts told tells xs x) ∙
    sym (append_assoc (acts y) (told xs) (acts x))
    ∙ ap (λ ys. ys ++ acts x) (sym (tells.more y xs))

-- The first of some statements.

node_first : (x : Statement-F (Body → Body)) (rest : Body) →
    body_actions (statement_node x rest) ≡ body_actions (statement_node x Done) ++ body_actions rest
node_first (Statement-F.ExpressionStatement e) rest =
    sym (append_assoc (expr_actions (expr_tree e)) (Chop ∷ []) (body_actions rest))
node_first (Statement-F.IfStatement c s) rest =
    simp append_assoc refl
node_first (Statement-F.IfElseStatement c s t) rest =
    simp append_assoc refl
node_first (Statement-F.While c s) rest =
    simp append_assoc refl
node_first (Statement-F.Return e) rest =
    sym (append_assoc (expr_actions (expr_tree e)) (GiveBack ∷ []) (body_actions rest))

-- the actions of a statement come first
pub statement_first : (s : Statement) (rest : Body) →
    body_actions (statement_tree s rest) ≡ statement_actions s ++ body_actions rest
statement_first s rest =
    let is = fold_out-Statement (Body → Body) statement_node s in
    ap (λ f. body_actions (f rest)) is ∙ node_first _ rest ∙
    ap (λ f. body_actions (f Done) ++ body_actions rest) (sym is)

-- Lists of arguments, of statements and of functions.

pub tells_arguments : Tells (λ e. expr_actions (expr_tree e)) (λ es. args_actions (arguments (map expr_tree es)))
tells_arguments = record { none = refl; more = λ e es. refl }

pub tells_statements : Tells statement_actions (λ ss. body_actions (body_tree ss))
tells_statements = record { none = refl; more = λ s ss. statement_first s (body_tree ss) }

pub tells_functions : Tells (λ f. function_actions f.number (function_tree f)) made_actions
tells_functions = record { none = refl; more = λ f fs. refl }

-- an argument more has its actions more, and so has a statement and a function
pub arguments_add : (es : List Expr) (e : Expr) →
    args_actions (arguments (map expr_tree (es ++ e ∷ []))) ≡
    args_actions (arguments (map expr_tree es)) ++ expr_actions (expr_tree e)
arguments_add = tells_last _ _ tells_arguments

pub body_adds : (ss : List Statement) (s : Statement) →
    body_actions (body_tree (ss ++ s ∷ [])) ≡ body_actions (body_tree ss) ++ statement_actions s
body_adds = tells_last _ _ tells_statements

pub functions_add : (fs : List Function) (f : Function) →
    made_actions (fs ++ f ∷ []) ≡ made_actions fs ++ function_actions f.number (function_tree f)
functions_add = tells_last _ _ tells_functions

-- The last of some statements.

-- whether a statement is `return 0;`
abbrev pub returns_zero : Statement → Bool
returns_zero s = ends_in_return false (statement_tree s Done)

node_ends : (x : Statement-F (Body → Body)) (b c : Bool) (rest : Body) →
    ends_in_return b (statement_node x rest) ≡ ends_in_return (ends_in_return c (statement_node x Done)) rest
node_ends (Statement-F.ExpressionStatement e) b c rest = refl
node_ends (Statement-F.IfStatement e s) b c rest = refl
node_ends (Statement-F.IfElseStatement e s t) b c rest = refl
node_ends (Statement-F.While e s) b c rest = refl
node_ends (Statement-F.Return e) b c rest = refl

pub statement_ends : (s : Statement) (b : Bool) (rest : Body) →
    ends_in_return b (statement_tree s rest) ≡ ends_in_return (returns_zero s) rest
statement_ends s b rest =
    let is = fold_out-Statement (Body → Body) statement_node s in
    ap (λ f. ends_in_return b (f rest)) is ∙ node_ends _ b false rest ∙
    ap (λ f. ends_in_return (ends_in_return false (f Done)) rest) (sym is)

-- the last statement decides
pub body_ends : (ss : List Statement) (s : Statement) (b : Bool) →
    ends_in_return b (body_tree (ss ++ s ∷ [])) ≡ returns_zero s
body_ends [] s b = statement_ends s b Done
body_ends (t ∷ ss) s b = statement_ends t b (body_tree (ss ++ s ∷ [])) ∙ body_ends ss s (returns_zero t)

node_returns : (x : Statement-F (Body → Body)) → ends_in_return false (statement_node x Done) ≡ true →
    body_actions (statement_node x Done) ≡ last_return
node_returns (Statement-F.ExpressionStatement e) h = absurd (cc)
node_returns (Statement-F.IfStatement e s) h = absurd (cc)
node_returns (Statement-F.IfElseStatement e s t) h = absurd (cc)
node_returns (Statement-F.While e s) h = absurd (cc)
node_returns (Statement-F.Return e) h = ap (λ t. expr_actions t ++ GiveBack ∷ []) (number_is 0 (expr_tree e) h)

-- the actions of `return 0;`
pub zero_returned : (s : Statement) → returns_zero s ≡ true → statement_actions s ≡ last_return
zero_returned s h =
    let is = fold_out-Statement (Body → Body) statement_node s in
    ap (λ f. body_actions (f Done)) is ∙ node_returns _ (ap (λ f. ends_in_return false (f Done)) (sym is) ∙ h)

-- statements of which the last is `return 0;`
pub last_returns : (ss : List Statement) → ends_in_return false (body_tree ss) ≡ true →
    body_actions (body_tree ss) ≡ body_actions (body_tree (without_last ss)) ++ last_return
last_returns [] h = absurd (cc)
last_returns (s ∷ []) h = zero_returned s h
last_returns (s ∷ t ∷ ss) h =
    let later : ends_in_return (returns_zero s) (body_tree (t ∷ ss)) ≡ true =
    sym (statement_ends s false (body_tree (t ∷ ss))) ∙ h in
    let same : ends_in_return false (body_tree (t ∷ ss)) ≡ ends_in_return (returns_zero s) (body_tree (t ∷ ss)) =
    statement_ends t false (body_tree ss) ∙ sym (statement_ends t (returns_zero s) (body_tree ss)) in
    statement_first s (body_tree (t ∷ ss)) ∙
    ap (λ acts. statement_actions s ++ acts) (last_returns (t ∷ ss) (same ∙ later))
    ∙ sym (append_assoc (statement_actions s) (body_actions (body_tree (without_last (t ∷ ss)))) last_return)
    ∙ ap (λ acts. acts ++ last_return) (sym (statement_first s (body_tree (without_last (t ∷ ss)))))
