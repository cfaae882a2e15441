-- What each action makes of what is open.
use Rattle.std.proofs.Common.{◌≡◌, ℕ, ◌<◌, ◌↔◌, List, [], ◌∷◌, ◌++◌, length, Bool, true, false, map, Vec, Box, Global, sym, ap, subst, ◌∙◌, refl, append_assoc, arith}
use Rattle.std.proofs.lemmas.List.{length-replicate}
use Rattle.std.specs.Option.{option_to_list}
use Rattle.std.specs.Prelude.{pos, if◌then◌else◌, Option, Some, None, IsSome, IsTrue, is_some}
use Rattle.grammar.specs.declared.resolved_names.Callee.{Callee}
use Rattle.grammar.specs.declared.resolved_names.Var.{Var}
use Rattle.arith.specs.declared.operators.Op.{Op}
use Rattle.grammar.specs.declared.operators.StoreOp.{StoreOp}
use Rattle.grammar.specs.declared.actions.Action.{Action}
use Rattle.grammar.specs.declared.actions.Action.TheVariants.{ApplyBinop, BeginCall, EndCall, EndIf}
use Rattle.grammar.specs.declared.actions.Action.TheVariants.{EndWhile, GiveBack, Chop, EndFunction}
use Rattle.grammar.specs.Actions.{body_actions, args_actions, expr_actions}
use Rattle.grammar.specs.Following.{InFunction, AValue, BeforeRight, Opened, ValueCategory, Computed, follow, only_on, statement_done, call_done, is_increment, stored_origin, same_op, is_callee_numbered}
use Rattle.arith.specs.Op.{is_logic}
use Rattle.grammar.specs.Laws.Origins.{origin_of, ends_in_return}
use Rattle.grammar.specs.Tree.{Args, Body, Done}
use Rattle.grammar.specs.Tree as tree
use Rattle.grammar.proofs.FollowingLaws.{same_op_is}
use Rattle.grammar.proofs.UnfinishedSteps.{fetched_is, number_is, step_is}
use Rattle.trees.specs.Opened.{Continues, EndsFunctionTree, IsAllowed, open_of_owner, opened_of, open_actions, heading_actions}
use Rattle.trees.specs.TreeStacks.{AddsStatement, above_call, below_innermost, below_call, ends_in_value, past_middle, without_last}
use Rattle.trees.specs.Trees.{arguments, expr_tree, statement_actions, body_tree}
use Rattle.trees.specs.declared.tree_stack.OpenBody as body_type
use Rattle.trees.specs.declared.tree_stack.BodyOwner.{BodyOwner}
use Rattle.trees.specs.declared.tree_stack.BodyOwner.TheVariants as body_owner
use Rattle.trees.specs.declared.tree_stack.OpenItem as entry
use Rattle.trees.specs.declared.tree_stack.OpenItem.TheVariants.{Value, RightSide, Call, Test}
use Rattle.trees.specs.declared.tree_stack.OpenItem.TheVariants as open_item
use Rattle.trees.specs.declared.tree.Expr.{Expr}
use Rattle.trees.specs.declared.tree.Expr.TheVariants as expr
use Rattle.trees.specs.declared.tree.Statement.{Statement}
use Rattle.trees.specs.declared.tree.Statement.TheVariants as statement
use Rattle.trees.proofs.TreeLaws.{tree-Binary, tree-Assign, tree-Postfix, tree-Call, tree-ExpressionStatement, tree-IfStatement, tree-IfElseStatement, tree-While, tree-Return, returns_zero, body_adds, body_ends, last_returns, arguments_add}

-- The last statement is left.

without_added : (ts : List Statement) (s : Statement) → without_last (ts ++ s ∷ []) ≡ ts
without_added [] s = refl
without_added (t ∷ []) s = refl
without_added (t ∷ u ∷ ts) s = ap (λ us. t ∷ us) (without_added (u ∷ ts) s)

pub last_left : (ss ts : List Statement) (n : ℕ) (o : Option Statement) → n ≡ length ss → ss ≡ ts ++ option_to_list o →
    (IsSome o ↔ (0 < n)) → ts ≡ without_last ss
last_left ss ts n (Some s) long e some = sym (ap without_last e ∙ without_added ts s)
last_left [] [] n None long e some = refl
last_left [] (t ∷ ts) n None long e some = absurd (cc)
last_left (s ∷ ss) ts n None long e some = let no : false ≡ true = some.1 (omega (arith, long)) in absurd (cc)

-- A statement is added to the innermost body.

place_adds : (h : BodyOwner) (ss : List Statement) (s : Statement) (o : Opened) →
    statement_done (returns_zero s) (open_of_owner h (body_tree ss) ∷ o) ≡
    Some (open_of_owner h (body_tree (ss ++ s ∷ [])) ∷ o)
place_adds (body_owner.Function n p) ss s o = ap (λ b. Some (InFunction p b ∷ o)) (sym (body_ends ss s false))
place_adds (body_owner.First c) ss s o = refl
place_adds (body_owner.Second c t) ss s o = refl
place_adds (body_owner.Loop c) ss s o = refl

pub adds_follows : (s : Statement) (xs ys : List entry.OpenItem) → AddsStatement s xs ys →
    statement_done (returns_zero s) (opened_of xs) ≡ Some (opened_of ys)
adds_follows s xs ys a =
    rw (a.was, a.is, a.heading, a.adds) (place_adds a.body.heading a.body.statements.items s (opened_of a.rest))

pub adds_actions : (s : Statement) (xs ys : List entry.OpenItem) → AddsStatement s xs ys →
    open_actions xs ++ statement_actions s ≡ open_actions ys
adds_actions s xs ys a =
    rw (a.was, a.is, a.heading, a.adds, body_adds a.body.statements.items s)
    (append_assoc (open_actions a.rest)
    (heading_actions a.body.heading ++ body_actions (body_tree a.body.statements.items)) (statement_actions s)
    ∙
    ap (λ acts. open_actions a.rest ++ acts)
    (append_assoc (heading_actions a.body.heading) (body_actions (body_tree a.body.statements.items))
    (statement_actions s)))

-- an action that makes a statement
statement_continues : (a : Action) (s : Statement) (before xs ys : List entry.OpenItem) → AddsStatement s xs ys →
    follow a (opened_of before) ≡ statement_done (returns_zero s) (opened_of xs) →
    open_actions before ++ a ∷ [] ≡ open_actions xs ++ statement_actions s → Continues a before ys
statement_continues a s before xs ys added follows acts =
    record { follows = follows ∙ adds_follows s xs ys added; adds = acts ∙ adds_actions s xs ys added }

chop_place : (h : BodyOwner) (b : Body) (origin : ValueCategory) (o : Opened) →
    follow Chop (AValue origin ∷ open_of_owner h b ∷ o) ≡ statement_done false (open_of_owner h b ∷ o)
chop_place (body_owner.Function n p) b origin o = refl
chop_place (body_owner.First c) b origin o = refl
chop_place (body_owner.Second c t) b origin o = refl
chop_place (body_owner.Loop c) b origin o = refl

pub alone_continues : (e : Expr) (xs ys : List entry.OpenItem) → AddsStatement (statement.ExpressionStatement e) xs ys →
    Continues Chop (Value e ∷ xs) ys
alone_continues e xs ys a =
    statement_continues Chop (statement.ExpressionStatement e) (Value e ∷ xs) xs ys a
    (rw (a.was, tree-ExpressionStatement e)
    (chop_place a.body.heading (body_tree a.body.statements.items) (origin_of (expr_tree e)) (opened_of a.rest)))
    (rw (tree-ExpressionStatement e) (append_assoc (open_actions xs) (expr_actions (expr_tree e)) (Chop ∷ [])))

pub return_continues : (e : Expr) (xs ys : List entry.OpenItem) → AddsStatement (statement.Return e) xs ys →
    Continues GiveBack (Value e ∷ xs) ys
return_continues e xs ys a =
    statement_continues GiveBack (statement.Return e) (Value e ∷ xs) xs ys a
    (rw (tree-Return e) refl)
    (rw (tree-Return e) (append_assoc (open_actions xs) (expr_actions (expr_tree e)) (GiveBack ∷ [])))

pub when_continues : (b : body_type.OpenBody) (c : Expr) (xs ys : List entry.OpenItem) →
    b.heading ≡ body_owner.First c →
    AddsStatement (statement.IfStatement c b.statements) xs ys →
    Continues EndIf (open_item.Body b ∷ xs) ys
when_continues b c xs ys is a =
    statement_continues EndIf (statement.IfStatement c b.statements) (open_item.Body b ∷ xs) xs ys a
    (rw (is, tree-IfStatement c b.statements) refl)
    (rw (is, tree-IfStatement c b.statements) (simp append_assoc refl))

pub choose_continues : (b : body_type.OpenBody) (c : Expr) (s : Vec Statement Global) (xs ys : List entry.OpenItem) →
    b.heading ≡ body_owner.Second c s → AddsStatement (statement.IfElseStatement c s b.statements) xs ys →
    Continues EndIf (open_item.Body b ∷ xs) ys
choose_continues b c s xs ys is a =
    statement_continues EndIf (statement.IfElseStatement c s b.statements) (open_item.Body b ∷ xs) xs ys a
    (rw (is, tree-IfElseStatement c s b.statements) refl)
    (rw (is, tree-IfElseStatement c s b.statements) (simp append_assoc refl))

pub while_continues : (b : body_type.OpenBody) (c : Expr) (xs ys : List entry.OpenItem) →
    b.heading ≡ body_owner.Loop c →
    AddsStatement (statement.While c b.statements) xs ys →
    Continues EndWhile (open_item.Body b ∷ xs) ys
while_continues b c xs ys is a =
    statement_continues EndWhile (statement.While c b.statements) (open_item.Body b ∷ xs) xs ys a
    (rw (is, tree-While c b.statements) refl)
    (rw (is, tree-While c b.statements) (simp append_assoc refl))

-- The sides of an operator.

only_true : (b : Bool) (o : Opened) → IsTrue (is_some (only_on b o)) → b ≡ true
only_true true o h = refl
only_true false o h = absurd (cc)

-- below the right side is the left one, past the middle if there is one
pub left_is : (xs : List entry.OpenItem) → ends_in_value xs ≡ false → ends_in_value (past_middle xs) ≡ true →
    below_innermost xs ≡ past_middle xs
left_is [] h k = refl
left_is (Value e ∷ xs) h k = absurd (cc)
left_is (RightSide o ∷ xs) h k = refl
left_is (Call ∷ xs) h k = absurd (cc)
left_is (Test ∷ xs) h k = absurd (cc)
left_is (open_item.Body b ∷ xs) h k = absurd (cc)

pub value_is_left : (xs : List entry.OpenItem) → ends_in_value xs ≡ true → past_middle xs ≡ xs
value_is_left [] h = absurd (cc)
value_is_left (Value e ∷ xs) h = refl
value_is_left (RightSide o ∷ xs) h = absurd (cc)
value_is_left (Call ∷ xs) h = refl
value_is_left (Test ∷ xs) h = refl
value_is_left (open_item.Body b ∷ xs) h = refl

-- no operator is applied right in a body
apply_place : (o : Op) (origin : ValueCategory) (g : BodyOwner) (b : Body) (q : Opened) →
    IsTrue (is_some (follow (ApplyBinop o) (AValue origin ∷ open_of_owner g b ∷ q))) → ⊥
apply_place o origin (body_owner.Function n p) b q k = absurd (cc)
apply_place o origin (body_owner.First c) b q k = absurd (cc)
apply_place o origin (body_owner.Second c t) b q k = absurd (cc)
apply_place o origin (body_owner.Loop c) b q k = absurd (cc)

apply_right : (o p : Op) (origin : ValueCategory) (g : BodyOwner) (b : Body) (q : Opened) →
    IsTrue (is_some (follow (ApplyBinop o) (AValue origin ∷ BeforeRight p ∷ open_of_owner g b ∷ q))) → ⊥
apply_right o p origin (body_owner.Function n m) b q k = absurd (cc)
apply_right o p origin (body_owner.First c) b q k = absurd (cc)
apply_right o p origin (body_owner.Second c t) b q k = absurd (cc)
apply_right o p origin (body_owner.Loop c) b q k = absurd (cc)

pub left_allowed : (o : Op) (right : Expr) (xs : List entry.OpenItem) → IsAllowed (ApplyBinop o) (Value right ∷ xs) →
    ends_in_value (past_middle xs) ≡ true
left_allowed o right [] h = absurd (cc)
left_allowed o right (Value left ∷ xs) h = refl
left_allowed o right (RightSide p ∷ []) h = absurd (cc)
left_allowed o right (RightSide p ∷ Value left ∷ xs) h = refl
left_allowed o right (RightSide p ∷ RightSide q ∷ xs) h = absurd (cc)
left_allowed o right (RightSide p ∷ Call ∷ xs) h = absurd (cc)
left_allowed o right (RightSide p ∷ Test ∷ xs) h = absurd (cc)
left_allowed o right (RightSide p ∷ open_item.Body b ∷ xs) h =
    absurd (apply_right o p (origin_of (expr_tree right)) b.heading (body_tree b.statements.items) (opened_of xs) h)
left_allowed o right (Call ∷ xs) h = absurd (cc)
left_allowed o right (Test ∷ xs) h = absurd (cc)
left_allowed o right (open_item.Body b ∷ xs) h =
    absurd (apply_place o (origin_of (expr_tree right)) b.heading (body_tree b.statements.items) (opened_of xs) h)

plain_sides : (o : Op) (logic : Bool) (q : Opened) → IsTrue (is_some (if logic then None else Some q)) → logic ≡ false
plain_sides o true q h = absurd (cc)
plain_sides o false q h = refl

-- without a middle
plain_continues : (o : Op) (right left : Expr) (a b : Box Expr Global) (xs : List entry.OpenItem) →
    IsAllowed (ApplyBinop o) (Value right ∷ Value left ∷ xs) → a.value ≡ left → b.value ≡ right →
    Continues (ApplyBinop o) (Value right ∷ Value left ∷ xs) (Value (expr.Binary o a b) ∷ xs)
plain_continues o right left a b xs h is_left is_right =
    let plain : is_logic o ≡ false = plain_sides o (is_logic o) (AValue Computed ∷ opened_of xs) h in
    record {
      follows = rw (plain, tree-Binary o a b) refl;
      adds = rw (tree-Binary o a b, is_left, is_right, plain) (simp append_assoc refl);
    }

-- with one
logic_continues : (o p : Op) (right left : Expr) (a b : Box Expr Global) (xs : List entry.OpenItem) →
    IsAllowed (ApplyBinop o) (Value right ∷ RightSide p ∷ Value left ∷ xs) → a.value ≡ left → b.value ≡ right →
    Continues (ApplyBinop o) (Value right ∷ RightSide p ∷ Value left ∷ xs) (Value (expr.Binary o a b) ∷ xs)
logic_continues o p right left a b xs h is_left is_right =
    let same : same_op o p ≡ true = only_true (same_op o p) (AValue Computed ∷ opened_of xs) h in
    let is : o ≡ p = same_op_is o p same in
    record {
      follows = rw (same, tree-Binary o a b) refl;
      adds = rw (tree-Binary o a b, is_left, is_right, is) (simp append_assoc refl);
    }

pub binop_continues : (o : Op) (right left : Expr) (a b : Box Expr Global) (xs ys : List entry.OpenItem) →
    IsAllowed (ApplyBinop o) (Value right ∷ xs) → past_middle xs ≡ Value left ∷ ys → a.value ≡ left → b.value ≡ right →
    Continues (ApplyBinop o) (Value right ∷ xs) (Value (expr.Binary o a b) ∷ ys)
binop_continues o right left a b [] ys h e is_left is_right = absurd (cc)
binop_continues o right left a b (Value l ∷ xs) ys h e is_left is_right =
    let same : l ≡ left = cc in
    let below_innermost : xs ≡ ys = cc in
    subst (λ zs. Continues (ApplyBinop o) (Value right ∷ Value l ∷ xs) (Value (expr.Binary o a b) ∷ zs)) below_innermost
    (plain_continues o right l a b xs h (is_left ∙ sym same) is_right)
binop_continues o right left a b (RightSide p ∷ xs) ys h e is_left is_right =
    subst (λ zs. Continues (ApplyBinop o) (Value right ∷ RightSide p ∷ zs) (Value (expr.Binary o a b) ∷ ys)) (sym e)
    (logic_continues o p right left a b ys
    (subst (λ zs. IsAllowed (ApplyBinop o) (Value right ∷ RightSide p ∷ zs)) e h) is_left is_right)
binop_continues o right left a b (Call ∷ xs) ys h e is_left is_right = absurd (cc)
binop_continues o right left a b (Test ∷ xs) ys h e is_left is_right = absurd (cc)
binop_continues o right left a b (open_item.Body c ∷ xs) ys h e is_left is_right = absurd (cc)

-- The new value of v++ and v-- is dropped.

pub postfix_continues : (o : StoreOp) (v : Var) (b : Box Expr Global) (xs : List entry.OpenItem) →
    ends_in_value xs ≡ true →
    IsAllowed Chop (Value (expr.Assign o v b) ∷ xs) →
    Continues Chop (Value (expr.Assign o v b) ∷ xs) (Value (expr.Postfix o v) ∷ below_innermost xs)
postfix_continues o v b [] e h = absurd (cc)
postfix_continues o v b (Value old ∷ xs) e h =
    let step : is_increment (origin_of (expr_tree (expr.Assign o v b))) (origin_of (expr_tree old)) ≡ true =
    only_true _ (AValue Computed ∷ opened_of xs) h in
    let is : is_increment (stored_origin v (origin_of (expr_tree b.value))) (origin_of (expr_tree old)) ≡ true =
    ap (λ t. is_increment (origin_of t) (origin_of (expr_tree old))) (sym (tree-Assign o v b)) ∙ step in
    let both = step_is v (origin_of (expr_tree b.value)) (origin_of (expr_tree old)) is in
    let one : expr_tree b.value ≡ tree.Constant (pos 1) = number_is 1 (expr_tree b.value) both.0 in
    let fetched : expr_tree old ≡ tree.Variable v = fetched_is v (expr_tree old) both.1 in
    record {
      follows = rw (step, tree-Postfix o v) refl;
      adds = rw (tree-Assign o v b, tree-Postfix o v, one, fetched) (simp append_assoc refl);
    }
postfix_continues o v b (RightSide p ∷ xs) e h = absurd (cc)
postfix_continues o v b (Call ∷ xs) e h = absurd (cc)
postfix_continues o v b (Test ∷ xs) e h = absurd (cc)
postfix_continues o v b (open_item.Body c ∷ xs) e h = absurd (cc)

-- A call ends.

call_place : (g : BodyOwner) (b : Body) (q : Opened) → IsTrue (is_some (call_done (open_of_owner g b ∷ q))) → ⊥
call_place (body_owner.Function n m) b q k = absurd (cc)
call_place (body_owner.First c) b q k = absurd (cc)
call_place (body_owner.Second c t) b q k = absurd (cc)
call_place (body_owner.Loop c) b q k = absurd (cc)

call_follows : (xs : List entry.OpenItem) → IsTrue (is_some (call_done (opened_of xs))) →
    call_done (opened_of xs) ≡ Some (AValue Computed ∷ opened_of (below_call xs))
call_follows [] h = absurd (cc)
call_follows (Value e ∷ xs) h = call_follows xs h
call_follows (RightSide p ∷ xs) h = absurd (cc)
call_follows (Call ∷ xs) h = refl
call_follows (Test ∷ xs) h = absurd (cc)
call_follows (open_item.Body b ∷ xs) h = absurd (call_place b.heading (body_tree b.statements.items) (opened_of xs) h)

call_actions : (xs : List entry.OpenItem) → IsTrue (is_some (call_done (opened_of xs))) →
    open_actions xs ≡
    open_actions (below_call xs) ++ BeginCall ∷ args_actions (arguments (map expr_tree (above_call xs)))
call_actions [] h = absurd (cc)
call_actions (Value e ∷ xs) h =
    rw (call_actions xs h, arguments_add (above_call xs) e)
    (append_assoc (open_actions (below_call xs)) (BeginCall ∷ args_actions (arguments (map expr_tree (above_call xs))))
    (expr_actions (expr_tree e)))
call_actions (RightSide p ∷ xs) h = absurd (cc)
call_actions (Call ∷ xs) h = refl
call_actions (Test ∷ xs) h = absurd (cc)
call_actions (open_item.Body b ∷ xs) h = absurd (call_place b.heading (body_tree b.statements.items) (opened_of xs) h)

numbered_call : (f : Bool) (o : Option Opened) → IsTrue (is_some (if f then o else None)) →
    (f ≡ true) × IsTrue (is_some o)
numbered_call true o h = (refl, h)
numbered_call false o h = absurd (cc)

pub call_continues : (f : Callee) (es : Vec Expr Global) (xs : List entry.OpenItem) → es.items ≡ above_call xs →
    IsAllowed (EndCall f) xs →
    Continues (EndCall f) xs (Value (expr.Call f es) ∷ below_call xs)
call_continues f es xs is h =
    let both = numbered_call (is_callee_numbered f) (call_done (opened_of xs)) h in
    record {
      follows = rw (both.0, tree-Call f es) (call_follows xs both.1);
      adds = rw (tree-Call f es, is, call_actions xs both.1)
          (append_assoc (open_actions (below_call xs))
          (BeginCall ∷ args_actions (arguments (map expr_tree (above_call xs)))) (EndCall f ∷ []));
    }

-- A function ends.

finish_is : (v p : ℕ) (r : Bool) (o : Opened) → IsTrue (is_some (follow (EndFunction v) (InFunction p r ∷ o))) →
    (r ≡ true) × (o ≡ [])
finish_is v p true [] h = (refl, refl)
finish_is v p true (x ∷ o) h = absurd (cc)
finish_is v p false o h = absurd (cc)

nothing_open : (xs : List entry.OpenItem) → opened_of xs ≡ [] → xs ≡ []
nothing_open [] h = refl
nothing_open (x ∷ xs) h = absurd (cc)

pub function_ends : (b : body_type.OpenBody) (n p v : ℕ) (ts : Vec Statement Global) (xs : List entry.OpenItem) →
    b.heading ≡ body_owner.Function n p → IsAllowed (EndFunction v) (open_item.Body b ∷ xs) →
    ts.items ≡ without_last b.statements.items →
    EndsFunctionTree v (open_item.Body b ∷ xs) xs (record { number = n; parameters = p; variables = v; body = ts })
function_ends b n p v ts xs is h left =
    let ss = b.statements.items in
    let k : IsTrue
    (is_some (follow (EndFunction v) (InFunction p (ends_in_return false (body_tree ss)) ∷ opened_of xs))) =
    subst (λ g. IsTrue (is_some (follow (EndFunction v) (open_of_owner g (body_tree ss) ∷ opened_of xs)))) is h in
    let both = finish_is v p (ends_in_return false (body_tree ss)) (opened_of xs) k in
    let empty : xs ≡ [] = nothing_open xs both.1 in
    let none : List ℕ = [] in
    record {
      variables = refl;
      nothing = empty;
      actions = rw (empty, is, left, length-replicate v none, last_returns ss both.0) (simp append_assoc refl);
    }
