-- The actions of a tree may follow one another, if little enough is open.
use Rattle.std.proofs.Common.{◌≡◌, ℕ, ◌+◌, ◌<◌, ◌≤◌, List, [], ◌∷◌, ◌++◌, refl, ap, ◌∙◌, subst, Bool, true, false, arith, lt-ltb, le-leb, length, inl, inr}
use Rattle.std.proofs.lemmas.Bool.Decides.{nat_tests}
use Rattle.std.specs.Prelude.{Option, Some, None, if◌then◌else◌, pos, slice_get}
use Rattle.grammar.specs.declared.resolved_names.Callee.{Callee}
use Rattle.grammar.specs.declared.resolved_names.Callee.TheVariants as callee
use Rattle.grammar.specs.declared.resolved_names.Var.{Var}
use Rattle.grammar.specs.declared.resolved_names.Var.TheVariants as var
use Rattle.arith.specs.declared.operators.Op.{Op}
use Rattle.arith.specs.declared.operators.Op.TheVariants as op
use Rattle.grammar.specs.declared.actions.Action.{Action}
use Rattle.grammar.specs.declared.actions.Action.TheVariants.{PushConstant, FetchVariable, StoreVariable, ApplyBinop}
use Rattle.grammar.specs.declared.actions.Action.TheVariants.{LogicMiddle, BeginCall, EndCall, IfTest, ElsePart, EndIf}
use Rattle.grammar.specs.declared.actions.Action.TheVariants.{BeginWhile, WhileTest, EndWhile, GiveBack, Chop}
use Rattle.grammar.specs.declared.actions.Action.TheVariants.{BeginFunction, EndFunction}
use Rattle.grammar.specs.Actions.{expr_actions, args_actions, body_actions, last_return, middle, function_actions}
use Rattle.grammar.specs.Actions.{functions_actions, numbered_actions}
use Rattle.grammar.specs.Following.{Open, InFunction, AValue, BeforeRight, InCall, InBranch, InElse, BeforeTest, InLoopBody, Opened, ValueCategory, Number, Fetched, Incremented, Computed, open_count, may_take_statement, few_open, follow, follow_all, then_follow, is_var_numbered, is_callee_numbered, statement_done, call_done, is_number, same_op, same_var}
use Rattle.grammar.specs.Nesting.{nesting, args_nesting, body_nesting, right_side}
use Rattle.arith.specs.Op.{is_logic}
-- how the value of an expression came about
pub use Rattle.grammar.specs.Laws.Origins.{origin_of}
use Rattle.grammar.specs.Resolved.{IsVariable, IsCallable, InExpr, InArgs, InBody, FitsFile, IsAmong}
use Rattle.grammar.specs.Tree.{Expr, Constant, Variable, Binary, Assign, Postfix, Call, Args, NoMore, Argument, Body, Done, ExpressionStatement, IfStatement, IfElseStatement, While, Return, Function}
use Rattle.grammar.specs.Laws.{EachFileFollows}
use Rattle.grammar.specs.NameLimits.{most_names}
use Rattle.grammar.proofs.Indices.{some_same}
use Rattle.grammar.proofs.Widening.{body_wider, function_wider}

-- Actions one after another.

then_append : (xs ys : List Action) (next : Option Opened) (p : Opened) →
    ((o : Opened) → follow_all xs o ≡ Some p → follow_all (xs ++ ys) o ≡ follow_all ys p) →
    then_follow (follow_all xs) next ≡ Some p → then_follow (follow_all (xs ++ ys)) next ≡ follow_all ys p
then_append xs ys None p again e = absurd (cc)
then_append xs ys (Some o) p again e = guarded (few_open o) e
  where
    guarded : (b : Bool) → (if b then follow_all xs o else None) ≡ Some p →
        (if b then follow_all (xs ++ ys) o else None) ≡ follow_all ys p
    guarded true h = again o h
    guarded false h = absurd (cc)

pub follow_append : (xs ys : List Action) (o p : Opened) → follow_all xs o ≡ Some p →
    follow_all (xs ++ ys) o ≡ follow_all ys p
follow_append [] ys o p e = ap (follow_all ys) (some_same o p e)
follow_append (x ∷ xs) ys o p e = then_append xs ys (follow x o) p (λ q h. follow_append xs ys q p h) e

few : (o : Opened) → open_count o ≤ 200 → few_open o ≡ true
few o h = le-leb (open_count o) 200 h

-- one action, and those after it
pub follow_cons : (a : Action) (acts : List Action) (o p : Opened) → follow a o ≡ Some p → open_count p ≤ 200 →
    follow_all (a ∷ acts) o ≡ follow_all acts p
follow_cons a acts o p e small = rw (e, few p small) refl

pub follow_one : (a : Action) (o p : Opened) → follow a o ≡ Some p → open_count p ≤ 200 → follow_all (a ∷ []) o ≡ Some p
follow_one a o p e small = follow_cons a [] o p e small

-- Numbers in range.

var_numbered : (v : Var) → IsVariable most_names most_names v → is_var_numbered v ≡ true
var_numbered (var.Local j) h = lt-ltb j most_names h
var_numbered (var.External j) h = lt-ltb j most_names h

callee_numbered : (f : Callee) → IsCallable most_names f → is_callee_numbered f ≡ true
callee_numbered (callee.Function k) h = lt-ltb k most_names h
callee_numbered (callee.Intrinsic i) h = refl

same_itself : (v : Var) → same_var v v ≡ true
same_itself (var.Local j) = grind (arith, nat_tests)
same_itself (var.External j) = grind (arith, nat_tests)

-- Expressions.

-- the values of arguments, on what is open
abbrev pub pushed : Args → Opened → Opened
pushed NoMore o = o
pushed (Argument e rest) o = pushed rest (AValue (origin_of e) ∷ o)

call_ends : (args : Args) (o : Opened) → call_done (pushed args o) ≡ call_done o
call_ends NoMore o = refl
call_ends (Argument e rest) o = call_ends rest (AValue (origin_of e) ∷ o)

-- && and || are tested to be themselves
pub logic_itself : (o : Op) → is_logic o ≡ true → same_op o o ≡ true
logic_itself op.Or e = refl
logic_itself op.And e = refl
logic_itself o e = absurd (cc)

-- operators that are tested to be the same are
pub same_op_is : (o p : Op) → same_op o p ≡ true → o ≡ p
same_op_is op.Or op.Or h = refl
same_op_is op.And op.And h = refl
same_op_is op.BitOr op.BitOr h = refl
same_op_is op.BitXor op.BitXor h = refl
same_op_is op.BitAnd op.BitAnd h = refl
same_op_is op.Equal op.Equal h = refl
same_op_is op.NotEqual op.NotEqual h = refl
same_op_is op.Less op.Less h = refl
same_op_is op.Greater op.Greater h = refl
same_op_is op.LessOrEqual op.LessOrEqual h = refl
same_op_is op.GreaterOrEqual op.GreaterOrEqual h = refl
same_op_is op.ShiftLeft op.ShiftLeft h = refl
same_op_is op.ShiftRight op.ShiftRight h = refl
same_op_is op.Add op.Add h = refl
same_op_is op.Subtract op.Subtract h = refl
same_op_is op.Multiply op.Multiply h = refl
same_op_is op.Divide op.Divide h = refl
same_op_is op.Remainder op.Remainder h = refl
same_op_is o p h = absurd (cc)

-- the actions lead from what is open to this
pub record Leads (acts : List Action) (o p : Opened) : Type 0 where
  pub is : follow_all acts o ≡ Some p

pub chain : (xs ys : List Action) (o p q : Opened) → Leads xs o p → Leads ys p q → Leads (xs ++ ys) o q
chain xs ys o p q a b = record { is = follow_append xs ys o p a.is ∙ b.is }

pub act : (a : Action) (o p : Opened) → follow a o ≡ Some p → open_count p ≤ 200 → Leads (a ∷ []) o p
act a o p e small = record { is = follow_one a o p e small }

pub also : (a : Action) (acts : List Action) (o p q : Opened) → follow a o ≡ Some p → open_count p ≤ 200 →
    Leads acts p q → Leads (a ∷ acts) o q
also a acts o p q e small b = record { is = follow_cons a acts o p e small ∙ b.is }

-- after the sides of an operator
sides_lead : (op : Op) (logic : Bool) → is_logic op ≡ logic → (a b : Expr) (outer : Open) (o : Opened) →
    open_count (outer ∷ o) + right_side op ≤ 200 →
    Leads (expr_actions a) (outer ∷ o) (AValue (origin_of a) ∷ outer ∷ o) →
    ((inner : Open) (p : Opened) → open_count (inner ∷ p) ≤ open_count (outer ∷ o) + right_side op →
    Leads (expr_actions b) (inner ∷ p) (AValue (origin_of b) ∷ inner ∷ p)) →
    Leads (expr_actions a ++ (middle op ++ (expr_actions b ++ ApplyBinop op ∷ []))) (outer ∷ o)
    (AValue Computed ∷ outer ∷ o)
sides_lead op true logic a b outer o small left right =
    let side : right_side op ≡ 1 = rw logic refl in
    rw logic (chain (expr_actions a) _ _ _ _ left
    (also (LogicMiddle op) _ _ (BeforeRight op ∷ AValue (origin_of a) ∷ outer ∷ o) _ (rw logic refl)
    (omega (arith, side))
    (chain (expr_actions b) _ _ _ _ (right (BeforeRight op) (AValue (origin_of a) ∷ outer ∷ o) (omega (arith, side)))
    (act (ApplyBinop op) _ _ (rw (logic_itself op logic) refl) (omega arith)))))
sides_lead op false logic a b outer o small left right =
    rw logic (chain (expr_actions a) _ _ _ _ left
    (chain (expr_actions b) _ _ _ _ (right (AValue (origin_of a)) (outer ∷ o) (omega arith))
    (act (ApplyBinop op) _ _ (rw logic refl) (omega arith))))

mutual
  pub expr_leads : (e : Expr) (outer : Open) (o : Opened) → InExpr most_names most_names most_names e →
      open_count (outer ∷ o) + nesting e ≤ 200 →
      Leads (expr_actions e) (outer ∷ o) (AValue (origin_of e) ∷ outer ∷ o)
  expr_leads (Constant value) outer o h small = act (PushConstant value) _ _ refl (omega arith)
  expr_leads (Variable v) outer o h small = act (FetchVariable v) _ _ (rw (var_numbered v h) refl) (omega arith)
  expr_leads (Binary op a b) outer o h small =
      sides_lead op (is_logic op) refl a b outer o (omega arith) (expr_leads a outer o h.0 (omega arith))
      (λ inner p less. expr_leads b inner p h.1 (omega arith))
  expr_leads (Assign op v e) outer o h small =
      chain (expr_actions e) _ _ _ _ (expr_leads e outer o h.1 small)
      (act (StoreVariable v op) _ _ (rw (var_numbered v h.0) refl) (omega arith))
  expr_leads (Postfix op v) outer o h small =
      also (FetchVariable v) _ _ (AValue (Fetched v) ∷ outer ∷ o) _ (rw (var_numbered v h) refl) (omega arith)
      (also (PushConstant (pos 1)) _ _ (AValue (Number (pos 1)) ∷ AValue (Fetched v) ∷ outer ∷ o) _ refl (omega arith)
      (also (StoreVariable v op) _ _ (AValue (Incremented v) ∷ AValue (Fetched v) ∷ outer ∷ o) _
      (rw (var_numbered v h) refl) (omega arith)
      (act Chop _ _ (rw (same_itself v) refl) (omega arith))))
  expr_leads (Call f args) outer o h small =
      also BeginCall _ _ (InCall ∷ outer ∷ o) _ refl (omega arith)
      (chain (args_actions args) _ _ _ _ (args_lead args InCall (outer ∷ o) h.1 (omega arith))
      (act (EndCall f) _ _ (rw (callee_numbered f h.0) (call_ends args (InCall ∷ outer ∷ o))) (omega arith)))

  pub args_lead : (args : Args) (outer : Open) (o : Opened) → InArgs most_names most_names most_names args →
      open_count (outer ∷ o) + args_nesting args ≤ 200 →
      Leads (args_actions args) (outer ∷ o) (pushed args (outer ∷ o))
  args_lead NoMore outer o h small = record { is = refl }
  args_lead (Argument e rest) outer o h small =
      chain (expr_actions e) (args_actions rest) _ _ _ (expr_leads e outer o h.0 (omega arith))
      (args_lead rest (AValue (origin_of e)) (outer ∷ o) h.1 (omega arith))

-- Statements.

-- what is open after a statement, which is `return 0;` or not
abbrev pub settled : Bool → Opened → Opened
settled returned (InFunction parameters before ∷ o) = InFunction parameters returned ∷ o
settled returned o = o

pub done_settles : (returned : Bool) (o : Opened) → may_take_statement o ≡ true →
    statement_done returned o ≡ Some (settled returned o)
done_settles returned [] e = absurd (cc)
done_settles returned (InFunction parameters before ∷ o) e = refl
done_settles returned (InBranch ∷ o) e = refl
done_settles returned (InElse ∷ o) e = refl
done_settles returned (InLoopBody ∷ o) e = refl
done_settles returned (x ∷ o) e = absurd (cc)

pub settled_context : (returned : Bool) (o : Opened) → may_take_statement o ≡ true →
    may_take_statement (settled returned o) ≡ true
settled_context returned [] e = absurd (cc)
settled_context returned (InFunction parameters before ∷ o) e = refl
settled_context returned (x ∷ o) e = e

pub settled_count : (returned : Bool) (o : Opened) → open_count (settled returned o) ≡ open_count o
settled_count returned [] = refl
settled_count returned (InFunction parameters before ∷ o) = refl
settled_count returned (x ∷ o) = refl

-- what is open after statements
abbrev pub behind_body : Body → Opened → Opened
behind_body Done o = o
behind_body (ExpressionStatement e rest) o = behind_body rest (settled false o)
behind_body (IfStatement c s rest) o = behind_body rest (settled false o)
behind_body (IfElseStatement c s t rest) o = behind_body rest (settled false o)
behind_body (While c s rest) o = behind_body rest (settled false o)
behind_body (Return e rest) o = behind_body rest (settled (is_number 0 (origin_of e)) o)

-- an expression at a point at which a statement may come
value_leads : (e : Expr) (o : Opened) → may_take_statement o ≡ true → InExpr most_names most_names most_names e →
    open_count o + nesting e ≤ 200 →
    Leads (expr_actions e) o (AValue (origin_of e) ∷ o)
value_leads e [] context h small = absurd (cc)
value_leads e (outer ∷ o) context h small = expr_leads e outer o h small

pub chop_settles : (origin : ValueCategory) (o : Opened) → may_take_statement o ≡ true →
    follow Chop (AValue origin ∷ o) ≡ Some (settled false o)
chop_settles origin [] e = absurd (cc)
chop_settles origin (AValue below ∷ o) e = absurd (cc)
chop_settles origin (InFunction parameters before ∷ o) e = refl
chop_settles origin (InBranch ∷ o) e = refl
chop_settles origin (InElse ∷ o) e = refl
chop_settles origin (InLoopBody ∷ o) e = refl
chop_settles origin (x ∷ o) e = absurd (cc)

-- inside of a branch or a loop nothing is settled
pub inside : (b : Body) (x : Open) (o : Opened) → ((returned : Bool) → settled returned (x ∷ o) ≡ x ∷ o) →
    behind_body b (x ∷ o) ≡ x ∷ o
inside Done x o same = refl
inside (ExpressionStatement e rest) x o same = ap (behind_body rest) (same false) ∙ inside rest x o same
inside (IfStatement c s rest) x o same = ap (behind_body rest) (same false) ∙ inside rest x o same
inside (IfElseStatement c s t rest) x o same = ap (behind_body rest) (same false) ∙ inside rest x o same
inside (While c s rest) x o same = ap (behind_body rest) (same false) ∙ inside rest x o same
inside (Return e rest) x o same = ap (behind_body rest) (same (is_number 0 (origin_of e))) ∙ inside rest x o same

pub leads_to : (acts : List Action) (o p q : Opened) → p ≡ q → Leads acts o p → Leads acts o q
leads_to acts o p q e a = subst (λ (r : Opened). Leads acts o r) e a

pub body_leads : (b : Body) (o : Opened) → may_take_statement o ≡ true → InBody most_names most_names most_names b →
    open_count o + body_nesting b ≤ 200 →
    Leads (body_actions b) o (behind_body b o)
body_leads Done o context h small = record { is = refl }
body_leads (ExpressionStatement e rest) o context h small =
    chain (expr_actions e) _ _ _ _ (value_leads e o context h.0 (omega arith))
    (also Chop _ _ (settled false o) _ (chop_settles (origin_of e) o context) (omega (arith, settled_count false o))
    (body_leads rest (settled false o) (settled_context false o context) h.1 (omega (arith, settled_count false o))))
body_leads (IfStatement c s rest) o context h small =
    chain (expr_actions c) _ _ _ _ (value_leads c o context h.0 (omega arith))
    (also IfTest _ _ (InBranch ∷ o) _ (rw context refl) (omega arith)
    (chain (body_actions s) _ _ (InBranch ∷ o) _
    (leads_to _ _ _ _ (inside s InBranch o (λ returned. refl)) (body_leads s (InBranch ∷ o) refl h.1 (omega arith)))
    (also EndIf _ _ (settled false o) _ (done_settles false o context) (omega (arith, settled_count false o))
    (body_leads rest (settled false o) (settled_context false o context) h.2 (omega (arith, settled_count false o))))))
body_leads (IfElseStatement c s t rest) o context h small =
    chain (expr_actions c) _ _ _ _ (value_leads c o context h.0 (omega arith))
    (also IfTest _ _ (InBranch ∷ o) _ (rw context refl) (omega arith)
    (chain (body_actions s) _ _ (InBranch ∷ o) _
    (leads_to _ _ _ _ (inside s InBranch o (λ returned. refl)) (body_leads s (InBranch ∷ o) refl h.1 (omega arith)))
    (also ElsePart _ _ (InElse ∷ o) _ refl (omega arith)
    (chain (body_actions t) _ _ (InElse ∷ o) _
    (leads_to _ _ _ _ (inside t InElse o (λ returned. refl)) (body_leads t (InElse ∷ o) refl h.2 (omega arith)))
    (also EndIf _ _ (settled false o) _ (done_settles false o context) (omega (arith, settled_count false o))
    (body_leads rest (settled false o) (settled_context false o context) h.3
    (omega (arith, settled_count false o))))))))
body_leads (While c s rest) o context h small =
    also BeginWhile _ _ (BeforeTest ∷ o) _ (rw context refl) (omega arith)
    (chain (expr_actions c) _ _ _ _ (expr_leads c BeforeTest o h.0 (omega arith))
    (also WhileTest _ _ (InLoopBody ∷ o) _ refl (omega arith)
    (chain (body_actions s) _ _ (InLoopBody ∷ o) _
    (leads_to _ _ _ _ (inside s InLoopBody o (λ returned. refl)) (body_leads s (InLoopBody ∷ o) refl h.1 (omega arith)))
    (also EndWhile _ _ (settled false o) _ (done_settles false o context) (omega (arith, settled_count false o))
    (body_leads rest (settled false o) (settled_context false o context) h.2 (omega (arith, settled_count false o)))))))
body_leads (Return e rest) o context h small =
    chain (expr_actions e) _ _ _ _ (value_leads e o context h.0 (omega arith))
    (also GiveBack _ _ (settled (is_number 0 (origin_of e)) o) _ (done_settles (is_number 0 (origin_of e)) o context)
    (omega (arith, settled_count (is_number 0 (origin_of e)) o))
    (body_leads rest (settled (is_number 0 (origin_of e)) o) (settled_context (is_number 0 (origin_of e)) o context) h.1
    (omega (arith, settled_count (is_number 0 (origin_of e)) o))))

-- Functions.

-- statements of a function leave the function open
pub record KeepsFunction (behind : Opened) (parameters : ℕ) : Type 0 where
  pub returned : Bool
  pub is : behind ≡ InFunction parameters returned ∷ []

pub keeps_function : (b : Body) (parameters : ℕ) (before : Bool) →
    KeepsFunction (behind_body b (InFunction parameters before ∷ [])) parameters
keeps_function Done parameters before = record { returned = before; is = refl }
keeps_function (ExpressionStatement e rest) parameters before = keeps_function rest parameters false
keeps_function (IfStatement c s rest) parameters before = keeps_function rest parameters false
keeps_function (IfElseStatement c s t rest) parameters before = keeps_function rest parameters false
keeps_function (While c s rest) parameters before = keeps_function rest parameters false
keeps_function (Return e rest) parameters before = keeps_function rest parameters (is_number 0 (origin_of e))

pub function_begins : (number parameters : ℕ) → number < most_names → parameters ≤ most_names →
    follow (BeginFunction number parameters) [] ≡ Some (InFunction parameters false ∷ [])
function_begins number parameters h k = rw (lt-ltb number most_names h, le-leb parameters most_names k) refl

pub function_finishes : (parameters variables : ℕ) → parameters ≤ variables → variables ≤ most_names →
    follow (EndFunction variables) (InFunction parameters true ∷ []) ≡ Some []
function_finishes parameters variables h k = rw (le-leb parameters variables h, le-leb variables most_names k) refl

-- a function's actions, by its number, its parameters, its variables and its body
pub definition_leads : (number parameters variables : ℕ) (body : Body) → number < most_names → parameters ≤ variables →
    variables ≤ most_names → InBody most_names most_names most_names body → body_nesting body ≤ 200 →
    Leads (BeginFunction number parameters ∷ (body_actions body ++ (last_return ++ EndFunction variables ∷ []))) [] []
definition_leads number parameters variables body below within most h small =
    let k = keeps_function body parameters false in
    also (BeginFunction number parameters) _ _ (InFunction parameters false ∷ []) _
    (function_begins number parameters below (omega arith)) (omega arith)
    (chain (body_actions body) _ _ (InFunction parameters k.returned ∷ []) _
    (leads_to _ _ _ _ k.is (body_leads body (InFunction parameters false ∷ []) refl h (omega arith)))
    (also (PushConstant (pos 0)) _ _ (AValue (Number (pos 0)) ∷ InFunction parameters k.returned ∷ []) _ refl
    (omega arith)
    (also GiveBack _ _ (InFunction parameters true ∷ []) _ refl (omega arith)
    (act (EndFunction variables) _ _ (function_finishes parameters variables within most) (omega arith)))))

pub function_leads : (number : ℕ) (f : Function) → number < most_names → FitsFile most_names most_names f →
    body_nesting f.body ≤ 200 →
    Leads (function_actions number f) [] []
function_leads number f below h small =
    let within : InBody most_names most_names most_names f.body =
    body_wider most_names (length f.variables) most_names most_names most_names most_names
    (record { externals = omega arith; locals = h.variables; functions = omega arith }) f.body h.body in
    definition_leads number f.parameters (length f.variables) f.body below h.parameters h.variables within small

-- Files.

numbered_leads : (functions : List Function) (numbers : List ℕ) →
    ((k : ℕ) (f : Function) → slice_get functions k ≡ Some f →
    FitsFile most_names most_names f × (body_nesting f.body ≤ 200)) →
    ((k : ℕ) → IsAmong k numbers → k < most_names) → Leads (functions_actions functions numbers) [] []
numbered_leads functions [] each below = record { is = refl }
numbered_leads functions (k ∷ ks) each below =
    chain (numbered_actions k (slice_get functions k)) _ _ [] _ (one (slice_get functions k) refl)
    (numbered_leads functions ks each (λ j h. below j (inr h)))
  where
    one : (f : Option Function) → slice_get functions k ≡ f → Leads (numbered_actions k f) [] []
    one None e = record { is = refl }
    one (Some f) e =
        let h : FitsFile most_names most_names f × (body_nesting f.body ≤ 200) = each k f e in
        function_leads k f (below k (inl refl)) h.0 h.1

pub file_leads : EachFileFollows
file_leads file resolved nested = (numbered_leads file.functions file.order
    (λ k f e. (
      function_wider (length file.externals) (length file.functions) most_names most_names resolved.externals
          resolved.functions f
          (resolved.each k f e),
      nested k f e,
    ))
    (λ k h. let below : k < length file.functions = resolved.only k h in omega (arith, resolved.functions))).is
