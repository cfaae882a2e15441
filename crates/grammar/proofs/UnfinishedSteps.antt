-- What an action makes of functions that are not finished, if it may follow.
use Rattle.std.proofs.Common.{◌≡◌, ℕ, ◌+◌, ◌≤◌, [], ◌∷◌, ◌++◌, refl, sym, ap, ◌∙◌, Bool, true, false, arith, append_assoc}
use Rattle.std.proofs.lemmas.Bool.Decides.{nat_tests}
use Rattle.std.proofs.lemmas.List.{append-nil}
use Rattle.std.specs.Prelude.{ℤ, pos, negsuc, Option, Some, None, if◌then◌else◌}
use Rattle.grammar.specs.declared.resolved_names.Callee.{Callee}
use Rattle.grammar.specs.declared.resolved_names.Callee.TheVariants as callee
use Rattle.grammar.specs.declared.resolved_names.Var.{Var}
use Rattle.grammar.specs.declared.resolved_names.Var.TheVariants as var
use Rattle.arith.specs.declared.operators.Op.{Op}
use Rattle.grammar.specs.declared.operators.StoreOp.{StoreOp}
use Rattle.grammar.specs.declared.actions.Action.{Action}
use Rattle.grammar.specs.declared.actions.Action.TheVariants.{PushConstant, FetchVariable, StoreVariable, ApplyBinop}
use Rattle.grammar.specs.declared.actions.Action.TheVariants.{LogicMiddle, BeginCall, EndCall, IfTest, ElsePart, EndIf}
use Rattle.grammar.specs.declared.actions.Action.TheVariants.{BeginWhile, WhileTest, EndWhile, GiveBack, Chop}
use Rattle.grammar.specs.declared.actions.Action.TheVariants.{BeginFunction, EndFunction}
use Rattle.grammar.specs.Actions.{expr_actions, args_actions, body_actions}
use Rattle.grammar.specs.Following.{AValue, BeforeRight, InCall, InBranch, InElse, BeforeTest, Opened, ValueCategory, Number, Fetched, Incremented, Computed, open_count, may_take_statement, is_number, is_increment, is_var_numbered, is_callee_numbered, same_var, same_op, stored_origin, statement_done, call_done, only_on, opens_within, follow}
use Rattle.grammar.specs.Nesting.{args_nesting, right_side}
use Rattle.arith.specs.Op.{is_logic}
use Rattle.grammar.specs.Laws.Origins.{origin_of, ends_in_return}
use Rattle.grammar.specs.Resolved.{IsVariable, IsCallable, InArgs}
use Rattle.grammar.specs.Tree.{Expr, Constant, Variable, Binary, Assign, Postfix, Call, Args, NoMore, Argument, Body, Done, ExpressionStatement, IfStatement, IfElseStatement, While, Return}
use Rattle.grammar.specs.NameLimits.{most_names}
use Rattle.grammar.proofs.FollowingLaws.{same_op_is}
use Rattle.grammar.proofs.Indices.{some_same}
use Rattle.grammar.proofs.Unfinished.{Context, InFun, InFirst, InSecond, InLoop, Hole, Statement, Test, Behind, RightSide, Arguments, open_context, open_hole, context_actions, hole_actions, context_count, hole_count, BodyFits, ContextFits, HoleFits, add, add_actions, add_fits, add_opens, within_hole}

-- the action neither begins a function nor ends one
abbrev pub IsWithin : Action → Type 0
IsWithin (BeginFunction n k) = ⊥
IsWithin (EndFunction v) = ⊥
IsWithin a = Unit {0}

-- after the action the functions are so
pub record Steps (a : Action) (h : Hole) (q : Opened) : Type 0 where
  pub next : Hole
  pub opens : open_hole next ≡ q
  pub adds : hole_actions next ≡ hole_actions h ++ a ∷ []
  pub fits : HoleFits next

-- if a test passes
pub only_true : (b : Bool) (p q : Opened) → only_on b p ≡ Some q → (b ≡ true) × (p ≡ q)
only_true true p q e = (refl, some_same p q e)
only_true false p q e = absurd (cc)

pub if_true : (b : Bool) (o : Option Opened) (q : Opened) → (if b then o else None) ≡ Some q → (b ≡ true) × (o ≡ Some q)
if_true true o q e = (refl, e)
if_true false o q e = absurd (cc)

if_false : (b : Bool) (p q : Opened) → (if b then None else Some p) ≡ Some q → (b ≡ false) × (p ≡ q)
if_false true p q e = absurd (cc)
if_false false p q e = (refl, some_same p q e)

-- Numbers in range, and what is tested of values.

pub variable_in : (v : Var) → is_var_numbered v ≡ true → IsVariable most_names most_names v
variable_in (var.Local n) h = grind (arith, nat_tests)
variable_in (var.External n) h = grind (arith, nat_tests)

pub callee_in : (f : Callee) → is_callee_numbered f ≡ true → IsCallable most_names f
callee_in (callee.Function n) h = grind (arith, nat_tests)
callee_in (callee.Intrinsic i) h = tt

pub number_is : (n : ℕ) (e : Expr) → is_number n (origin_of e) ≡ true → e ≡ Constant (pos n)
number_is n (Constant (pos m)) h = ap (λ k. Constant (pos k)) (grind (arith, nat_tests, h))
number_is n (Constant (negsuc m)) h = absurd (cc)
number_is n (Variable v) h = absurd (cc)
number_is n (Binary op a b) h = absurd (cc)
number_is n (Assign op v e) h = split (is_number 1 (origin_of e)) h
  where
    split : (b : Bool) → is_number n (if b then Incremented v else Computed) ≡ true → Assign op v e ≡ Constant (pos n)
    split true k = absurd (cc)
    split false k = absurd (cc)
number_is n (Postfix op v) h = absurd (cc)
number_is n (Call f args) h = absurd (cc)

pub step_is : (v : Var) (o under : ValueCategory) → is_increment (stored_origin v o) under ≡ true →
    (is_number 1 o ≡ true) × (is_increment (Incremented v) under ≡ true)
step_is v o under h = split (is_number 1 o) h
  where
    split : (b : Bool) → is_increment (if b then Incremented v else Computed) under ≡ true →
        (b ≡ true) × (is_increment (Incremented v) under ≡ true)
    split true k = (refl, k)
    split false k = absurd (cc)

pub same_var_is : (v w : Var) → same_var v w ≡ true → v ≡ w
same_var_is (var.Local m) (var.Local n) h = ap var.Local (grind (arith, nat_tests, h))
same_var_is (var.External m) (var.External n) h = ap var.External (grind (arith, nat_tests, h))
same_var_is (var.Local m) (var.External n) h = absurd (cc)
same_var_is (var.External m) (var.Local n) h = absurd (cc)

pub fetched_is : (v : Var) (e : Expr) → is_increment (Incremented v) (origin_of e) ≡ true → e ≡ Variable v
fetched_is v (Constant n) h = absurd (cc)
fetched_is v (Variable w) h = ap Variable (sym (same_var_is v w h))
fetched_is v (Binary op a b) h = absurd (cc)
fetched_is v (Assign op w e) h = split (is_number 1 (origin_of e)) h
  where
    split : (b : Bool) → is_increment (Incremented v) (if b then Incremented w else Computed) ≡ true →
        Assign op w e ≡ Variable v
    split true k = absurd (cc)
    split false k = absurd (cc)
fetched_is v (Postfix op w) h = absurd (cc)
fetched_is v (Call f es) h = absurd (cc)

-- Values.

-- from each hole in which the action may come
abbrev CanStep : Action → Type 0
CanStep a =
    (h : Hole) (q : Opened) → HoleFits h → follow a (open_hole h) ≡ Some q → open_count q ≤ 200 → Steps a h q

push : (value : ℤ) → CanStep (PushConstant value)
push value h q fits e small =
    let is : AValue (Number value) ∷ open_hole h ≡ q =
    some_same _ q (sym (within_hole (AValue (Number value)) h) ∙ e) in
    record {
      next = Behind (Constant value) h;
      opens = is;
      adds = refl;
      fits = (fits, record { names = tt; few = omega (arith, small, ap open_count is) });
    }

fetch : (v : Var) → CanStep (FetchVariable v)
fetch v h q fits e small =
    let both = if_true (is_var_numbered v) (opens_within (AValue (Fetched v)) (open_hole h)) q e in
    let is : AValue (Fetched v) ∷ open_hole h ≡ q = some_same _ q (sym (within_hole (AValue (Fetched v)) h) ∙ both.1) in
    record {
      next = Behind (Variable v) h;
      opens = is;
      adds = refl;
      fits = (fits, record { names = variable_in v both.0; few = omega (arith, small, ap open_count is) });
    }

store : (v : Var) (op : StoreOp) (h : Hole) (q : Opened) → HoleFits h →
    follow (StoreVariable v op) (open_hole h) ≡ Some q → open_count q ≤ 200 → Steps (StoreVariable v op) h q
store v op (Behind x h) q fits e small =
    let both = only_true (is_var_numbered v) (AValue (stored_origin v (origin_of x)) ∷ open_hole h) q e in
    record {
      next = Behind (Assign op v x) h;
      opens = both.1;
      adds = sym (append_assoc (hole_actions h) (expr_actions x) (StoreVariable v op ∷ []));
      fits = (fits.0, record { names = (variable_in v both.0, fits.1.names); few = fits.1.few });
    }
store v op (Statement (InFun n k b)) q fits e small = absurd (cc)
store v op h q fits e small = absurd (cc)

binop : (op : Op) → CanStep (ApplyBinop op)
binop op (Behind r (Behind l h)) q fits e small =
    let both = if_false (is_logic op) (AValue Computed ∷ open_hole h) q e in
    let none : right_side op ≡ 0 = rw both.0 refl in
    record {
      next = Behind (Binary op l r) h;
      opens = both.1;
      adds = rw both.0 (simp append_assoc refl);
      fits = (
        fits.0.0,
        record { names = (fits.0.1.names, fits.1.names); few = omega (arith, fits.0.1.few, fits.1.few, none) },
      );
    }
binop op (Behind r (RightSide o l h)) q fits e small =
    let both = only_true (same_op op o) (AValue Computed ∷ open_hole h) q e in
    let same : op ≡ o = same_op_is op o both.0 in
    let logic : is_logic op ≡ true = ap is_logic same ∙ fits.0.2 in
    let one : right_side op ≡ 1 = rw logic refl in
    record {
      next = Behind (Binary op l r) h;
      opens = both.1;
      adds = rw (logic, sym same) (simp append_assoc refl);
      fits = (
        fits.0.0,
        record { names = (fits.0.1.names, fits.1.names); few = omega (arith, fits.0.1.few, fits.1.few, one) },
      );
    }
binop op (Behind r (Statement (InFun n k b))) q fits e small = absurd (cc)
binop op (Statement (InFun n k b)) q fits e small = absurd (cc)
binop op h q fits e small = absurd (cc)

logic_middle : (op : Op) → CanStep (LogicMiddle op)
logic_middle op (Behind l h) q fits e small =
    let both = only_true (is_logic op) (BeforeRight op ∷ AValue (origin_of l) ∷ open_hole h) q e in
    record {
      next = RightSide op l h;
      opens = both.1;
      adds = refl;
      fits = (fits.0, fits.1, both.0, omega (arith, small, ap open_count both.1));
    }
logic_middle op (Statement (InFun n k b)) q fits e small = absurd (cc)
logic_middle op h q fits e small = absurd (cc)

-- Calls.

begin_call : CanStep BeginCall
begin_call h q fits e small =
    let is : InCall ∷ open_hole h ≡ q = some_same _ q (sym (within_hole InCall h) ∙ e) in
    record { next = Arguments h; opens = is; adds = refl; fits = (fits, omega (arith, small, ap open_count is)) }

-- the arguments of the innermost call, with these after them
record Collected (h : Hole) (args : Args) (q : Opened) : Type 0 where
  outer : Hole
  all : Args
  opens : AValue Computed ∷ open_hole outer ≡ q
  adds : hole_actions outer ++ BeginCall ∷ args_actions all ≡ hole_actions h ++ args_actions args
  fits : HoleFits outer
  names : InArgs most_names most_names most_names all
  few : hole_count outer + (1 + args_nesting all) ≤ 200

collect : (h : Hole) (args : Args) (q : Opened) → HoleFits h → InArgs most_names most_names most_names args →
    hole_count h + args_nesting args ≤ 200 → call_done (open_hole h) ≡ Some q → Collected h args q
collect (Behind x h) args q fits names small e =
    let c : Collected h (Argument x args) q =
    collect h (Argument x args) q fits.0 (fits.1.names, names) (omega (arith, small, fits.1.few)) e in
    record {
      outer = c.outer;
      all = c.all;
      opens = c.opens;
      adds = c.adds ∙ sym (append_assoc (hole_actions h) (expr_actions x) (args_actions args));
      fits = c.fits;
      names = c.names;
      few = c.few;
    }
collect (Arguments h) args q fits names small e =
    record {
      outer = h;
      all = args;
      opens = some_same _ q e;
      adds = sym (append_assoc (hole_actions h) (BeginCall ∷ []) (args_actions args));
      fits = fits.0;
      names = names;
      few = omega (arith, small);
    }
collect (Statement (InFun n k b)) args q fits names small e = absurd (cc)
collect h args q fits names small e = absurd (cc)

end_call : (f : Callee) (h : Hole) (q : Opened) → HoleFits h → hole_count h ≤ 200 →
    follow (EndCall f) (open_hole h) ≡ Some q → open_count q ≤ 200 → Steps (EndCall f) h q
end_call f h q fits least e small =
    let both = if_true (is_callee_numbered f) (call_done (open_hole h)) q e in
    let c : Collected h NoMore q = collect h NoMore q fits tt (omega (arith, least)) both.1 in
    let few : hole_count c.outer + (1 + args_nesting c.all) ≤ 200 = c.few in
    record {
      next = Behind (Call f c.all) c.outer;
      opens = c.opens;
      adds = sym (append_assoc (hole_actions c.outer) (BeginCall ∷ args_actions c.all) (EndCall f ∷ [])) ∙
          ap (λ xs. xs ++ EndCall f ∷ []) (c.adds ∙ append-nil (hole_actions h));
      fits = (c.fits, record { names = (callee_in f both.0, c.names); few = few });
    }

-- Statements.

-- a statement more in a context
settled : (a : Action) (h : Hole) (p : Context) (s : Body) (r : Bool) (q : Opened) → ContextFits p →
    BodyFits (context_count p) s → ((before : Bool) → ends_in_return before s ≡ r) →
    statement_done r (open_context p) ≡ Some q → context_actions p ++ body_actions s ≡ hole_actions h ++ a ∷ [] →
    Steps a h q
settled a h p s r q fits more same e adds = record {
  next = Statement (add s p);
  opens = some_same _ q (sym (add_opens r s p same) ∙ e);
  adds = add_actions s p ∙ adds;
  fits = add_fits s p fits more;
}

if_test : CanStep IfTest
if_test (Behind c (Statement p)) q fits e small =
    let both = only_true (may_take_statement (open_context p)) (InBranch ∷ open_context p) q e in
    record {
      next = Statement (InFirst c Done p);
      opens = both.1;
      adds = sym (append_assoc (context_actions p) (expr_actions c) (IfTest ∷ []));
      fits = (fits.0, fits.1, record { names = tt; few = omega (arith, small, ap open_count both.1) });
    }
if_test (Statement (InFun n k b)) q fits e small = absurd (cc)
if_test h q fits e small = absurd (cc)

else_part : CanStep ElsePart
else_part (Statement (InFirst c s p)) q fits e small =
    let is : InElse ∷ open_context p ≡ q = some_same _ q e in
    record {
      next = Statement (InSecond c s Done p);
      opens = is;
      adds = simp append_assoc refl;
      fits = (fits.0, fits.1, fits.2, record { names = tt; few = omega (arith, small, ap open_count is) });
    }
else_part h q fits e small = absurd (cc)

end_if : CanStep EndIf
end_if (Statement (InFirst c s p)) q fits e small =
    settled EndIf (Statement (InFirst c s p)) p (IfStatement c s Done) false q fits.0
    (record { names = (fits.1.names, fits.2.names, tt); few = omega (arith, fits.1.few, fits.2.few) }) (λ before. refl)
    e (simp append_assoc refl)
end_if (Statement (InSecond c s t p)) q fits e small =
    settled EndIf (Statement (InSecond c s t p)) p (IfElseStatement c s t Done) false q fits.0
    (record {
      names = (fits.1.names, fits.2.names, fits.3.names, tt);
      few = omega (arith, fits.1.few, fits.2.few, fits.3.few);
    }) (λ before. refl) e (simp append_assoc refl)
end_if h q fits e small = absurd (cc)

begin_while : CanStep BeginWhile
begin_while (Statement p) q fits e small =
    let both = only_true (may_take_statement (open_context p)) (BeforeTest ∷ open_context p) q e in
    record { next = Test p; opens = both.1; adds = refl; fits = (fits, omega (arith, small, ap open_count both.1)) }
begin_while h q fits e small = absurd (cc)

while_test : CanStep WhileTest
while_test (Behind c (Test p)) q fits e small =
    record {
      next = Statement (InLoop c Done p);
      opens = some_same _ q e;
      adds = simp append_assoc refl;
      fits = (
        fits.0.0,
        record { names = fits.1.names; few = fits.1.few },
        record { names = tt; few = omega (arith, fits.1.few) },
      );
    }
while_test (Behind c (Statement (InFun n k b))) q fits e small = absurd (cc)
while_test (Statement (InFun n k b)) q fits e small = absurd (cc)
while_test h q fits e small = absurd (cc)

end_while : CanStep EndWhile
end_while (Statement (InLoop c s p)) q fits e small =
    settled EndWhile (Statement (InLoop c s p)) p (While c s Done) false q fits.0
    (record { names = (fits.1.names, fits.2.names, tt); few = omega (arith, fits.1.few, fits.2.few) }) (λ before. refl)
    e (simp append_assoc refl)
end_while h q fits e small = absurd (cc)

give_back : CanStep GiveBack
give_back (Behind x (Statement p)) q fits e small =
    settled GiveBack (Behind x (Statement p)) p (Return x Done) (is_number 0 (origin_of x)) q fits.0
    (record { names = (fits.1.names, tt); few = omega (arith, fits.1.few) }) (λ before. refl) e
    (sym (append_assoc (context_actions p) (expr_actions x) (GiveBack ∷ [])))
give_back (Statement (InFun n k b)) q fits e small = absurd (cc)
give_back h q fits e small = absurd (cc)

chop_context : (o : ValueCategory) (p : Context) →
    follow Chop (AValue o ∷ open_context p) ≡ statement_done false (open_context p)
chop_context o (InFun n k b) = refl
chop_context o (InFirst c b outer) = refl
chop_context o (InSecond c s b outer) = refl
chop_context o (InLoop c b outer) = refl

-- at the end of v++ and v-- a value over another is dropped
chop_step : (x y : Expr) (h : Hole) (q : Opened) → HoleFits (Behind x (Behind y h)) →
    follow Chop (open_hole (Behind x (Behind y h))) ≡ Some q → open_count q ≤ 200 → Steps Chop (Behind x (Behind y h)) q
chop_step (Assign op v e) y h q fits is small =
    let both =
    only_true (is_increment (stored_origin v (origin_of e)) (origin_of y)) (AValue Computed ∷ open_hole h) q is in
    let parts = step_is v (origin_of e) (origin_of y) both.0 in
    let one : e ≡ Constant (pos 1) = number_is 1 e parts.0 in
    let old : y ≡ Variable v = fetched_is v y parts.1 in
    record {
      next = Behind (Postfix op v) h;
      opens = both.1;
      adds = rw (one, old) (simp append_assoc refl);
      fits = (fits.0.0, record { names = fits.1.names.0; few = omega (arith, small, ap open_count both.1) });
    }
chop_step (Constant n) y h q fits is small = absurd (cc)
chop_step (Variable v) y h q fits is small = absurd (cc)
chop_step (Binary op a b) y h q fits is small = absurd (cc)
chop_step (Postfix op v) y h q fits is small = absurd (cc)
chop_step (Call f args) y h q fits is small = absurd (cc)

chop : CanStep Chop
chop (Behind x (Statement p)) q fits e small =
    settled Chop (Behind x (Statement p)) p (ExpressionStatement x Done) false q fits.0
    (record { names = (fits.1.names, tt); few = omega (arith, fits.1.few) }) (λ before. refl)
    (sym (chop_context (origin_of x) p) ∙ e)
    (sym (append_assoc (context_actions p) (expr_actions x) (Chop ∷ [])))
chop (Behind x (Behind y h)) q fits e small = chop_step x y h q fits e small
chop (Statement (InFun n k b)) q fits e small = absurd (cc)
chop h q fits e small = absurd (cc)

-- Any action within a function that doesn't end it.
pub step : (a : Action) (h : Hole) (q : Opened) → HoleFits h → hole_count h ≤ 200 → follow a (open_hole h) ≡ Some q →
    open_count q ≤ 200 → IsWithin a → Steps a h q
step (PushConstant value) h q fits least e small w = push value h q fits e small
step (FetchVariable v) h q fits least e small w = fetch v h q fits e small
step (StoreVariable v op) h q fits least e small w = store v op h q fits e small
step (ApplyBinop op) h q fits least e small w = binop op h q fits e small
step (LogicMiddle op) h q fits least e small w = logic_middle op h q fits e small
step BeginCall h q fits least e small w = begin_call h q fits e small
step (EndCall f) h q fits least e small w = end_call f h q fits least e small
step IfTest h q fits least e small w = if_test h q fits e small
step ElsePart h q fits least e small w = else_part h q fits e small
step EndIf h q fits least e small w = end_if h q fits e small
step BeginWhile h q fits least e small w = begin_while h q fits e small
step WhileTest h q fits least e small w = while_test h q fits e small
step EndWhile h q fits least e small w = end_while h q fits e small
step GiveBack h q fits least e small w = give_back h q fits e small
step Chop h q fits least e small w = chop h q fits e small
step (BeginFunction n k) h q fits least e small w = absurd w
step (EndFunction v) h q fits least e small w = absurd w
