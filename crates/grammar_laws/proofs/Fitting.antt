-- Trees made of trees within the limits, and their actions.
use Rattle.std.proofs.Common.{◌≡◌, ℕ, ◌+◌, ◌≤◌, ◌++◌, refl, sym, ap, ◌∙◌, Bool, true, false, arith, append_assoc, subst}
use Rattle.std.proofs.Common.{append-nil}
use Rattle.std.proofs.lemmas.Bool.Decides.{nat_tests}
use Rattle.std.specs.Prelude.{ℤ, ◌-◌, ◌==◌, Option, Some, None, if◌then◌else◌, nat_le}
use Rattle.tokens.specs.declared.located_tokens.Punctuator.{Punctuator}
use Rattle.tokens.specs.declared.located_tokens.Punctuator.TheVariants as punctuator
use Rattle.tokens.specs.declared.located_tokens.Token.TheVariants as token
use Rattle.grammar.specs.declared.resolved_names.Callee.{Callee}
use Rattle.grammar.specs.declared.resolved_names.Var.{Var}
use Rattle.grammar.specs.declared.operators.BinaryOperator.{BinaryOperator}
use Rattle.arith.specs.declared.operators.Op.{Op}
use Rattle.grammar.specs.declared.operators.StoreOp.{StoreOp}
use Rattle.grammar.specs.Actions.{expr_actions, args_actions}
use Rattle.grammar.specs.NameLimits.{most_names}
use Rattle.grammar.specs.Nesting.{nesting, args_nesting, body_nesting, right_side}
use Rattle.arith.specs.Op.{is_logic}
use Rattle.grammar.specs.Operators.{binary_of, if_at, operator_at}
use Rattle.grammar.specs.Resolved.{IsVariable, IsCallable, InArgs, InExpr}
use Rattle.grammar.specs.Tree as tree
use Rattle.grammar.specs.Tree.{Expr, Args, Body, add_argument, join}
use Rattle.grammar.proofs.Soundness.{join_in}
use Rattle.grammar_laws.proofs.Reporting.{ExprFits, ArgsFit, BodyFits}

-- Expressions.

pub constant_fits : (A : Type 0) (room : ℕ) (value : ℤ) → ExprFits A room (tree.Constant value)
constant_fits A room value = record { names = λ a. tt; few = λ a. omega arith }

pub variable_fits : (A : Type 0) (room : ℕ) (v : Var) → (A → IsVariable most_names most_names v) →
    ExprFits A room (tree.Variable v)
variable_fits A room v h = record { names = h; few = λ a. omega arith }

pub postfix_fits : (A : Type 0) (room : ℕ) (o : StoreOp) (v : Var) → (A → IsVariable most_names most_names v) →
    ExprFits A room (tree.Postfix o v)
postfix_fits A room o v h = record { names = h; few = λ a. omega arith }

pub expr_wider : (A : Type 0) (small room : ℕ) (e : Expr) → (A → small ≤ room) → ExprFits A small e → ExprFits A room e
expr_wider A small room e less f = record { names = f.names; few = λ a. omega (arith, less a, f.few a) }

pub assign_fits : (A : Type 0) (small room : ℕ) (o : StoreOp) (v : Var) (e : Expr) → (A → small ≤ room) →
    (A → IsVariable most_names most_names v) → ExprFits A small e → ExprFits A room (tree.Assign o v e)
assign_fits A small room o v e less h f = record {
  names = λ a. (h a, f.names a);
  few =
      λ a. omega (arith, less a, f.few a);
}

pub binary_fits : (A : Type 0) (left right room : ℕ) (o : Op) (a b : Expr) → (A → left ≤ room) →
    (A → right_side o + right ≤ room) → ExprFits A left a → ExprFits A right b → ExprFits A room (tree.Binary o a b)
binary_fits A left right room o a b less few f g =
    record { names = λ x. (f.names x, g.names x); few = λ x. omega (arith, less x, few x, f.few x, g.few x) }

pub call_fits : (A : Type 0) (small room : ℕ) (f : Callee) (args : Args) → (A → 1 + small ≤ room) →
    (A → IsCallable most_names f) → ArgsFit A small args → ExprFits A room (tree.Call f args)
call_fits A small room f args less h g = record {
  names = λ a. (h a, g.names a);
  few =
      λ a. omega (arith, less a, g.few a);
}

-- Arguments.

pub no_args_fit : (A : Type 0) (room : ℕ) → ArgsFit A room tree.NoMore
no_args_fit A room = record { names = λ a. tt; few = λ a. omega arith }

argument_in : (args : Args) (e : Expr) → InArgs most_names most_names most_names args →
    InExpr most_names most_names most_names e →
    InArgs most_names most_names most_names (add_argument args e)
argument_in tree.NoMore e h k = (k, tt)
argument_in (tree.Argument a rest) e h k = (h.0, argument_in rest e h.1 k)

argument_few : (room : ℕ) (args : Args) (e : Expr) → args_nesting args ≤ room → nesting e ≤ room →
    args_nesting (add_argument args e) ≤ room
argument_few room tree.NoMore e h k = omega (arith, h, k)
argument_few room (tree.Argument a rest) e h k = let more : args_nesting (add_argument rest e) ≤ room =
    argument_few room rest e (omega (arith, h)) k in omega (arith, h, more)

pub argument_fits : (A : Type 0) (room : ℕ) (args : Args) (e : Expr) → ArgsFit A room args → ExprFits A room e →
    ArgsFit A room (add_argument args e)
argument_fits A room args e f g = record {
  names = λ a. argument_in args e (f.names a) (g.names a);
  few =
      λ a. argument_few room args e (f.few a) (g.few a);
}

pub argument_actions : (args : Args) (e : Expr) → args_actions (add_argument args e)
    ≡ args_actions args ++ expr_actions e
argument_actions tree.NoMore e = append-nil (expr_actions e)
argument_actions (tree.Argument a rest) e = ap (λ acts. expr_actions a ++ acts) (argument_actions rest e)
    ∙ sym (append_assoc (expr_actions a) (args_actions rest) (expr_actions e))

-- Bodies.

pub done_fits : (A : Type 0) (room : ℕ) → BodyFits A room tree.Done
done_fits A room = record { names = λ a. tt; few = λ a. omega arith }

join_few : (room : ℕ) (b s : Body) → body_nesting b ≤ room → body_nesting s ≤ room → body_nesting (join b s) ≤ room
join_few room tree.Done s h k = k
join_few room (tree.ExpressionStatement e rest) s h k = let more : body_nesting (join rest s) ≤ room =
    join_few room rest s (omega (arith, h)) k in omega (arith, h, more)
join_few room (tree.IfStatement c t rest) s h k = let more : body_nesting (join rest s) ≤ room =
    join_few room rest s (omega (arith, h)) k in omega (arith, h, more)
join_few room (tree.IfElseStatement c t u rest) s h k = let more : body_nesting (join rest s) ≤ room =
    join_few room rest s (omega (arith, h)) k in omega (arith, h, more)
join_few room (tree.While c t rest) s h k = let more : body_nesting (join rest s) ≤ room =
    join_few room rest s (omega (arith, h)) k in omega (arith, h, more)
join_few room (tree.Return e rest) s h k = let more : body_nesting (join rest s) ≤ room =
    join_few room rest s (omega (arith, h)) k in omega (arith, h, more)

pub join_fits : (A : Type 0) (room : ℕ) (b s : Body) → BodyFits A room b → BodyFits A room s →
    BodyFits A room (join b s)
join_fits A room b s f g = record {
  names = λ a. join_in most_names most_names most_names b s (f.names a) (g.names a);
  few =
      λ a. join_few room b s (f.few a) (g.few a);
}

pub statement_fits : (A : Type 0) (small room : ℕ) (e : Expr) → (A → small ≤ room) → ExprFits A small e →
    BodyFits A room (tree.ExpressionStatement e tree.Done)
statement_fits A small room e less f =
    record { names = λ a. (f.names a, tt); few = λ a. omega (arith, less a, f.few a) }

pub return_fits : (A : Type 0) (small room : ℕ) (e : Expr) → (A → small ≤ room) → ExprFits A small e →
    BodyFits A room (tree.Return e tree.Done)
return_fits A small room e less f = record { names = λ a. (f.names a, tt); few = λ a. omega (arith, less a, f.few a) }

pub if_fits : (A : Type 0) (small room : ℕ) (c : Expr) (s : Body) → (A → small + 1 ≤ room) → ExprFits A small c →
    BodyFits A small s → BodyFits A room (tree.IfStatement c s tree.Done)
if_fits A small room c s less f g =
    record { names = λ a. (f.names a, g.names a, tt); few = λ a. omega (arith, less a, f.few a, g.few a) }

pub if_else_fits : (A : Type 0) (small room : ℕ) (c : Expr) (s t : Body) → (A → small + 1 ≤ room) → ExprFits A small c →
    BodyFits A small s → BodyFits A small t → BodyFits A room (tree.IfElseStatement c s t tree.Done)
if_else_fits A small room c s t less f g h = record
    { names = λ a. (f.names a, g.names a, h.names a, tt); few = λ a. omega (arith, less a, f.few a, g.few a, h.few a) }

pub while_fits : (A : Type 0) (small room : ℕ) (c : Expr) (s : Body) → (A → small + 1 ≤ room) → ExprFits A small c →
    BodyFits A small s → BodyFits A room (tree.While c s tree.Done)
while_fits A small room c s less f g =
    record { names = λ a. (f.names a, g.names a, tt); few = λ a. omega (arith, less a, f.few a, g.few a) }

-- The two operators with a right side are of the levels 1 and 2.

abbrev is_low : Option BinaryOperator → Bool
is_low None = true
is_low (Some b) = if is_logic b.op then nat_le b.level 2 else true

all_low : (m : Punctuator) → is_low (binary_of m) ≡ true
all_low punctuator.OrOr = refl
all_low m = refl

low_level : (n : ℕ) (o : Op) (found : Option BinaryOperator) → is_low found ≡ true → if_at n found ≡ Some o →
    is_logic o ≡ true → n ≤ 2
low_level n o None h e l = absurd (cc)
low_level n o (Some b) h e l = by (b.level == n) refl e
  where
    by : (same : Bool) → (b.level == n) ≡ same → (if same then Some b.op else None) ≡ Some o → n ≤ 2
    by true is e =
        let logic : is_logic b.op ≡ true = let same : b.op ≡ o = cc in ap is_logic same ∙ l in
        let low : nat_le b.level 2 ≡ true =
        subst (λ (test : Bool). (if test then nat_le b.level 2 else true) ≡ true) logic h in
        grind (arith, nat_tests)
    by false is e = absurd (cc)

-- so a right side has room within its level
pub side_fits : (room n : ℕ) (m : Punctuator) (o : Op) → operator_at n (token.Punctuator m) ≡ Some o →
    right_side o + (room + (3 - (n + 1))) ≤ room + (3 - n)
side_fits room n m o e = by (is_logic o) refl
  where
    by : (b : Bool) → is_logic o ≡ b → (if b then 1 else 0) + (room + (3 - (n + 1))) ≤ room + (3 - n)
    by true l = let low : n ≤ 2 = low_level n o (binary_of m) (all_low m) e l in omega (arith, low)
    by false l = omega arith
