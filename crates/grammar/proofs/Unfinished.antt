-- Functions that are not finished: what a list of actions makes that may still go on.
use Rattle.std.proofs.Common.{◌≡◌, ℕ, ◌+◌, ◌<◌, ◌≤◌, List, [], ◌∷◌, ◌++◌, refl, Bool, true, false, arith, append_assoc}
use Rattle.std.specs.Prelude.{Some}
use Rattle.arith.specs.declared.operators.Op.{Op}
use Rattle.grammar.specs.declared.actions.Action.{Action}
use Rattle.grammar.specs.declared.actions.Action.TheVariants.{LogicMiddle, BeginCall, IfTest, ElsePart, BeginWhile}
use Rattle.grammar.specs.declared.actions.Action.TheVariants.{WhileTest, BeginFunction}
use Rattle.grammar.specs.Actions.{expr_actions, body_actions}
use Rattle.grammar.specs.Following.{InFunction, AValue, BeforeRight, InCall, InBranch, InElse, BeforeTest, InLoopBody, Open, Opened, open_count, is_number, statement_done, opens_within}
use Rattle.grammar.specs.Nesting.{nesting, body_nesting}
use Rattle.arith.specs.Op.{is_logic}
use Rattle.grammar.specs.Laws.Origins.{origin_of, ends_in_return}
use Rattle.grammar.specs.Resolved.{InExpr, InBody}
use Rattle.grammar.specs.Tree.{Expr, Body, Done, ExpressionStatement, IfStatement, IfElseStatement, While, Return, join}
use Rattle.grammar.specs.NameLimits.{most_names}
use Rattle.grammar.proofs.Soundness.{join_in}

-- a body whose statements are not all there, with what is around it
pub data Context : Type 0 where
  InFun : (number parameters : ℕ) (b : Body) → Context
  InFirst : (c : Expr) (b : Body) (outer : Context) → Context
  InSecond : (c : Expr) (s b : Body) (outer : Context) → Context
  InLoop : (c : Expr) (b : Body) (outer : Context) → Context

-- where a value may come
pub data Hole : Type 0 where
  Statement : (p : Context) → Hole
  Test : (p : Context) → Hole  -- the condition of a while
  Behind : (e : Expr) (h : Hole) → Hole  -- a value that is still to be used
  RightSide : (op : Op) (e : Expr) (h : Hole) → Hole  -- the right side of && or ||, after its left side
  Arguments : (h : Hole) → Hole

abbrev pub open_context : Context → Opened
open_context (InFun n k b) = InFunction k (ends_in_return false b) ∷ []
open_context (InFirst c b outer) = InBranch ∷ open_context outer
open_context (InSecond c s b outer) = InElse ∷ open_context outer
open_context (InLoop c b outer) = InLoopBody ∷ open_context outer

abbrev pub open_hole : Hole → Opened
open_hole (Statement p) = open_context p
open_hole (Test p) = BeforeTest ∷ open_context p
open_hole (Behind e h) = AValue (origin_of e) ∷ open_hole h
open_hole (RightSide op e h) = BeforeRight op ∷ AValue (origin_of e) ∷ open_hole h
open_hole (Arguments h) = InCall ∷ open_hole h

abbrev pub context_actions : Context → List Action
context_actions (InFun n k b) = BeginFunction n k ∷ body_actions b
context_actions (InFirst c b outer) = context_actions outer ++ (expr_actions c ++ IfTest ∷ body_actions b)
context_actions (InSecond c s b outer) =
    context_actions outer ++ (expr_actions c ++ IfTest ∷ (body_actions s ++ ElsePart ∷ body_actions b))
context_actions (InLoop c b outer) =
    context_actions outer ++ BeginWhile ∷ (expr_actions c ++ WhileTest ∷ body_actions b)

abbrev pub hole_actions : Hole → List Action
hole_actions (Statement p) = context_actions p
hole_actions (Test p) = context_actions p ++ BeginWhile ∷ []
hole_actions (Behind e h) = hole_actions h ++ expr_actions e
hole_actions (RightSide op e h) = (hole_actions h ++ expr_actions e) ++ LogicMiddle op ∷ []
hole_actions (Arguments h) = hole_actions h ++ BeginCall ∷ []

abbrev pub context_count : Context → ℕ
context_count p = open_count (open_context p)

abbrev pub hole_count : Hole → ℕ
hole_count h = open_count (open_hole h)

-- Numbers of names, and little enough open.

pub record ExprFits (n : ℕ) (e : Expr) : Type 0 where
  pub names : InExpr most_names most_names most_names e
  pub few : n + nesting e ≤ 200

pub record BodyFits (n : ℕ) (b : Body) : Type 0 where
  pub names : InBody most_names most_names most_names b
  pub few : n + body_nesting b ≤ 200

abbrev pub ContextFits : Context → Type 0
ContextFits (InFun n k b) = (n < most_names) × (k ≤ most_names) × BodyFits 0 b
ContextFits (InFirst c b outer) =
    ContextFits outer × ExprFits (context_count outer) c × BodyFits (1 + context_count outer) b
ContextFits (InSecond c s b outer) =
    ContextFits outer × ExprFits (context_count outer) c × BodyFits (1 + context_count outer) s ×
    BodyFits (1 + context_count outer) b
ContextFits (InLoop c b outer) =
    ContextFits outer × ExprFits (1 + context_count outer) c × BodyFits (1 + context_count outer) b

abbrev pub HoleFits : Hole → Type 0
HoleFits (Statement p) = ContextFits p
HoleFits (Test p) = ContextFits p × (1 + context_count p ≤ 200)
HoleFits (Behind e h) = HoleFits h × ExprFits (hole_count h) e
HoleFits (RightSide op e h) = HoleFits h × ExprFits (hole_count h) e × (is_logic op ≡ true) × (1 + hole_count h ≤ 200)
HoleFits (Arguments h) = HoleFits h × (1 + hole_count h ≤ 200)

-- Statements one after another.

pub body_actions-join : (b s : Body) → body_actions (join b s) ≡ body_actions b ++ body_actions s
body_actions-join Done s = refl
body_actions-join (ExpressionStatement e rest) s = rw (body_actions-join rest s) (simp append_assoc refl)
body_actions-join (IfStatement c t rest) s = rw (body_actions-join rest s) (simp append_assoc refl)
body_actions-join (IfElseStatement c t u rest) s = rw (body_actions-join rest s) (simp append_assoc refl)
body_actions-join (While c t rest) s = rw (body_actions-join rest s) (simp append_assoc refl)
body_actions-join (Return e rest) s = rw (body_actions-join rest s) (simp append_assoc refl)

ends_in_return-join : (before : Bool) (b s : Body) →
    ends_in_return before (join b s) ≡ ends_in_return (ends_in_return before b) s
ends_in_return-join before Done s = refl
ends_in_return-join before (ExpressionStatement e rest) s = ends_in_return-join false rest s
ends_in_return-join before (IfStatement c t rest) s = ends_in_return-join false rest s
ends_in_return-join before (IfElseStatement c t u rest) s = ends_in_return-join false rest s
ends_in_return-join before (While c t rest) s = ends_in_return-join false rest s
ends_in_return-join before (Return e rest) s = ends_in_return-join (is_number 0 (origin_of e)) rest s

nesting-join : (n : ℕ) (b s : Body) → n + body_nesting b ≤ 200 → n + body_nesting s ≤ 200 →
    n + body_nesting (join b s) ≤ 200
nesting-join n Done s h k = k
nesting-join n (ExpressionStatement e rest) s h k =
    let more = nesting-join n rest s (omega (arith, h)) k in omega (arith, h, more)
nesting-join n (IfStatement c t rest) s h k =
    let more = nesting-join n rest s (omega (arith, h)) k in omega (arith, h, more)
nesting-join n (IfElseStatement c t u rest) s h k =
    let more = nesting-join n rest s (omega (arith, h)) k in omega (arith, h, more)
nesting-join n (While c t rest) s h k = let more = nesting-join n rest s (omega (arith, h)) k in omega (arith, h, more)
nesting-join n (Return e rest) s h k = let more = nesting-join n rest s (omega (arith, h)) k in omega (arith, h, more)

pub fits-join : (n : ℕ) (b s : Body) → BodyFits n b → BodyFits n s → BodyFits n (join b s)
fits-join n b s f g =
    record
    { names = join_in most_names most_names most_names b s f.names g.names; few = nesting-join n b s f.few g.few }

-- A statement more.

abbrev pub add : Body → Context → Context
add s (InFun n k b) = InFun n k (join b s)
add s (InFirst c b outer) = InFirst c (join b s) outer
add s (InSecond c t b outer) = InSecond c t (join b s) outer
add s (InLoop c b outer) = InLoop c (join b s) outer

pub add_actions : (s : Body) (p : Context) → context_actions (add s p) ≡ context_actions p ++ body_actions s
add_actions s (InFun n k b) = rw (body_actions-join b s) refl
add_actions s (InFirst c b outer) = rw (body_actions-join b s) (simp append_assoc refl)
add_actions s (InSecond c t b outer) = rw (body_actions-join b s) (simp append_assoc refl)
add_actions s (InLoop c b outer) = rw (body_actions-join b s) (simp append_assoc refl)

pub add_fits : (s : Body) (p : Context) → ContextFits p → BodyFits (context_count p) s → ContextFits (add s p)
add_fits s (InFun n k b) f g = (f.0, f.1, fits-join 0 b s f.2 g)
add_fits s (InFirst c b outer) f g = (f.0, f.1, fits-join (1 + context_count outer) b s f.2 g)
add_fits s (InSecond c t b outer) f g = (f.0, f.1, f.2, fits-join (1 + context_count outer) b s f.3 g)
add_fits s (InLoop c b outer) f g = (f.0, f.1, fits-join (1 + context_count outer) b s f.2 g)

pub add_opens : (r : Bool) (s : Body) (p : Context) → ((before : Bool) → ends_in_return before s ≡ r) →
    statement_done r (open_context p) ≡ Some (open_context (add s p))
add_opens r s (InFun n k b) h = rw (ends_in_return-join false b s, h (ends_in_return false b)) refl
add_opens r s (InFirst c b outer) h = refl
add_opens r s (InSecond c t b outer) h = refl
add_opens r s (InLoop c b outer) h = refl

-- What is at the innermost.

pub within_hole : (x : Open) (h : Hole) → opens_within x (open_hole h) ≡ Some (x ∷ open_hole h)
within_hole x (Statement (InFun n k b)) = refl
within_hole x (Statement (InFirst c b outer)) = refl
within_hole x (Statement (InSecond c s b outer)) = refl
within_hole x (Statement (InLoop c b outer)) = refl
within_hole x (Test p) = refl
within_hole x (Behind e h) = refl
within_hole x (RightSide op e h) = refl
within_hole x (Arguments h) = refl
