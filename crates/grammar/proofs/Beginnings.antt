-- Each action of a list may follow those before it exactly if the list is a beginning of some functions' actions.
use Rattle.std.proofs.Common.{◌≡◌, ℕ, ◌+◌, ◌<◌, ◌≤◌, List, [], ◌∷◌, ◌++◌, refl, sym, ap, ◌∙◌, subst, Bool, true, false, arith, append_assoc, inl, inr, ◌⊎◌, length}
use Rattle.std.proofs.lemmas.Bool.Decides.{nat_tests}
use Rattle.std.proofs.lemmas.List.{append-nil, length-replicate}
use Rattle.std.specs.Prelude.{pos, ◌&&◌, Option, Some, None, IsTrue, is_some, if◌then◌else◌, nat_lt, nat_le, replicate}
use Rattle.grammar.specs.declared.resolved_names.Callee.TheVariants as callee
use Rattle.arith.specs.declared.operators.Op.TheVariants as op
use Rattle.grammar.specs.declared.actions.Action.{Action}
use Rattle.grammar.specs.declared.actions.Action.TheVariants.{PushConstant, FetchVariable, ApplyBinop}
use Rattle.grammar.specs.declared.actions.Action.TheVariants.{EndCall, EndIf}
use Rattle.grammar.specs.declared.actions.Action.TheVariants.{WhileTest, EndWhile, Chop}
use Rattle.grammar.specs.declared.actions.Action.TheVariants.{BeginFunction, EndFunction}
use Rattle.grammar.specs.Actions.{expr_actions, body_actions, function_actions, last_return}
use Rattle.grammar.specs.Beginning.{IsReportable, AreReportable, IsBeginning}
use Rattle.grammar.specs.Derivation.{Definition}
use Rattle.grammar.specs.Beginning.{definitions_actions}
use Rattle.grammar.specs.Following.{InFunction, Opened, open_count, few_open, follow, follow_all, then_follow, is_number, is_var_numbered, is_callee_numbered, only_on}
use Rattle.grammar.specs.Nesting.{body_nesting, right_side}
use Rattle.grammar.specs.Laws.Origins.{origin_of, ends_in_return}
use Rattle.grammar.specs.Resolved.{InBody}
use Rattle.grammar.specs.Tree.{Expr, Constant, Binary, Call, NoMore, Argument, Body, Done, ExpressionStatement, IfStatement, IfElseStatement, While, Return, join}
use Rattle.grammar.specs.NameLimits.{most_names}
use Rattle.grammar.proofs.FollowingLaws.{Leads, chain, definition_leads}
use Rattle.grammar.proofs.Unfinished.{Context, InFun, InFirst, InSecond, InLoop, Hole, Statement, Test, Behind, RightSide, Arguments, open_hole, context_actions, hole_actions, context_count, hole_count, ExprFits, BodyFits, ContextFits, HoleFits, fits-join, body_actions-join}
use Rattle.grammar.proofs.UnfinishedSteps.{IsWithin, Steps, number_is, step}

-- What begins actions that may follow may follow.

front_if : (b : Bool) (whole front : Option Opened) → (IsTrue (is_some whole) → IsTrue (is_some front)) →
    IsTrue (is_some (if b then whole else None)) → IsTrue (is_some (if b then front else None))
front_if true whole front again h = again h
front_if false whole front again h = h

front_then : (xs ys : List Action) (next : Option Opened) →
    ((p : Opened) → IsTrue (is_some (follow_all (xs ++ ys) p)) → IsTrue (is_some (follow_all xs p))) →
    IsTrue (is_some (then_follow (follow_all (xs ++ ys)) next)) → IsTrue (is_some (then_follow (follow_all xs) next))
front_then xs ys None again h = h
front_then xs ys (Some p) again h = front_if (few_open p) (follow_all (xs ++ ys) p) (follow_all xs p) (again p) h

front_follows : (xs ys : List Action) (o : Opened) → IsTrue (is_some (follow_all (xs ++ ys) o)) →
    IsTrue (is_some (follow_all xs o))
front_follows [] ys o h = refl
front_follows (x ∷ xs) ys o h = front_then xs ys (follow x o) (λ p. front_follows xs ys p) h

-- The actions of functions may follow one another.

functions_follow : (ds : List Definition) → AreReportable ds → Leads (definitions_actions ds) [] []
functions_follow [] h = record { is = refl }
functions_follow (d ∷ ds) h =
    chain (function_actions d.number d.function) (definitions_actions ds) [] [] []
    (definition_leads d.number d.function.parameters (length d.function.variables) d.function.body h.0.number
    h.0.parameters h.0.variables h.0.names h.0.few)
    (functions_follow ds h.1)

pub beginning_follows : (acts : List Action) → IsBeginning acts → IsTrue (is_some (follow_all acts []))
beginning_follows acts b = front_follows acts b.rest []
    (subst (λ (xs : List Action). IsTrue (is_some (follow_all xs []))) (sym b.begins)
    (rw (functions_follow b.functions b.reportable).is refl))

-- A list is a beginning of another's beginning.

pub begins_with : (xs ys : List Action) → IsBeginning (xs ++ ys) → IsBeginning xs
begins_with xs ys b =
    record {
      functions = b.functions;
      reportable = b.reportable;
      rest = ys ++ b.rest;
      begins = sym (append_assoc xs ys b.rest) ∙ b.begins;
    }

-- Functions that are finished.

count_fits : (p : Context) → ContextFits p → context_count p ≤ 200
count_fits (InFun n k b) fits = omega arith
count_fits (InFirst c b outer) fits =
    omega (arith, fits.2.few)
count_fits (InSecond c t b outer) fits =
    omega (arith, fits.3.few)
count_fits (InLoop c b outer) fits =
    omega (arith, fits.2.few)

record Closes (acts : List Action) : Type 0 where
  definition : Definition
  reportable : IsReportable definition
  rest : List Action
  is : acts ++ rest ≡ function_actions definition.number definition.function

closes_with : (more xs ys : List Action) → xs ++ more ≡ ys → Closes ys → Closes xs
closes_with more xs ys e c =
    record {
      definition = c.definition;
      reportable = c.reportable;
      rest = more ++ c.rest;
      is = sym (append_assoc xs more c.rest) ∙ ap (λ zs. zs ++ c.rest) e ∙ c.is;
    }

abbrev definition : (n k v : ℕ) → Body → Definition
definition n k v b =
    record { number = n; function = record { name = []; parameters = k; variables = replicate v []; body = b } }

definition_actions : (n k v : ℕ) (b : Body) →
    function_actions n (definition n k v b).function ≡
    BeginFunction n k ∷ (body_actions b ++ (last_return ++ EndFunction v ∷ []))
definition_actions n k v b =
    ap (λ (m : ℕ). BeginFunction n k ∷ (body_actions b ++ (last_return ++ EndFunction m ∷ []))) (length-replicate v [])

definition_reported : (n k v : ℕ) (b : Body) → n < most_names → k ≤ v → v ≤ most_names → BodyFits 0 b →
    IsReportable (definition n k v b)
definition_reported n k v b h l m f =
    let long : length {A = List ℕ} (replicate v []) ≡ v = length-replicate v [] in
    record {
      number = h;
      parameters = omega (arith, l, long);
      variables = omega (arith, m, long);
      names = f.names;
      few = omega (arith, f.few);
    }

-- a context, with these statements more
close_context : (p : Context) (s : Body) → ContextFits p → BodyFits (context_count p) s →
    Closes (context_actions p ++ body_actions s)
close_context (InFun n k b) s fits more = record {
  definition = definition n k k (join b s);
  reportable = definition_reported n k k (join b s) fits.0 (omega arith) fits.1 (fits-join 0 b s fits.2 more);
  rest = last_return ++ EndFunction k ∷ [];
  is = rw (body_actions-join b s) refl ∙ sym (definition_actions n k k (join b s));
}
close_context (InFirst c b outer) s fits more =
    let both : BodyFits (1 + context_count outer) (join b s) = fits-join (1 + context_count outer) b s fits.2 more in
    closes_with (EndIf ∷ []) _ _ (rw (body_actions-join b s) (simp append_assoc refl))
    (close_context outer (IfStatement c (join b s) Done) fits.0
    (record { names = (fits.1.names, both.names, tt); few = omega (arith, fits.1.few, both.few) }))
close_context (InSecond c t b outer) s fits more =
    let both : BodyFits (1 + context_count outer) (join b s) = fits-join (1 + context_count outer) b s fits.3 more in
    closes_with (EndIf ∷ []) _ _ (rw (body_actions-join b s) (simp append_assoc refl))
    (close_context outer (IfElseStatement c t (join b s) Done) fits.0
    (record
    { names = (fits.1.names, fits.2.names, both.names, tt); few = omega (arith, fits.1.few, fits.2.few, both.few) }))
close_context (InLoop c b outer) s fits more =
    let both : BodyFits (1 + context_count outer) (join b s) = fits-join (1 + context_count outer) b s fits.2 more in
    closes_with (EndWhile ∷ []) _ _ (rw (body_actions-join b s) (simp append_assoc refl))
    (close_context outer (While c (join b s) Done) fits.0
    (record { names = (fits.1.names, both.names, tt); few = omega (arith, fits.1.few, both.few) }))

abbrev zero : Expr
zero = Constant (pos 0)

-- a value in a hole
close_value : (h : Hole) (e : Expr) → HoleFits h → ExprFits (hole_count h) e → Closes (hole_actions h ++ expr_actions e)
close_value (Statement p) e fits f =
    closes_with (Chop ∷ []) _ _ (append_assoc (context_actions p) (expr_actions e) (Chop ∷ []))
    (close_context p (ExpressionStatement e Done) fits (record { names = (f.names, tt); few = omega (arith, f.few) }))
close_value (Test p) e fits f =
    closes_with (WhileTest ∷ EndWhile ∷ []) _ _ (simp append_assoc refl)
    (close_context p (While e Done Done) fits.0 (record { names = (f.names, tt, tt); few = omega (arith, f.few) }))
close_value (Behind l h) e fits f =
    closes_with (ApplyBinop op.Add ∷ []) _ _ (simp append_assoc refl)
    (close_value h (Binary op.Add l e) fits.0
    (record { names = (fits.1.names, f.names); few = omega (arith, fits.1.few, f.few) }))
close_value (RightSide o l h) e fits f =
    let one : right_side o ≡ 1 = rw fits.2 refl in
    closes_with (ApplyBinop o ∷ []) _ (hole_actions h ++ expr_actions (Binary o l e))
    (rw fits.2 (simp append_assoc refl))
    (close_value h (Binary o l e) fits.0
    (record { names = (fits.1.names, f.names); few = omega (arith, fits.1.few, f.few, one) }))
close_value (Arguments h) e fits f =
    closes_with (EndCall (callee.Function 0) ∷ []) _ _ (simp append_assoc refl)
    (close_value h (Call (callee.Function 0) (Argument e NoMore)) fits.0
    (record { names = (omega arith, (f.names, tt)); few = omega (arith, f.few) }))

close_zero : (h : Hole) → HoleFits h → hole_count h ≤ 200 → Closes (hole_actions h)
close_zero h fits few =
    closes_with (PushConstant (pos 0) ∷ []) _ _ refl
    (close_value h zero fits (record { names = tt; few = omega (arith, few) }))

close_hole : (h : Hole) → HoleFits h → Closes (hole_actions h)
close_hole (Statement p) fits =
    closes_with [] _ _ refl (close_context p Done fits (record { names = tt; few = omega (arith, count_fits p fits) }))
close_hole (Test p) fits = close_zero (Test p) fits fits.1
close_hole (Behind e h) fits = close_value h e fits.0 fits.1
close_hole (RightSide o e h) fits =
    let few : 1 + hole_count h ≤ 200 = fits.3 in close_zero (RightSide o e h) fits (omega (arith, few))
close_hole (Arguments h) fits = close_zero (Arguments h) fits fits.1

-- What a list of actions makes.

data Held : Type 0 where
  Nothing : Held
  Holds : (h : Hole) → Held

abbrev open_held : Held → Opened
open_held Nothing = []
open_held (Holds h) = open_hole h

abbrev held_actions : Held → List Action
held_actions Nothing = []
held_actions (Holds h) = hole_actions h

abbrev HeldFits : Held → Type 0
HeldFits Nothing = Unit {0}
HeldFits (Holds h) = HoleFits h × (hole_count h ≤ 200)

record Makes (acts : List Action) (o : Opened) : Type 0 where
  functions : List Definition
  held : Held
  opens : open_held held ≡ o
  actions : definitions_actions functions ++ held_actions held ≡ acts
  reportable : AreReportable functions
  fits : HeldFits held

pub definitions_last : (ds : List Definition) (d : Definition) →
    definitions_actions (ds ++ d ∷ []) ≡ definitions_actions ds ++ function_actions d.number d.function
definitions_last [] d = append-nil (function_actions d.number d.function)
definitions_last (x ∷ ds) d =
    ap (λ acts. function_actions x.number x.function ++ acts) (definitions_last ds d) ∙
    sym
    (append_assoc (function_actions x.number x.function) (definitions_actions ds)
    (function_actions d.number d.function))

pub reportable_last : (ds : List Definition) (d : Definition) → AreReportable ds → IsReportable d →
    AreReportable (ds ++ d ∷ [])
reportable_last [] d h t = (t, tt)
reportable_last (x ∷ ds) d h t = (h.0, reportable_last ds d h.1 t)

made_begins : (acts : List Action) (o : Opened) → Makes acts o → IsBeginning acts
made_begins acts o m = by m.held m.actions m.fits
  where
    by : (held : Held) → definitions_actions m.functions ++ held_actions held ≡ acts → HeldFits held → IsBeginning acts
    by Nothing e f =
        record {
          functions = m.functions;
          reportable = m.reportable;
          rest = [];
          begins = append-nil acts ∙ sym e ∙ append-nil (definitions_actions m.functions);
        }
    by (Holds h) e f =
        let c : Closes (hole_actions h) = close_hole h f.0 in
        record {
          functions = m.functions ++ c.definition ∷ [];
          reportable = reportable_last m.functions c.definition m.reportable c.reportable;
          rest = c.rest;
          begins =
              ap (λ xs. xs ++ c.rest) (sym e) ∙ append_assoc (definitions_actions m.functions) (hole_actions h) c.rest
              ∙ ap (λ xs. definitions_actions m.functions ++ xs) c.is ∙ sym (definitions_last m.functions c.definition);
        }

-- A function begins and is finished.

pub begin_makes : (n k : ℕ) (q : Opened) → follow (BeginFunction n k) [] ≡ Some q →
    ((n < most_names) × (k ≤ most_names)) × (InFunction k false ∷ [] ≡ q)
begin_makes n k q e = by (nat_lt n most_names) (nat_le k most_names) refl refl e
  where
    by : (a b : Bool) → nat_lt n most_names ≡ a → nat_le k most_names ≡ b →
        only_on (a && b) (InFunction k false ∷ []) ≡ Some q →
        ((n < most_names) × (k ≤ most_names)) × (InFunction k false ∷ [] ≡ q)
    by true true f g h = ((grind (arith, nat_tests), grind (arith, nat_tests)), cc)
    by true false f g h = absurd (cc)
    by false b f g h = absurd (cc)

pub record FinishesBy (v k : ℕ) (o q : Opened) (last : Bool) : Type 0 where
  pub returned : last ≡ true
  pub parameters : k ≤ v
  pub variables : v ≤ most_names
  pub nothing : [] ≡ q

pub finish_makes : (v k : ℕ) (last : Bool) (q : Opened) → follow (EndFunction v) (InFunction k last ∷ []) ≡ Some q →
    FinishesBy v k (InFunction k last ∷ []) q last
finish_makes v k false q e = absurd (cc)
finish_makes v k true q e = by (nat_le k v) (nat_le v most_names) refl refl e
  where
    by : (a b : Bool) → nat_le k v ≡ a → nat_le v most_names ≡ b → only_on (a && b) [] ≡ Some q →
        FinishesBy v k (InFunction k true ∷ []) q true
    by true true f g h =
        record
        { returned = refl; parameters = grind (arith, nat_tests); variables = grind (arith, nat_tests); nothing = cc }
    by true false f g h = absurd (cc)
    by false b f g h = absurd (cc)

-- the statements before the last `return 0;`
record Before (b : Body) : Type 0 where
  body : Body
  is : b ≡ join body (Return (Constant (pos 0)) Done)

-- they are before statements that begin with another one
behind : (before : Bool) (b rest : Body) (f : Body → Body) → b ≡ f rest →
    ((x y : Body) → f (join x y) ≡ join (f x) y) →
    ((rest ≡ Done) × (false ≡ true)) ⊎ Before rest → ((b ≡ Done) × (before ≡ true)) ⊎ Before b
behind before b rest f e joins (inl p) = absurd (let no : false ≡ true = p.1 in cc)
behind before b rest f e joins (inr s) =
    inr (record { body = f s.body; is = e ∙ ap f s.is ∙ joins s.body (Return (Constant (pos 0)) Done) })

last_return_of : (before : Bool) (b : Body) → ends_in_return before b ≡ true → ((b ≡ Done) × (before ≡ true)) ⊎ Before b
last_return_of before Done h = inl (refl, h)
last_return_of before (ExpressionStatement e rest) h =
    behind before _ rest (ExpressionStatement e) refl (λ x y. refl) (last_return_of false rest h)
last_return_of before (IfStatement c t rest) h =
    behind before _ rest (IfStatement c t) refl (λ x y. refl) (last_return_of false rest h)
last_return_of before (IfElseStatement c t u rest) h =
    behind before _ rest (IfElseStatement c t u) refl (λ x y. refl) (last_return_of false rest h)
last_return_of before (While c t rest) h =
    behind before _ rest (While c t) refl (λ x y. refl) (last_return_of false rest h)
last_return_of before (Return e rest) h = by (last_return_of (is_number 0 (origin_of e)) rest h)
  where
    by : ((rest ≡ Done) × (is_number 0 (origin_of e) ≡ true)) ⊎ Before rest →
        ((Return e rest ≡ Done) × (before ≡ true)) ⊎ Before (Return e rest)
    by (inl p) = inr (record { body = Done; is = rw (p.0, number_is 0 e p.1) refl })
    by (inr s) = inr (record { body = Return e s.body; is = ap (Return e) s.is })

before_last : (b : Body) → ends_in_return false b ≡ true → Before b
before_last b h = by (last_return_of false b h)
  where
    by : ((b ≡ Done) × (false ≡ true)) ⊎ Before b → Before b
    by (inl p) = absurd (let no : false ≡ true = p.1 in cc)
    by (inr s) = s

names_front : (b s : Body) → InBody most_names most_names most_names (join b s) →
    InBody most_names most_names most_names b
names_front Done s h = tt
names_front (ExpressionStatement e rest) s h = (h.0, names_front rest s h.1)
names_front (IfStatement c t rest) s h = (h.0, h.1, names_front rest s h.2)
names_front (IfElseStatement c t u rest) s h = (h.0, h.1, h.2, names_front rest s h.3)
names_front (While c t rest) s h = (h.0, h.1, names_front rest s h.2)
names_front (Return e rest) s h = (h.0, names_front rest s h.1)

nesting_front : (b s : Body) → body_nesting b ≤ body_nesting (join b s)
nesting_front Done s = omega arith
nesting_front (ExpressionStatement e rest) s = omega (arith, nesting_front rest s)
nesting_front (IfStatement c t rest) s = omega (arith, nesting_front rest s)
nesting_front (IfElseStatement c t u rest) s = omega (arith, nesting_front rest s)
nesting_front (While c t rest) s = omega (arith, nesting_front rest s)
nesting_front (Return e rest) s = omega (arith, nesting_front rest s)

fits_front : (b s : Body) → BodyFits 0 (join b s) → BodyFits 0 b
fits_front b s f = record { names = names_front b s f.names; few = omega (arith, f.few, nesting_front b s) }

-- One action more.

within_makes : (a : Action) (h : Hole) (q : Opened) (acts : List Action) (ds : List Definition) →
    definitions_actions ds ++ hole_actions h ≡ acts → AreReportable ds → open_count q ≤ 200 →
    Steps a h q → Makes (acts ++ a ∷ []) q
within_makes a h q acts ds e reported small s = record {
  functions = ds;
  held = Holds s.next;
  opens = s.opens;
  actions = ap (λ xs. definitions_actions ds ++ xs) s.adds ∙
      sym (append_assoc (definitions_actions ds) (hole_actions h) (a ∷ [])) ∙ ap (λ xs. xs ++ a ∷ []) e;
  reportable = reported;
  fits = (s.fits, omega (arith, small, ap open_count s.opens));
}

begun : (n k : ℕ) (q : Opened) (acts : List Action) (ds : List Definition) → definitions_actions ds ++ [] ≡ acts →
    AreReportable ds → follow (BeginFunction n k) [] ≡ Some q → Makes (acts ++ BeginFunction n k ∷ []) q
begun n k q acts ds e reported is =
    let made = begin_makes n k q is in
    record {
      functions = ds;
      held = Holds (Statement (InFun n k Done));
      opens = made.1;
      actions = ap (λ xs. xs ++ BeginFunction n k ∷ []) (sym (append-nil (definitions_actions ds)) ∙ e);
      reportable = reported;
      fits = ((made.0.0, made.0.1, record { names = tt; few = omega arith }), omega arith);
    }

finished : (n k v : ℕ) (b : Body) (q : Opened) (acts : List Action) (ds : List Definition) →
    definitions_actions ds ++ (BeginFunction n k ∷ body_actions b) ≡ acts → AreReportable ds →
    ContextFits (InFun n k b) → follow (EndFunction v) (InFunction k (ends_in_return false b) ∷ []) ≡ Some q →
    Makes (acts ++ EndFunction v ∷ []) q
finished n k v b q acts ds e reported fits is =
    let f = finish_makes v k (ends_in_return false b) q is in
    let front : Before b = before_last b f.returned in
    let fit : BodyFits 0 front.body =
    fits_front front.body (Return (Constant (pos 0)) Done) (subst (λ (c : Body). BodyFits 0 c) front.is fits.2) in
    let joined : (BeginFunction n k ∷ body_actions (join front.body (Return (Constant (pos 0)) Done))) ++
    EndFunction v ∷ [] ≡ BeginFunction n k ∷ (body_actions front.body ++ (last_return ++ EndFunction v ∷ [])) =
    rw (body_actions-join front.body (Return (Constant (pos 0)) Done)) (simp append_assoc refl) in
    let all : (BeginFunction n k ∷ body_actions b) ++ EndFunction v ∷ [] ≡
    function_actions n (definition n k v front.body).function =
    ap (λ (c : Body). (BeginFunction n k ∷ body_actions c) ++ EndFunction v ∷ []) front.is ∙ joined ∙
    sym (definition_actions n k v front.body) in
    record {
      functions = ds ++ definition n k v front.body ∷ [];
      held = Nothing;
      opens = f.nothing;
      actions =
          append-nil (definitions_actions (ds ++ definition n k v front.body ∷ [])) ∙
          definitions_last ds (definition n k v front.body)
          ∙ ap (λ xs. definitions_actions ds ++ xs) (sym all) ∙
          sym (append_assoc (definitions_actions ds) (BeginFunction n k ∷ body_actions b) (EndFunction v ∷ [])) ∙
          ap (λ xs. xs ++ EndFunction v ∷ []) e;
      reportable = reportable_last ds (definition n k v front.body) reported
          (definition_reported n k v front.body fits.0 f.parameters f.variables fit);
      fits = tt;
    }

-- outside of functions
nothing_then : (a : Action) (q : Opened) → IsWithin a → follow a [] ≡ Some q → ⊥
nothing_then (FetchVariable v) q w e = by (is_var_numbered v) e
  where
    by : (b : Bool) → (if b then None else None) ≡ Some q → ⊥
    by true h = cc
    by false h = cc
nothing_then (EndCall f) q w e = by (is_callee_numbered f) e
  where
    by : (b : Bool) → (if b then None else None) ≡ Some q → ⊥
    by true h = cc
    by false h = cc
nothing_then (BeginFunction n k) q w e = w
nothing_then (EndFunction v) q w e = w
nothing_then a q w e = cc

-- inside of a function no other begins
never_begins : (n k : ℕ) (h : Hole) (q : Opened) → follow (BeginFunction n k) (open_hole h) ≡ Some q → ⊥
never_begins n k (Statement (InFun m j b)) q e = cc
never_begins n k (Statement (InFirst c b outer)) q e = cc
never_begins n k (Statement (InSecond c s b outer)) q e = cc
never_begins n k (Statement (InLoop c b outer)) q e = cc
never_begins n k (Test p) q e = cc
never_begins n k (Behind x h) q e = cc
never_begins n k (RightSide o x h) q e = cc
never_begins n k (Arguments h) q e = cc

nothing_makes : (a : Action) (q : Opened) (acts : List Action) (ds : List Definition) →
    definitions_actions ds ++ [] ≡ acts → AreReportable ds → follow a [] ≡ Some q → Makes (acts ++ a ∷ []) q
nothing_makes (BeginFunction n k) q acts ds e reported is = begun n k q acts ds e reported is
nothing_makes (EndFunction v) q acts ds e reported is = absurd (cc)
nothing_makes a q acts ds e reported is = absurd (nothing_then a q tt is)

hole_makes : (a : Action) (h : Hole) (q : Opened) (acts : List Action) (ds : List Definition) →
    definitions_actions ds ++ hole_actions h ≡ acts → AreReportable ds → HoleFits h → hole_count h ≤ 200 →
    follow a (open_hole h) ≡ Some q → open_count q ≤ 200 → Makes (acts ++ a ∷ []) q
hole_makes (BeginFunction n k) h q acts ds e reported fits least is small = absurd (never_begins n k h q is)
hole_makes (EndFunction v) (Statement (InFun n k b)) q acts ds e reported fits least is small =
    finished n k v b q acts ds e reported fits is
hole_makes (EndFunction v) h q acts ds e reported fits least is small = absurd (cc)
hole_makes a h q acts ds e reported fits least is small =
    within_makes a h q acts ds e reported small (step a h q fits least is small tt)

one_makes : (a : Action) (acts : List Action) (o q : Opened) → Makes acts o → follow a o ≡ Some q → open_count q ≤ 200 →
    Makes (acts ++ a ∷ []) q
one_makes a acts o q m e small =
    by m.held m.actions m.fits (subst (λ (p : Opened). follow a p ≡ Some q) (sym m.opens) e)
  where
    by : (held : Held) → definitions_actions m.functions ++ held_actions held ≡ acts → HeldFits held →
        follow a (open_held held) ≡ Some q → Makes (acts ++ a ∷ []) q
    by Nothing g f is = nothing_makes a q acts m.functions g m.reportable is
    by (Holds h) g f is = hole_makes a h q acts m.functions g m.reportable f.0 f.1 is small

-- Any actions more.

few_is : (q : Opened) → few_open q ≡ true → open_count q ≤ 200
few_is q h = grind (arith, nat_tests)

all_make : (xs acts : List Action) (o : Opened) → Makes acts o → IsTrue (is_some (follow_all xs o)) →
    IsBeginning (acts ++ xs)
all_make [] acts o m h = made_begins (acts ++ []) o (subst (λ (ys : List Action). Makes ys o) (sym (append-nil acts)) m)
all_make (x ∷ xs) acts o m h =
    by (follow x o) refl (λ q e small k. all_make xs (acts ++ x ∷ []) q (one_makes x acts o q m e small) k) h
  where
    by : (next : Option Opened) → follow x o ≡ next →
        ((q : Opened) → follow x o ≡ Some q → open_count q ≤ 200 → IsTrue (is_some (follow_all xs q)) →
        IsBeginning ((acts ++ x ∷ []) ++ xs)) →
        IsTrue (is_some (then_follow (follow_all xs) next)) → IsBeginning (acts ++ x ∷ xs)
    by None e again k = absurd (cc)
    by (Some q) e again k = fewer (few_open q) refl k
      where
        fewer : (b : Bool) → few_open q ≡ b → IsTrue (is_some (if b then follow_all xs q else None)) →
            IsBeginning (acts ++ x ∷ xs)
        fewer true f j =
            subst (λ (ys : List Action). IsBeginning ys) (append_assoc acts (x ∷ []) xs) (again q e (few_is q f) j)
        fewer false f j = absurd (cc)

pub follows_begins : (acts : List Action) → IsTrue (is_some (follow_all acts [])) → IsBeginning acts
follows_begins acts h =
    all_make acts [] []
    (record { functions = []; held = Nothing; opens = refl; actions = refl; reportable = tt; fits = tt }) h
