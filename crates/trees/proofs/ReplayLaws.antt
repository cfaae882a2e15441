-- Actions are reported to a builder, one after another.
use Rattle.std.proofs.Common.{◌≡◌, ℕ, ◌+◌, ◌<◌, ◌≤◌, List, [], ◌∷◌, ◌++◌, length, get_or, Bool, true, false, map, take, drop, Vec, Box, Global, sym, ap, subst, ◌∙◌, refl, append_assoc, arith}
use Rattle.std.proofs.lemmas.Bool.Decides.{nat_tests}
use Rattle.std.proofs.lemmas.List.{append-nil, drop_more, length-replicate, take_more}
use Rattle.std.specs.Prelude.{pos, Some, nat_lt}
use Rattle.grammar.specs.declared.resolved_names.Callee.{Callee}
use Rattle.grammar.specs.declared.resolved_names.Var.{Var}
use Rattle.arith.specs.declared.operators.Op.{Op}
use Rattle.grammar.specs.declared.operators.StoreOp.{StoreOp}
use Rattle.grammar.specs.declared.actions.Action.{Action}
use Rattle.grammar.specs.declared.actions.Action.TheVariants.{PushConstant, StoreVariable, ApplyBinop, BeginCall}
use Rattle.grammar.specs.declared.actions.Action.TheVariants.{EndCall, IfTest, ElsePart, EndIf, BeginWhile, WhileTest}
use Rattle.grammar.specs.declared.actions.Action.TheVariants.{EndWhile, GiveBack, Chop, BeginFunction, EndFunction}
use Rattle.grammar.specs.Actions.{last_return, args_actions, body_actions, expr_actions, function_actions, middle}
use Rattle.grammar.specs.Actions.{code_length}
use Rattle.grammar.specs.Beginning.{IsBeginning}
use Rattle.grammar.specs.Building.{Representation, MayFollow, MayFollowAll, LeavesOpen, AppendsAll, Appends, IsOver}
use Rattle.grammar.specs.Profile.{Profile}
use Rattle.grammar.specs.Tree.{Done}
use Rattle.grammar.proofs.Beginnings.{follows_begins}
use Rattle.grammar.proofs.Lengths.{code_length-append}
use Rattle.trees.specs.Opened.{opened_of, open_actions}
use Rattle.trees.specs.Replaying.{AppendsThose, RepresentsNoActions, IsOverWith, IsOverWithThose}
use Rattle.trees.specs.TreeMakers.{TreeMaker, FitsLimit, Builds, ExceedsLimit, TreeMakerRepresents}
use Rattle.trees.specs.Trees.{arguments, body_tree, expr_tree, function_tree, made_actions, statement_actions}
use Rattle.trees.specs.declared.tree_stack.OpenItem as entry
use Rattle.trees.specs.declared.tree.Expr.{Expr}
use Rattle.trees.specs.declared.tree.Expr.TheVariants as expr
use Rattle.trees.specs.declared.tree.Function.{Function}
use Rattle.trees.specs.declared.tree.Statement.{Statement}
use Rattle.trees.specs.declared.tree.Statement.TheVariants as statement
use Rattle.trees.proofs.RepresentationLaws.{follow_inside}
use Rattle.trees.proofs.TreeLaws.{Tells, tells_arguments, tells_functions, tells_last, tells_split, tells_statements, tree-Binary, tree-Assign, tree-Call, tree-ExpressionStatement, tree-IfStatement, tree-IfElseStatement, tree-While, tree-Return}
use Rattle.grammar.proofs.RepresentationLaws.{may_front, may_first, may_then, appends_both}

-- the limit is exceeded with more actions too
pub over_front : (before : Representation) (xs ys : List Action) → IsOverWith before xs → IsOverWith before (xs ++ ys)
over_front before xs ys over p acts s =
    omega (arith, over p acts s, code_length-append p (acts ++ xs) ys, ap (code_length p) (append_assoc acts xs ys))

pub over_then : (before behind : Representation) (xs ys : List Action) → AppendsAll before behind xs →
    IsOverWith behind ys →
    IsOverWith before (xs ++ ys)
over_then before behind xs ys added over p acts s =
    subst (λ zs. p.instructions < code_length p zs + 1) (append_assoc acts xs ys) (over p (acts ++ xs) (added p acts s))

-- after a call of its own the other actions may follow
pub may_next : (before behind : Representation) (x : Action) (xs : List Action) → Appends before behind x →
    MayFollowAll before (x ∷ xs) → MayFollowAll behind xs
may_next before behind x xs added may = may_then before behind (x ∷ []) xs added may

pub may_return : (before : Representation) → MayFollowAll before last_return → MayFollow before (PushConstant (pos 0))
may_return before may = may_first before (PushConstant (pos 0)) (GiveBack ∷ []) may

pub over_finish : (before : Representation) (v : ℕ) → IsOver before → IsOverWith before (EndFunction v ∷ [])
over_finish before v over p acts s = omega (arith, over p acts s, code_length-append p acts (EndFunction v ∷ []))

-- The actions of each kind of expression and statement.

pub actions-Binary : (e : Expr) (op : Op) (a b : Box Expr Global) → e ≡ expr.Binary op a b →
    expr_actions (expr_tree e) ≡
    expr_actions (expr_tree a.value) ++ (middle op ++ (expr_actions (expr_tree b.value) ++ ApplyBinop op ∷ []))
actions-Binary e op a b is = ap (λ e. expr_actions (expr_tree e)) is ∙ ap expr_actions (tree-Binary op a b)

pub actions-Assign : (e : Expr) (op : StoreOp) (v : Var) (a : Box Expr Global) → e ≡ expr.Assign op v a →
    expr_actions (expr_tree e) ≡ expr_actions (expr_tree a.value) ++ StoreVariable v op ∷ []
actions-Assign e op v a is = ap (λ e. expr_actions (expr_tree e)) is ∙ ap expr_actions (tree-Assign op v a)

pub actions-Call : (e : Expr) (callee : Callee) (es : Vec Expr Global) → e ≡ expr.Call callee es →
    expr_actions (expr_tree e) ≡ BeginCall ∷ (args_actions (arguments (map expr_tree es.items)) ++ EndCall callee ∷ [])
actions-Call e callee es is = ap (λ e. expr_actions (expr_tree e)) is ∙ ap expr_actions (tree-Call callee es)

pub actions-ExpressionStatement : (s : Statement) (e : Expr) → s ≡ statement.ExpressionStatement e →
    statement_actions s ≡ expr_actions (expr_tree e) ++ Chop ∷ []
actions-ExpressionStatement s e is =
    ap statement_actions is ∙ ap (λ f. body_actions (f Done)) (tree-ExpressionStatement e)

pub actions-Return : (s : Statement) (e : Expr) → s ≡ statement.Return e →
    statement_actions s ≡ expr_actions (expr_tree e) ++ GiveBack ∷ []
actions-Return s e is = ap statement_actions is ∙ ap (λ f. body_actions (f Done)) (tree-Return e)

pub actions-IfStatement : (s : Statement) (c : Expr) (t : Vec Statement Global) → s ≡ statement.IfStatement c t →
    statement_actions s ≡
    (expr_actions (expr_tree c) ++ IfTest ∷ []) ++ (body_actions (body_tree t.items) ++ EndIf ∷ [])
actions-IfStatement s c t is =
    ap statement_actions is ∙ ap (λ f. body_actions (f Done)) (tree-IfStatement c t) ∙
    sym (append_assoc (expr_actions (expr_tree c)) (IfTest ∷ []) (body_actions (body_tree t.items) ++ EndIf ∷ []))

pub actions-IfElseStatement : (s : Statement) (c : Expr) (t u : Vec Statement Global) →
    s ≡ statement.IfElseStatement c t u →
    statement_actions s ≡
    (expr_actions (expr_tree c) ++ IfTest ∷ []) ++
    (body_actions (body_tree t.items) ++ ElsePart ∷ (body_actions (body_tree u.items) ++ EndIf ∷ []))
actions-IfElseStatement s c t u is =
    ap statement_actions is ∙ ap (λ f. body_actions (f Done)) (tree-IfElseStatement c t u)
    ∙
    sym
    (append_assoc (expr_actions (expr_tree c)) (IfTest ∷ [])
    (body_actions (body_tree t.items) ++ ElsePart ∷ (body_actions (body_tree u.items) ++ EndIf ∷ [])))

pub actions-While : (s : Statement) (c : Expr) (t : Vec Statement Global) → s ≡ statement.While c t →
    statement_actions s ≡
    (BeginWhile ∷ (expr_actions (expr_tree c) ++ WhileTest ∷ [])) ++
    (body_actions (body_tree t.items) ++ EndWhile ∷ [])
actions-While s c t is =
    ap statement_actions is ∙ ap (λ f. body_actions (f Done)) (tree-While c t)
    ∙
    ap (λ acts. BeginWhile ∷ acts)
    (sym
    (append_assoc (expr_actions (expr_tree c)) (WhileTest ∷ [])
    (body_actions (body_tree t.items) ++ EndWhile ∷ [])))

pub actions-Function : (f : Function) →
    function_actions f.number (function_tree f) ≡
    BeginFunction f.number f.parameters ∷
    (body_actions (body_tree f.body.items) ++ (last_return ++ EndFunction f.variables ∷ []))
actions-Function f =
    ap
    (λ n. BeginFunction f.number f.parameters ∷
    (body_actions (body_tree f.body.items) ++ (last_return ++ EndFunction n ∷ [])))
    (length-replicate f.variables [])

-- Lists of arguments, of statements and of functions, of which some were reported.

-- the next item's actions may follow
item_may : {X : Type 0} (acts : X → List Action) (told : List X → List Action) → Tells acts told →
    (before behind : Representation) (i : ℕ) (xs : List X) (x : X) → i < length xs → x ≡ get_or xs i x →
    AppendsAll before behind (told (take i xs)) → MayFollowAll before (told xs) →
    MayFollowAll behind (acts x)
item_may acts told tells before behind i xs x below is added may =
    let rest =
    may_then before behind (told (take i xs)) (told (drop i xs)) added
    (subst (MayFollowAll before) (tells_split acts told tells i xs) may) in
    let at : drop i xs ≡ x ∷ drop (i + 1) xs = drop_more xs i x below ∙ ap (λ y. y ∷ drop (i + 1) xs) (sym is) in
    may_front behind (acts x) (told (drop (i + 1) xs))
    (subst (MayFollowAll behind) (ap told at ∙ tells.more x (drop (i + 1) xs)) rest)

-- one item more was reported
items_more : {X : Type 0} (acts : X → List Action) (told : List X → List Action) → Tells acts told →
    (before between behind : Representation) (i : ℕ) (xs : List X) (x : X) → i < length xs → x ≡ get_or xs i x →
    AppendsAll before between (told (take i xs)) → AppendsAll between behind (acts x) →
    AppendsAll before behind (told (take (i + 1) xs))
items_more acts told tells before between behind i xs x below is first next =
    let more : take (i + 1) xs ≡ take i xs ++ x ∷ [] =
    take_more xs i x below ∙ ap (λ y. take i xs ++ y ∷ []) (sym is) in
    subst (AppendsAll before behind) (sym (ap told more ∙ tells_last acts told tells (take i xs) x))
    (appends_both before between behind (told (take i xs)) (acts x) first next)

pub argument_may : (before behind : Representation) (i : ℕ) (es : List Expr) (e : Expr) → i < length es →
    e ≡ get_or es i e →
    AppendsAll before behind (args_actions (arguments (map expr_tree (take i es)))) →
    MayFollowAll before (args_actions (arguments (map expr_tree es))) →
    MayFollowAll behind (expr_actions (expr_tree e))
argument_may = item_may _ _ tells_arguments

pub arguments_more : (before between behind : Representation) (i : ℕ) (es : List Expr) (e : Expr) → i < length es →
    e ≡ get_or es i e →
    AppendsAll before between (args_actions (arguments (map expr_tree (take i es)))) →
    AppendsAll between behind (expr_actions (expr_tree e)) →
    AppendsAll before behind (args_actions (arguments (map expr_tree (take (i + 1) es))))
arguments_more = items_more _ _ tells_arguments

pub statement_may : (before behind : Representation) (i : ℕ) (ss : List Statement) (s : Statement) → i < length ss →
    s ≡ get_or ss i s →
    AppendsAll before behind (body_actions (body_tree (take i ss))) →
    MayFollowAll before (body_actions (body_tree ss)) → MayFollowAll behind (statement_actions s)
statement_may = item_may _ _ tells_statements

pub statements_more : (before between behind : Representation) (i : ℕ) (ss : List Statement) (s : Statement) →
    i < length ss →
    s ≡ get_or ss i s →
    AppendsAll before between (body_actions (body_tree (take i ss))) → AppendsAll between behind (statement_actions s) →
    AppendsAll before behind (body_actions (body_tree (take (i + 1) ss)))
statements_more = items_more _ _ tells_statements

pub function_may : (before behind : Representation) (i : ℕ) (fs : List Function) (f : Function) → i < length fs →
    f ≡ get_or fs i f →
    AppendsAll before behind (made_actions (take i fs)) → MayFollowAll before (made_actions fs) →
    MayFollowAll behind (function_actions f.number (function_tree f))
function_may = item_may _ _ tells_functions

pub functions_more : (before between behind : Representation) (i : ℕ) (fs : List Function) (f : Function) →
    i < length fs →
    f ≡ get_or fs i f →
    AppendsAll before between (made_actions (take i fs)) →
    AppendsAll between behind (function_actions f.number (function_tree f)) →
    AppendsAll before behind (made_actions (take (i + 1) fs))
functions_more = items_more _ _ tells_functions

-- A maker that leaves nothing open represents the actions of its functions.

-- the actions of a maker's functions, if nothing is open in it
pub record IsDone (m : TreeMaker) : Type 0 where
  pub begins : IsBeginning (made_actions m.functions)
  pub each : (p : Profile) (acts : List Action) → TreeMakerRepresents m p acts → acts ≡ made_actions m.functions

nothing_actions : (xs : List entry.OpenItem) → opened_of xs ≡ [] → open_actions xs ≡ []
nothing_actions [] h = refl
nothing_actions (x ∷ xs) h = absurd (cc)

is_done_at : (m : TreeMaker) (s : LeavesOpen (λ p acts. TreeMakerRepresents m p acts) []) → FitsLimit m → IsDone m
is_done_at m s fits =
    let b : Builds m s.acts = s.stood.builds fits in
    let same : Some (opened_of m.stack) ≡ Some [] = sym b.opens ∙ s.opens in
    let none : opened_of m.stack ≡ [] = cc in
    let each : (p : Profile) (acts : List Action) → TreeMakerRepresents m p acts → acts ≡ made_actions m.functions =
    λ p acts t. (t.builds fits).actions ∙ ap (λ xs. made_actions m.functions ++ xs) (nothing_actions m.stack none) ∙
    append-nil (made_actions m.functions) in
    record {
      begins = subst IsBeginning (each s.profile s.acts s.stood) (follows_begins s.acts (rw s.opens refl));
      each = each;
    }

pub is_done : (m : TreeMaker) → LeavesOpen (λ p acts. TreeMakerRepresents m p acts) [] → IsDone m
is_done m s = by_code (nat_lt m.length m.profile.instructions) refl
  where
    by_code : (b : Bool) → nat_lt m.length m.profile.instructions ≡ b → IsDone m
    by_code true h =
        let fits : m.length < m.profile.instructions = grind (arith, nat_tests, h) in
        is_done_at m s (omega (arith, fits))
    by_code false h =
        let past : m.profile.instructions ≤ m.length = grind (arith, nat_tests, h) in
        let q : ExceedsLimit m.profile s.acts = s.stood.passed (omega (arith, past)) in
        let no : false ≡ true = sym (follow_inside s.acts [] [] s.opens) ∙ q.inside in
        absurd (cc)

-- the actions of a maker that leaves nothing open may be reported to a builder to which nothing was reported
pub may_replay : (m : TreeMaker) (before : Representation) → LeavesOpen (λ p acts. TreeMakerRepresents m p acts) [] →
    RepresentsNoActions before →
    MayFollowAll before (made_actions m.functions)
may_replay m before closed none =
    record { profile = none.profile; acts = []; stood = none.stood; begins = (is_done m closed).begins }

-- all the functions were reported
pub appends_those : (m : TreeMaker) (before behind : Representation) →
    LeavesOpen (λ p acts. TreeMakerRepresents m p acts) [] →
    AppendsAll before behind (made_actions m.functions) → AppendsThose m before behind
appends_those m before behind closed added p acts stands =
    subst (AppendsAll before behind) (sym ((is_done m closed).each p acts stands)) added

-- the limit is exceeded in one of the functions
pub over_those : (m : TreeMaker) (before between : Representation) (i : ℕ) (f : Function) →
    LeavesOpen (λ p acts. TreeMakerRepresents m p acts) [] → i < length m.functions → f ≡ get_or m.functions i f →
    AppendsAll before between (made_actions (take i m.functions)) →
    IsOverWith between (function_actions f.number (function_tree f)) → IsOverWithThose m before
over_those m before between i f closed below is added over p acts stands =
    let split : made_actions m.functions ≡
    made_actions (take i m.functions) ++
    (function_actions f.number (function_tree f) ++ made_actions (drop (i + 1) m.functions)) =
    tells_split _ _ tells_functions i m.functions ∙
    ap (λ fs. made_actions (take i m.functions) ++ made_actions fs)
    (drop_more m.functions i f below ∙ ap (λ f. f ∷ drop (i + 1) m.functions) (sym is))
    in
    subst (IsOverWith before) (sym ((is_done m closed).each p acts stands ∙ split))
    (over_then before between _ _ added (over_front between _ (made_actions (drop (i + 1) m.functions)) over))
