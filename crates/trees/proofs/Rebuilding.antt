-- What actions say of functions, worked out of the actions: so these determine it.
use Rattle.std.specs.Prelude.{ℕ, ℤ, pos, ◌≡◌, List, [], ◌∷◌, ◌++◌, Bool, true, false, length, map, Option, Some, None, slice_get}
use Rattle.std.specs.Prelude.{if◌then◌else◌, replicate}
use Rattle.std.proofs.Common.{refl, ap, sym, ◌∙◌, append_assoc}
use Rattle.std.proofs.lemmas.List.{length-replicate}
use Rattle.arith.specs.declared.operators.Op.{Op}
use Rattle.arith.specs.Op.{is_logic}
use Rattle.grammar.specs.declared.resolved_names.Callee.{Callee}
use Rattle.grammar.specs.declared.actions.Action.{Action}
use Rattle.grammar.specs.declared.actions.Action.TheVariants.{PushConstant, FetchVariable, StoreVariable, ApplyBinop}
use Rattle.grammar.specs.declared.actions.Action.TheVariants.{LogicMiddle, BeginCall, EndCall, IfTest, ElsePart, EndIf}
use Rattle.grammar.specs.declared.actions.Action.TheVariants.{BeginWhile, WhileTest, EndWhile, GiveBack, Chop}
use Rattle.grammar.specs.declared.actions.Action.TheVariants.{BeginFunction, EndFunction}
use Rattle.grammar.specs.Actions.{actions, args_actions, body_actions, expr_actions, function_actions, functions_actions}
use Rattle.grammar.specs.Actions.{last_return, middle, numbered_actions}
use Rattle.grammar.specs.Tree.{Expr, Constant, Variable, Binary, Assign, Postfix, Call, Args, NoMore, Argument, Body}
use Rattle.grammar.specs.Tree.{Done, ExpressionStatement, IfStatement, IfElseStatement, While, Return, join, File}
use Rattle.grammar.specs.Tree as tree
use Rattle.trees.specs.Laws.{ActionsDetermineTrees, UnnamedFunction, without_names, told_numbered, told_functions, told_trees}
use Rattle.trees.specs.Trees.{function_tree, made_actions}
use Rattle.trees.specs.declared.tree.Function.{Function}

-- what a list of statements is the body of
data Head : Type 0 where
  AFunction : (number parameters : ℕ) → Head
  First : (c : Expr) → Head
  Second : (c : Expr) (s : Body) → Head
  Loop : (c : Expr) → Head

-- what is open, the innermost first; each statement is given those after it, the last first
data Entry : Type 0 where
  AValue : (e : Expr) → Entry
  ACall : Entry
  ABody : (head : Head) (statements : List (Body → Body)) → Entry

abbrev whole : List (Body → Body) → Body → Body
whole [] b = b
whole (s ∷ ss) b = whole ss (s b)

abbrev add : (Body → Body) → List Entry → List Entry
add s (ABody head ss ∷ st) = ABody head (s ∷ ss) ∷ st
add s st = st

abbrev gather : Callee → Args → List Entry → List Entry
gather f arguments (AValue e ∷ st) = gather f (Argument e arguments) st
gather f arguments (ACall ∷ st) = AValue (Call f arguments) ∷ st
gather f arguments st = st

abbrev step : Expr → Expr
step (Assign o v e) = Postfix o v
step e = e

abbrev chop : Expr → List Entry → List Entry
chop e (AValue below ∷ st) = AValue (step e) ∷ st
chop e st = add (ExpressionStatement e) st

abbrev next : Action → List Entry → List Entry
next (PushConstant n) st = AValue (Constant n) ∷ st
next (FetchVariable v) st = AValue (Variable v) ∷ st
next (StoreVariable v o) (AValue e ∷ st) = AValue (Assign o v e) ∷ st
next (ApplyBinop o) (AValue b ∷ AValue a ∷ st) = AValue (Binary o a b) ∷ st
next BeginCall st = ACall ∷ st
next (EndCall f) st = gather f NoMore st
next IfTest (AValue c ∷ st) = ABody (First c) [] ∷ st
next ElsePart (ABody (First c) ss ∷ st) = ABody (Second c (whole ss Done)) [] ∷ st
next EndIf (ABody (First c) ss ∷ st) = add (IfStatement c (whole ss Done)) st
next EndIf (ABody (Second c s) ss ∷ st) = add (IfElseStatement c s (whole ss Done)) st
next WhileTest (AValue c ∷ st) = ABody (Loop c) [] ∷ st
next EndWhile (ABody (Loop c) ss ∷ st) = add (While c (whole ss Done)) st
next GiveBack (AValue e ∷ st) = add (Return e) st
next Chop (AValue e ∷ st) = chop e st
next (BeginFunction n parameters) st = ABody (AFunction n parameters) [] ∷ st
next action st = st

abbrev front : List (Body → Body) → List (Body → Body)
front [] = []
front (s ∷ ss) = ss

-- a function without its last return
abbrev ended : ℕ → List Entry → List UnnamedFunction → List UnnamedFunction
ended variables (ABody (AFunction n parameters) ss ∷ st) later =
    record { number = n; parameters = parameters; variables = variables; body = whole (front ss) Done } ∷ later
ended variables st later = later

abbrev rebuild : List Action → List Entry → List UnnamedFunction
rebuild [] st = []
rebuild (EndFunction variables ∷ acts) st = ended variables st (rebuild acts [])
rebuild (a ∷ acts) st = rebuild acts (next a st)

-- actions that make of what is open something else, whatever follows
abbrev Makes : List Action → List Entry → List Entry → Type 0
Makes xs st to = (acts : List Action) → rebuild (xs ++ acts) st ≡ rebuild acts to

before : (xs ys acts : List Action) (st to : List Entry) → Makes xs st to →
    rebuild ((xs ++ ys) ++ acts) st ≡ rebuild (ys ++ acts) to
before xs ys acts st to makes = ap (λ l. rebuild l st) (append_assoc xs ys acts) ∙ makes (ys ++ acts)

rebuild_middle : (op : Op) (st : List Entry) → Makes (middle op) st st
rebuild_middle op st acts = by (is_logic op)
  where
    by : (b : Bool) → rebuild ((if b then LogicMiddle op ∷ [] else []) ++ acts) st ≡ rebuild acts st
    by true = refl
    by false = refl

abbrev joined : Args → Args → Args
joined NoMore others = others
joined (Argument e rest) others = Argument e (joined rest others)

joined_none : (arguments : Args) → joined arguments NoMore ≡ arguments
joined_none NoMore = refl
joined_none (Argument e rest) = ap (λ others. Argument e others) (joined_none rest)

-- arguments on what is open, the last innermost
abbrev on : Args → List Entry → List Entry
on NoMore st = st
on (Argument e rest) st = on rest (AValue e ∷ st)

gathered : (f : Callee) (arguments others : Args) (st : List Entry) →
    gather f others (on arguments st) ≡ gather f (joined arguments others) st
gathered f NoMore others st = refl
gathered f (Argument e rest) others st = gathered f rest others (AValue e ∷ st)

gathered_call : (f : Callee) (arguments : Args) (st : List Entry) →
    gather f NoMore (on arguments (ACall ∷ st)) ≡ AValue (Call f arguments) ∷ st
gathered_call f arguments st =
    gathered f arguments NoMore (ACall ∷ st) ∙ ap (λ (xs : Args). AValue (Call f xs) ∷ st) (joined_none arguments)

mutual
  rebuild_expr : (e : Expr) (st : List Entry) → Makes (expr_actions e) st (AValue e ∷ st)
  rebuild_expr (Constant n) st acts = refl
  rebuild_expr (Variable v) st acts = refl
  rebuild_expr (Binary op a b) st acts =
      let right = expr_actions b ++ ApplyBinop op ∷ [] in
      before (expr_actions a) (middle op ++ right) acts st (AValue a ∷ st) (rebuild_expr a st)
      ∙ before (middle op) right acts (AValue a ∷ st) (AValue a ∷ st) (rebuild_middle op (AValue a ∷ st))
      ∙
      before (expr_actions b) (ApplyBinop op ∷ []) acts (AValue a ∷ st) (AValue b ∷ AValue a ∷ st)
      (rebuild_expr b (AValue a ∷ st))
  rebuild_expr (Assign op v e) st acts =
      before (expr_actions e) (StoreVariable v op ∷ []) acts st (AValue e ∷ st) (rebuild_expr e st)
  rebuild_expr (Postfix op v) st acts = refl
  rebuild_expr (Call f arguments) st acts =
      before (args_actions arguments) (EndCall f ∷ []) acts (ACall ∷ st) (on arguments (ACall ∷ st))
      (rebuild_args arguments (ACall ∷ st))
      ∙ ap (λ (st : List Entry). rebuild acts st) (gathered_call f arguments st)

  rebuild_args : (arguments : Args) (st : List Entry) → Makes (args_actions arguments) st (on arguments st)
  rebuild_args NoMore st acts = refl
  rebuild_args (Argument e rest) st acts =
      before (expr_actions e) (args_actions rest) acts st (AValue e ∷ st) (rebuild_expr e st)
      ∙ rebuild_args rest (AValue e ∷ st) acts

-- a body's statements on those before it
abbrev listed : Body → List (Body → Body) → List (Body → Body)
listed Done ss = ss
listed (ExpressionStatement e rest) ss = listed rest (ExpressionStatement e ∷ ss)
listed (IfStatement c s rest) ss = listed rest (IfStatement c s ∷ ss)
listed (IfElseStatement c s t rest) ss = listed rest (IfElseStatement c s t ∷ ss)
listed (While c s rest) ss = listed rest (While c s ∷ ss)
listed (Return e rest) ss = listed rest (Return e ∷ ss)

join_done : (b : Body) → join b Done ≡ b
join_done Done = refl
join_done (ExpressionStatement e rest) = ap (λ b. ExpressionStatement e b) (join_done rest)
join_done (IfStatement c s rest) = ap (λ b. IfStatement c s b) (join_done rest)
join_done (IfElseStatement c s t rest) = ap (λ b. IfElseStatement c s t b) (join_done rest)
join_done (While c s rest) = ap (λ b. While c s b) (join_done rest)
join_done (Return e rest) = ap (λ b. Return e b) (join_done rest)

whole_listed : (b behind : Body) (ss : List (Body → Body)) → whole (listed b ss) behind ≡ whole ss (join b behind)
whole_listed Done behind ss = refl
whole_listed (ExpressionStatement e rest) behind ss = whole_listed rest behind (ExpressionStatement e ∷ ss)
whole_listed (IfStatement c s rest) behind ss = whole_listed rest behind (IfStatement c s ∷ ss)
whole_listed (IfElseStatement c s t rest) behind ss = whole_listed rest behind (IfElseStatement c s t ∷ ss)
whole_listed (While c s rest) behind ss = whole_listed rest behind (While c s ∷ ss)
whole_listed (Return e rest) behind ss = whole_listed rest behind (Return e ∷ ss)

whole_is : (b : Body) → whole (listed b []) Done ≡ b
whole_is b = whole_listed b Done [] ∙ join_done b

rebuild_body : (b : Body) (head : Head) (ss : List (Body → Body)) (st : List Entry) →
    Makes (body_actions b) (ABody head ss ∷ st) (ABody head (listed b ss) ∷ st)
rebuild_body Done head ss st acts = refl
rebuild_body (ExpressionStatement e rest) head ss st acts =
    let here = ABody head ss ∷ st in
    before (expr_actions e) (Chop ∷ body_actions rest) acts here (AValue e ∷ here) (rebuild_expr e here)
    ∙ rebuild_body rest head (ExpressionStatement e ∷ ss) st acts
rebuild_body (IfStatement c s rest) head ss st acts =
    let here = ABody head ss ∷ st in
    before (expr_actions c) (IfTest ∷ (body_actions s ++ EndIf ∷ body_actions rest)) acts here (AValue c ∷ here)
    (rebuild_expr c here)
    ∙
    before (body_actions s) (EndIf ∷ body_actions rest) acts (ABody (First c) [] ∷ here)
    (ABody (First c) (listed s []) ∷ here) (rebuild_body s (First c) [] here)
    ∙
    ap (λ (s : Body). rebuild (body_actions rest ++ acts) (ABody head (IfStatement c s ∷ ss) ∷ st)) (whole_is s)
    ∙ rebuild_body rest head (IfStatement c s ∷ ss) st acts
rebuild_body (IfElseStatement c s t rest) head ss st acts =
    let here = ABody head ss ∷ st in
    let other = body_actions t ++ EndIf ∷ body_actions rest in
    before (expr_actions c) (IfTest ∷ (body_actions s ++ ElsePart ∷ other)) acts here (AValue c ∷ here)
    (rebuild_expr c here)
    ∙
    before (body_actions s) (ElsePart ∷ other) acts (ABody (First c) [] ∷ here) (ABody (First c) (listed s []) ∷ here)
    (rebuild_body s (First c) [] here)
    ∙ ap (λ (s : Body). rebuild (other ++ acts) (ABody (Second c s) [] ∷ here)) (whole_is s)
    ∙
    before (body_actions t) (EndIf ∷ body_actions rest) acts (ABody (Second c s) [] ∷ here)
    (ABody (Second c s) (listed t []) ∷ here) (rebuild_body t (Second c s) [] here)
    ∙
    ap (λ (t : Body). rebuild (body_actions rest ++ acts) (ABody head (IfElseStatement c s t ∷ ss) ∷ st)) (whole_is t)
    ∙ rebuild_body rest head (IfElseStatement c s t ∷ ss) st acts
rebuild_body (While c s rest) head ss st acts =
    let here = ABody head ss ∷ st in
    before (expr_actions c) (WhileTest ∷ (body_actions s ++ EndWhile ∷ body_actions rest)) acts here (AValue c ∷ here)
    (rebuild_expr c here)
    ∙
    before (body_actions s) (EndWhile ∷ body_actions rest) acts (ABody (Loop c) [] ∷ here)
    (ABody (Loop c) (listed s []) ∷ here) (rebuild_body s (Loop c) [] here)
    ∙
    ap (λ (s : Body). rebuild (body_actions rest ++ acts) (ABody head (While c s ∷ ss) ∷ st)) (whole_is s)
    ∙ rebuild_body rest head (While c s ∷ ss) st acts
rebuild_body (Return e rest) head ss st acts =
    let here = ABody head ss ∷ st in
    before (expr_actions e) (GiveBack ∷ body_actions rest) acts here (AValue e ∷ here) (rebuild_expr e here)
    ∙ rebuild_body rest head (Return e ∷ ss) st acts

rebuild_function : (k : ℕ) (f : tree.Function) (acts : List Action) →
    rebuild (function_actions k f ++ acts) [] ≡ without_names k f ∷ rebuild acts []
rebuild_function k f acts =
    let head = AFunction k f.parameters in
    before (body_actions f.body) (last_return ++ EndFunction (length f.variables) ∷ []) acts (ABody head [] ∷ [])
    (ABody head (listed f.body []) ∷ []) (rebuild_body f.body head [] [])
    ∙
    ap
    (λ (b : Body). record { number = k; parameters = f.parameters; variables = length f.variables; body = b }
    ∷ rebuild acts []) (whole_is f.body)

rebuild_functions : (functions : List tree.Function) (ks : List ℕ) →
    rebuild (functions_actions functions ks) [] ≡ told_functions functions ks
rebuild_functions functions [] = refl
rebuild_functions functions (k ∷ ks) = by (slice_get functions k) (rebuild_functions functions ks)
  where
    by : (f : Option tree.Function) → rebuild (functions_actions functions ks) [] ≡ told_functions functions ks →
        rebuild (numbered_actions k f ++ functions_actions functions ks) [] ≡
        told_numbered k f ++ told_functions functions ks
    by None others = others
    by (Some f) others =
        rebuild_function k f (functions_actions functions ks) ∙ ap (λ later. without_names k f ∷ later) others

rebuild_made : (made : List Function) → rebuild (made_actions made) [] ≡ told_trees made
rebuild_made [] = refl
rebuild_made (f ∷ fs) =
    rebuild_function f.number (function_tree f) (made_actions fs)
    ∙ ap (λ later. without_names f.number (function_tree f) ∷ later) (rebuild_made fs)

pub actions_determine_trees : ActionsDetermineTrees
actions_determine_trees file made same =
    sym (rebuild_functions file.functions file.order)
    ∙ ap (λ (acts : List Action). rebuild acts []) same ∙ rebuild_made made
