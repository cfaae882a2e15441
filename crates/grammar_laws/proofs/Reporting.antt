-- What is emitted, as a weakest precondition by recursion on the stack: what each item adds to the trees and the
-- actions.
-- The limits on names and nesting hold if `A` does: for a law without limits it is taken to be absurd.
use Rattle.std.proofs.Common.{◌≡◌, ℕ, ◌+◌, ◌<◌, ◌≤◌, List, [], ◌∷◌, ◌++◌}
use Rattle.std.specs.Prelude.{◌-◌, ◌*◌, pos}
use Rattle.grammar.specs.declared.resolved_names.Callee.{Callee}
use Rattle.grammar.specs.declared.resolved_names.Var.{Var}
use Rattle.grammar.specs.declared.actions.Action.{Action}
use Rattle.grammar.specs.declared.actions.Action.TheVariants.{PushConstant, BeginCall, IfTest, BeginFunction}
use Rattle.grammar.specs.Actions.{expr_actions, args_actions, body_actions}
use Rattle.grammar.specs.Beginning.{AreReportable}
use Rattle.grammar.specs.Derivation.{PartialTree, AnExpr, AVariable, ACall, ABody, Definition, last_body, trees_after}
use Rattle.grammar_laws.specs.Emission.{on_rule}
use Rattle.grammar.specs.Faults.{nested_count}
use Rattle.grammar.specs.Beginning.{definitions_actions}
use Rattle.grammar.specs.Grammar.{Symbol, Source, Types, Head, More, Parameters, ParameterTypes, FunctionBlock, Block}
use Rattle.grammar.specs.Grammar.{Declarations, Statements, Statement, ElsePart, Back, Expression, Level, Tail, Unary}
use Rattle.grammar.specs.Grammar.{Primary, Arguments, MoreArguments, Role, Defined, Parameter, Called, Mentioned, Item}
use Rattle.grammar.specs.Grammar.{Exactly, AKeyword, AName, AConstant, AnEnd, Part, Make, Close, SemanticAction, Define}
use Rattle.grammar.specs.NameLimits.{most_names, most_nested}
use Rattle.grammar.specs.Nesting.{nesting, args_nesting, body_nesting}
use Rattle.grammar.specs.Resolved.{IsVariable, IsCallable, InExpr, InArgs, InBody}
use Rattle.grammar.specs.Tree as tree
use Rattle.grammar.specs.Tree.{Expr, Args, Body}

-- Trees within the limits: their names, and how much is open in them at once.

pub record ExprFits (A : Type 0) (room : ℕ) (e : Expr) : Type 0 where
  pub names : A → InExpr most_names most_names most_names e
  pub few : A → nesting e ≤ room

pub record ArgsFit (A : Type 0) (room : ℕ) (args : Args) : Type 0 where
  pub names : A → InArgs most_names most_names most_names args
  pub few : A → args_nesting args ≤ room

pub record BodyFits (A : Type 0) (room : ℕ) (b : Body) : Type 0 where
  pub names : A → InBody most_names most_names most_names b
  pub few : A → body_nesting b ≤ room

-- what is true of the trees, of the number and the parameters of the function that is being defined, of the functions
-- defined, and of the actions
abbrev pub Fact : Type 1
Fact = List PartialTree → ℕ → ℕ → List Definition → List Action → Type 0

-- Trees that grow.

-- the expression so far, and what any larger one leads to
pub record Extends (A : Type 0) (room : ℕ) (next : Expr → List Action → Type 0) (e : Expr)
    (acts : List Action) : Type 0 where
  pub base : List Action
  pub reported : base ++ expr_actions e ≡ acts
  pub fits : ExprFits A room e
  pub on : (x : Expr) → ExprFits A room x → next x (base ++ expr_actions x)

pub record Collects (A : Type 0) (room : ℕ) (next : Args → List Action → Type 0) (args : Args)
    (acts : List Action) : Type 0 where
  pub base : List Action
  pub reported : base ++ args_actions args ≡ acts
  pub fits : ArgsFit A room args
  pub on : (xs : Args) → ArgsFit A room xs → next xs (base ++ args_actions xs)

pub record Adds (A : Type 0) (least : ℕ) (next : Body → List Action → Type 0) (b : Body)
    (acts : List Action) : Type 0 where
  pub base : List Action
  pub room : ℕ
  pub enough : A → least ≤ room
  pub reported : base ++ body_actions b ≡ acts
  pub fits : BodyFits A room b
  pub on : (x : Body) → BodyFits A room x → next x (base ++ body_actions x)

-- after the first branch of an if
pub record Branches (A : Type 0) (least : ℕ) (next : Body → List Action → Type 0) (s : Body) (c : Expr) (b : Body)
    (acts : List Action) : Type 0 where
  pub base : List Action
  pub room : ℕ
  pub enough : A → least + 1 ≤ room
  pub reported : base ++ (body_actions b ++ (expr_actions c ++ IfTest ∷ body_actions s)) ≡ acts
  pub fits : BodyFits A room b
  pub condition : ExprFits A least c
  pub first : BodyFits A least s
  pub on : (x : Body) → BodyFits A room x → next x (base ++ body_actions x)

-- between functions
pub record Between (A : Type 0) (next : Fact) (ds : List Definition) (acts : List Action) : Type 0 where
  pub reported : definitions_actions ds ≡ acts
  pub fit : A → AreReportable ds
  pub on : (values : List PartialTree) (n k : ℕ) (more : List Definition) → (A → AreReportable more) →
      next values n k more (definitions_actions more)

-- at a function's end
pub record Defines (A : Type 0) (next : Fact) (values : List PartialTree) (n k : ℕ) (ds : List Definition)
    (acts : List Action) : Type 0 where
  pub reported : definitions_actions ds ++ (BeginFunction n k ∷ body_actions (last_body values)) ≡ acts
  pub fit : A → AreReportable ds
  pub body : BodyFits A 200 (last_body values)
  pub numbers : A → (n < most_names) × (k ≤ most_names)
  pub on : (left : List PartialTree) (m j : ℕ) (more : List Definition) → (A → AreReportable more) →
      next left m j more (definitions_actions more)

pub record Ends (A : Type 0) (ds : List Definition) (acts : List Action) : Type 0 where
  pub reported : definitions_actions ds ≡ acts
  pub fit : A → AreReportable ds

-- The last trees.

abbrev pub OnExpr : (Expr → List PartialTree → Type 0) → List PartialTree → Type 0
OnExpr P (AnExpr e ∷ below) = P e below
OnExpr P values = ⊥

abbrev pub OnCall : (Callee → Args → List PartialTree → Type 0) → List PartialTree → Type 0
OnCall P (ACall f args ∷ below) = P f args below
OnCall P values = ⊥

abbrev pub OnBody : (Body → List PartialTree → Type 0) → List PartialTree → Type 0
OnBody P (ABody b ∷ below) = P b below
OnBody P values = ⊥

abbrev pub OnBranch : (Body → Expr → Body → List PartialTree → Type 0) → List PartialTree → Type 0
OnBranch P (ABody s ∷ AnExpr c ∷ ABody b ∷ below) = P s c b below
OnBranch P values = ⊥

-- Items.

abbrev pub Gives : Type 0 → ℕ → Fact → Fact
Gives A room next values n k ds acts = (e : Expr) → ExprFits A room e →
    next (AnExpr e ∷ values) n k ds (acts ++ expr_actions e)

abbrev pub Goes : Type 0 → ℕ → Fact → Fact
Goes A room next values n k ds acts = OnExpr (λ e below.
    Extends A room (λ x more. next (AnExpr x ∷ below) n k ds more) e acts) values

abbrev pub Passed : Type 0 → ℕ → Fact → Fact
Passed A room next values n k ds acts = OnCall (λ f args below.
    Collects A room (λ xs more. next (ACall f xs ∷ below) n k ds more) args acts) values

abbrev pub Stated : Type 0 → ℕ → Fact → Fact
Stated A least next values n k ds acts = OnBody (λ b below.
    Adds A least (λ x more. next (ABody x ∷ below) n k ds more) b acts) values

abbrev pub Branched : Type 0 → ℕ → Fact → Fact
Branched A least next values n k ds acts = OnBranch
    (λ s c b below. Branches A least (λ x more. next (ABody x ∷ below) n k ds more) s c b acts) values

abbrev pub Named : Type 0 → Role → Fact → Fact
Named A Defined next values n k ds acts = (m j : ℕ) → next values m j ds acts
Named A Parameter next values n k ds acts = (j : ℕ) → next values n j ds acts
Named A Called next values n k ds acts = (f : Callee) → (A → IsCallable most_names f) →
    next (ACall f tree.NoMore ∷ values) n k ds (acts ++ BeginCall ∷ [])
Named A Mentioned next values n k ds acts = (v : Var) → (A → IsVariable most_names most_names v) →
    next (AVariable v ∷ values) n k ds acts
Named A role next values n k ds acts = next values n k ds acts

abbrev pub Listed : Role → Fact → Fact
Listed Defined next values n k ds acts = ⊥
Listed Parameter next values n k ds acts = (j : ℕ) → next values n j ds acts
Listed Called next values n k ds acts = ⊥
Listed Mentioned next values n k ds acts = ⊥
Listed role next values n k ds acts = next values n k ds acts

-- how much may be open at once within this many levels, without the right sides of && and ||
abbrev pub room_in : List Item → ℕ
room_in stack = 3 * (most_nested - nested_count stack)

abbrev pub Parted : Type 0 → Symbol → ℕ → Fact → Fact
Parted A Source room next values n k ds acts = Between A next ds acts
Parted A Types room next values n k ds acts = next values n k ds acts
Parted A Head room next values n k ds acts = Between A next ds acts
Parted A (More role) room next values n k ds acts = Listed role next values n k ds acts
Parted A Parameters room next values n k ds acts = (j : ℕ) → next values n j ds acts
Parted A ParameterTypes room next values n k ds acts = next values n k ds acts
Parted A FunctionBlock room next values n k ds acts = Between A next ds acts
Parted A Block room next values n k ds acts = Stated A (room + 2) next values n k ds acts
Parted A Declarations room next values n k ds acts = next values n k ds acts
Parted A Statements room next values n k ds acts = Stated A (room + 2) next values n k ds acts
Parted A Statement room next values n k ds acts = Stated A (room + 2) next values n k ds acts
Parted A ElsePart room next values n k ds acts = Branched A (room + 2) next values n k ds acts
Parted A Back room next values n k ds acts = Gives A (room + 2) next values n k ds acts
Parted A Expression room next values n k ds acts = Gives A (room + 2) next values n k ds acts
Parted A (Level m) room next values n k ds acts = Gives A (room + (3 - m)) next values n k ds acts
Parted A (Tail m) room next values n k ds acts = Goes A (room + (3 - m)) next values n k ds acts
Parted A Unary room next values n k ds acts = Gives A room next values n k ds acts
Parted A Primary room next values n k ds acts = Gives A room next values n k ds acts
Parted A Arguments room next values n k ds acts = Passed A (room + 2) next values n k ds acts
Parted A MoreArguments room next values n k ds acts = Passed A (room + 2) next values n k ds acts

abbrev pub Ruled : Type 0 → SemanticAction → List Item → Fact → Fact
Ruled A Define stack next values n k ds acts = Defines A next values n k ds acts
Ruled A rule stack next values n k ds acts = next (trees_after rule values) n k ds (acts ++ on_rule rule stack values 0)

abbrev pub ItemReports : Type 0 → Item → List Item → Fact → Fact
ItemReports A (Exactly m) stack next values n k ds acts = next values n k ds acts
ItemReports A (AKeyword w) stack next values n k ds acts = next values n k ds acts
ItemReports A (AName role) stack next values n k ds acts = Named A role next values n k ds acts
ItemReports A AConstant stack next values n k ds acts = (value : ℕ) →
    next (AnExpr (tree.Constant (pos value)) ∷ values) n k ds (acts ++ PushConstant (pos value) ∷ [])
ItemReports A AnEnd stack next values n k ds acts = next values n k ds acts
ItemReports A (Part symbol) stack next values n k ds acts = Parted A symbol (room_in stack) next values n k ds acts
ItemReports A (Make rule) stack next values n k ds acts = Ruled A rule stack next values n k ds acts
ItemReports A Close stack next values n k ds acts = next values n k ds acts

abbrev pub Reports : Type 0 → List Item → Fact
Reports A [] values n k ds acts = Ends A ds acts
Reports A (item ∷ stack) values n k ds acts = ItemReports A item stack (Reports A stack) values n k ds acts
