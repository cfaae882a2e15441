-- What is on the stack of a tree maker: the actions that it was made of, and what it leaves open.
use Rattle.std.specs.Prelude.{ℕ, ◌≡◌, List, [], ◌∷◌, ◌++◌, false, Some, is_some, IsTrue}
use Rattle.grammar.specs.declared.actions.Action.{Action}
use Rattle.grammar.specs.declared.actions.Action.TheVariants.{BeginCall, IfTest, ElsePart, BeginWhile, WhileTest}
use Rattle.grammar.specs.declared.actions.Action.TheVariants.{BeginFunction, EndFunction}
use Rattle.grammar.specs.Actions.{expr_actions, body_actions, function_actions, middle}
use Rattle.grammar.specs.Following.{Open, InFunction, AValue, BeforeRight, InCall, InBranch, InElse, BeforeTest, InLoopBody}
use Rattle.grammar.specs.Following.{Opened, follow}
use Rattle.grammar.specs.Laws.Origins.{origin_of, ends_in_return}
use Rattle.grammar.specs.Tree.{Body}
use Rattle.trees.specs.Trees.{expr_tree, body_tree, function_tree}
use Rattle.trees.specs.declared.tree.Function.{Function}
use Rattle.trees.specs.declared.tree_stack.BodyOwner.{BodyOwner}
use Rattle.trees.specs.declared.tree_stack.BodyOwner.TheVariants as body_owner
use Rattle.trees.specs.declared.tree_stack.OpenItem as entry
use Rattle.trees.specs.declared.tree_stack.OpenItem.TheVariants as open_item

-- what is open in a body
abbrev pub open_of_owner : BodyOwner → Body → Open
open_of_owner (body_owner.Function number parameters) body = InFunction parameters (ends_in_return false body)
open_of_owner (body_owner.First c) body = InBranch
open_of_owner (body_owner.Second c s) body = InElse
open_of_owner (body_owner.Loop c) body = InLoopBody

abbrev pub open_of : entry.OpenItem → Open
open_of (open_item.Value e) = AValue (origin_of (expr_tree e))
open_of (open_item.RightSide op) = BeforeRight op
open_of open_item.Call = InCall
open_of open_item.Test = BeforeTest
open_of (open_item.Body b) = open_of_owner b.heading (body_tree b.statements.items)

-- what is open, the innermost first
abbrev pub opened_of : List entry.OpenItem → Opened
opened_of [] = []
opened_of (x ∷ xs) = open_of x ∷ opened_of xs

-- the actions before the first statement of a body
abbrev pub heading_actions : BodyOwner → List Action
heading_actions (body_owner.Function number parameters) = BeginFunction number parameters ∷ []
heading_actions (body_owner.First c) = expr_actions (expr_tree c) ++ IfTest ∷ []
heading_actions (body_owner.Second c s) = expr_actions (expr_tree c)
    ++ IfTest ∷ (body_actions (body_tree s.items) ++ ElsePart ∷ [])
heading_actions (body_owner.Loop c) = BeginWhile ∷ (expr_actions (expr_tree c) ++ WhileTest ∷ [])

abbrev pub entry_actions : entry.OpenItem → List Action
entry_actions (open_item.Value e) = expr_actions (expr_tree e)
entry_actions (open_item.RightSide op) = middle op
entry_actions open_item.Call = BeginCall ∷ []
entry_actions open_item.Test = BeginWhile ∷ []
entry_actions (open_item.Body b) = heading_actions b.heading ++ body_actions (body_tree b.statements.items)

-- the actions that made what is on the stack, the innermost last
abbrev pub open_actions : List entry.OpenItem → List Action
open_actions [] = []
open_actions (x ∷ xs) = open_actions xs ++ entry_actions x

-- the action may come next, by what is open
abbrev pub IsAllowed : Action → List entry.OpenItem → Type 0
IsAllowed a xs = IsTrue (is_some (follow a (opened_of xs)))

-- after the action the stack is this one: it has that action more, and leaves open what the action does
pub record Continues (a : Action) (before behind : List entry.OpenItem) : Type 0 where
  pub follows : follow a (opened_of before) ≡ Some (opened_of behind)
  pub adds : open_actions before ++ a ∷ [] ≡ open_actions behind

-- the function is done, and nothing is open
pub record EndsFunctionTree (count : ℕ) (before behind : List entry.OpenItem) (f : Function) : Type 0 where
  pub variables : f.variables ≡ count
  pub nothing : behind ≡ []
  pub actions : function_actions f.number (function_tree f) ≡ open_actions before ++ EndFunction count ∷ []
