-- What is on the stack of a tree maker, the innermost first.
use Rattle.std.specs.Prelude.{◌≡◌, List, [], ◌∷◌, ◌++◌, Bool, true, false}
use Rattle.trees.specs.declared.tree_stack.OpenBody as body_type
use Rattle.trees.specs.declared.tree_stack.BodyOwner.{BodyOwner}
use Rattle.trees.specs.declared.tree_stack.OpenItem.{OpenItem}
use Rattle.trees.specs.declared.tree_stack.OpenItem.TheVariants.{Value, RightSide, Body}
use Rattle.trees.specs.declared.tree.Expr.{Expr}
use Rattle.trees.specs.declared.tree.Statement.{Statement}

abbrev pub ends_in_value : List OpenItem → Bool
ends_in_value (Value e ∷ xs) = true
ends_in_value xs = false

abbrev pub ends_in_body : List OpenItem → Bool
ends_in_body (Body b ∷ xs) = true
ends_in_body xs = false

-- what is open below the middle of `&&` or `||`, if that is the innermost
abbrev pub past_middle : List OpenItem → List OpenItem
past_middle (RightSide op ∷ xs) = xs
past_middle xs = xs

-- the innermost body has this statement more
pub record AddsStatement (s : Statement) (before behind : List OpenItem) : Type 0 where
  pub body : body_type.OpenBody
  pub longer : body_type.OpenBody
  pub rest : List OpenItem
  pub was : before ≡ Body body ∷ rest
  pub is : behind ≡ Body longer ∷ rest
  pub heading : longer.heading ≡ body.heading
  pub adds : longer.statements.items ≡ body.statements.items ++ s ∷ []

-- a body without statements is the innermost
pub record BeginsBody (h : BodyOwner) (before behind : List OpenItem) : Type 0 where
  pub body : body_type.OpenBody
  pub is : behind ≡ Body body ∷ before
  pub heading : body.heading ≡ h
  pub empty : body.statements.items ≡ []

-- the values above the innermost call, in order
abbrev pub above_call : List OpenItem → List Expr
above_call (Value e ∷ xs) = above_call xs ++ e ∷ []
above_call xs = []

-- what is open below that call
abbrev pub below_call : List OpenItem → List OpenItem
below_call (Value e ∷ xs) = below_call xs
below_call (x ∷ xs) = xs
below_call [] = []

-- what is open below the innermost
abbrev pub below_innermost : List OpenItem → List OpenItem
below_innermost [] = []
below_innermost (x ∷ xs) = xs

abbrev pub without_last : List Statement → List Statement
without_last [] = []
without_last (s ∷ []) = []
without_last (s ∷ t ∷ ss) = s ∷ without_last (t ∷ ss)
