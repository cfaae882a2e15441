-- What a tree maker represents.
use Rattle.std.specs.Prelude.{ℕ, ◌+◌, ◌≡◌, ◌<◌, ◌≤◌, List, [], ◌∷◌, ◌++◌, Bool, true, false, Some}
use Rattle.grammar.specs.declared.actions.Action.{Action}
use Rattle.grammar.specs.declared.actions.Action.TheVariants.{BeginFunction, EndFunction}
use Rattle.grammar.specs.Actions.{code_length}
use Rattle.grammar.specs.Following.{follow_all}
use Rattle.grammar.specs.Profile.{Profile}
use Rattle.grammar.specs.ProfileNumbers.{IsProfile}
use Rattle.trees.specs.Opened.{opened_of, open_actions}
use Rattle.trees.specs.Trees.{made_actions}
use Rattle.trees.specs.declared.tree_stack.OpenItem.{OpenItem}
use Rattle.trees.specs.declared.tree.Function.{Function}

-- what a tree maker keeps: its profile, the functions that are done, what is open, the innermost first, and how many
-- instructions it counted
pub record TreeMaker : Type 0 where
  pub profile : Profile
  pub functions : List Function
  pub stack : List OpenItem
  pub length : ℕ

-- the instructions so far and the last NOP are within the profile's limit
abbrev pub FitsLimit : TreeMaker → Type 0
FitsLimit m = m.length + 1 ≤ m.profile.instructions

-- whether a function is open after the actions, if one was before or not
abbrev pub in_function : Bool → List Action → Bool
in_function before [] = before
in_function before (BeginFunction number parameters ∷ acts) = in_function true acts
in_function before (EndFunction variables ∷ acts) = in_function false acts
in_function before (a ∷ acts) = in_function before acts

-- the actions are those of the functions that are done, and after them those of what is open
pub record Builds (m : TreeMaker) (acts : List Action) : Type 0 where
  pub actions : acts ≡ made_actions m.functions ++ open_actions m.stack
  pub opens : follow_all acts [] ≡ Some (opened_of m.stack)
  pub counted : code_length m.profile acts ≡ m.length

-- the code exceeds the limit in a function that is still open
pub record ExceedsLimit (p : Profile) (acts : List Action) : Type 0 where
  pub over : p.instructions < code_length p acts + 1
  pub inside : in_function false acts ≡ true

-- A tree maker represents these actions by its profile: within the limit its trees have them, and past it only the code
-- is counted.
pub record TreeMakerRepresents (m : TreeMaker) (p : Profile) (acts : List Action) : Type 0 where
  pub profile : p ≡ m.profile
  pub known : IsProfile m.profile
  pub builds : FitsLimit m → Builds m acts
  pub passed : m.profile.instructions < m.length + 1 → ExceedsLimit m.profile acts
