-- A law of trees: what is reported of a file determines its trees.
use Rattle.std.specs.Prelude.{ℕ, ◌≡◌, List, [], ◌∷◌, ◌++◌, length, map, Option, Some, None, slice_get}
use Rattle.grammar.specs.Actions.{actions}
use Rattle.grammar.specs.Tree.{Body, File}
use Rattle.grammar.specs.Tree as tree
use Rattle.trees.specs.Trees.{function_tree, made_actions}
use Rattle.trees.specs.declared.tree.Function.{Function}

-- what actions say of a function: all but names
pub record UnnamedFunction : Type 0 where
  pub number : ℕ
  pub parameters : ℕ
  pub variables : ℕ
  pub body : Body

abbrev pub without_names : ℕ → tree.Function → UnnamedFunction
without_names number f = record {
  number = number;
  parameters = f.parameters;
  variables = length f.variables;
  body = f.body;
}

abbrev pub told_numbered : ℕ → Option tree.Function → List UnnamedFunction
told_numbered number None = []
told_numbered number (Some f) = without_names number f ∷ []

-- of the functions of these numbers, one after another
abbrev pub told_functions : List tree.Function → List ℕ → List UnnamedFunction
told_functions functions [] = []
told_functions functions (k ∷ ks) = told_numbered k (slice_get functions k) ++ told_functions functions ks

abbrev pub told_trees : List Function → List UnnamedFunction
told_trees made = map (λ (f : Function). without_names f.number (function_tree f)) made

-- Trees whose actions are those of a file are the file's, in the order of its definitions.
abbrev pub ActionsDetermineTrees : Type 0
ActionsDetermineTrees = (file : File) (made : List Function) → actions file ≡ made_actions made
    → told_functions file.functions file.order ≡ told_trees made
