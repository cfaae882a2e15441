-- Which lists of actions may be reported to a builder: the beginnings of those of some functions.
use Rattle.std.specs.Prelude.{◌≡◌, ◌<◌, ◌≤◌, List, [], ◌∷◌, ◌++◌, length}
use Rattle.grammar.specs.declared.actions.Action.{Action}
use Rattle.grammar.specs.Derivation.{Definition}
use Rattle.grammar.specs.NameLimits.{most_names}
use Rattle.grammar.specs.Nesting.{most_open}
use Rattle.grammar.specs.Nesting.{body_nesting}
use Rattle.grammar.specs.Resolved.{InBody}
use Rattle.grammar.specs.Actions.{function_actions}

-- the actions of functions that were defined
abbrev pub definitions_actions : List Definition → List Action
definitions_actions [] = []
definitions_actions (d ∷ ds) = function_actions d.number d.function ++ definitions_actions ds

-- a function whose numbers are within the limits, its own among them, and in which at most as many calls, ifs, whiles
-- and right sides of && and || are open at once as may be
pub record IsReportable (d : Definition) : Type 0 where
  pub number : d.number < most_names
  pub parameters : d.function.parameters ≤ length d.function.variables
  pub variables : length d.function.variables ≤ most_names
  pub names : InBody most_names most_names most_names d.function.body
  pub few : body_nesting d.function.body ≤ most_open

abbrev pub AreReportable : List Definition → Type 0
AreReportable [] = Unit {0}
AreReportable (d ∷ ds) = IsReportable d × AreReportable ds

-- there are functions whose actions begin with these
pub record IsBeginning (acts : List Action) : Type 0 where
  pub functions : List Definition
  pub reportable : AreReportable functions
  pub rest : List Action
  pub begins : acts ++ rest ≡ definitions_actions functions
