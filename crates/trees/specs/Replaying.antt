-- What is reported of trees to a builder.
use Rattle.std.specs.Prelude.{◌+◌, ◌<◌, List, [], ◌++◌}
use Rattle.grammar.specs.declared.actions.Action.{Action}
use Rattle.grammar.specs.Actions.{code_length}
use Rattle.grammar.specs.Building.{Representation, AppendsAll}
use Rattle.grammar.specs.Profile.{Profile}
use Rattle.trees.specs.TreeMakers.{TreeMaker, TreeMakerRepresents}

-- the empty list is represented
pub record RepresentsNoActions (before : Representation) : Type 0 where
  pub profile : Profile
  pub stood : before profile []

-- after these actions the code and the last NOP exceed the profile's limit
abbrev pub IsOverWith : Representation → List Action → Type 0
IsOverWith before more = (profile : Profile) (acts : List Action) → before profile acts
    → profile.instructions < code_length profile (acts ++ more) + 1

-- each list represented before is represented with the actions that the maker represents
abbrev pub AppendsThose : TreeMaker → Representation → Representation → Type 0
AppendsThose maker before behind = (profile : Profile) (acts : List Action) → TreeMakerRepresents maker profile acts
    → AppendsAll before behind acts

-- with the actions that the maker represents, the code exceeds the limit
abbrev pub IsOverWithThose : TreeMaker → Representation → Type 0
IsOverWithThose maker before = (profile : Profile) (acts : List Action) → TreeMakerRepresents maker profile acts
    → IsOverWith before acts
