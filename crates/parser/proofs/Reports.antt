-- Several actions that are reported one after another.
use Rattle.std.proofs.Common.{List, ◌∷◌, ◌++◌}
use Rattle.grammar.specs.declared.actions.Action.{Action}
use Rattle.grammar.specs.Building.{AppendsAll, MayFollow, MayFollowAll, Representation}
use Rattle.grammar.proofs.RepresentationLaws.{may_first, may_then}

-- after those reported so far the next may follow
pub next_follows : (before now : Representation) (acts : List Action) (action : Action) (more : List Action) →
    MayFollowAll before (acts ++ action ∷ more) → AppendsAll before now acts → MayFollow now action
next_follows before now acts action more f reported =
    may_first now action more (may_then before now acts (action ∷ more) reported f)
