use Rattle.std.proofs.Common.{◌≡◌, ◌++◌, length, reverse}
use Rattle.trees.specs.TreeStacks.{above_call, below_call}
use Rattle.trees.proofs.tree_stack.TreeStack.take_arguments.Given as goal

abbrev pub invariant-loop-self : goal.invariant-loop-self
invariant-loop-self l =
    (above_call l.self ++ reverse l.arguments.items ≡ above_call l.initial.self) ×
    (below_call l.self ≡ below_call l.initial.self)

abbrev pub decreases-loop-self : goal.decreases-loop-self
decreases-loop-self l = length l.self
