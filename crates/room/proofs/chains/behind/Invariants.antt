use Rattle.grammar.specs.Resolved.{IsAmong}
use Rattle.trees.specs.Laws.{told_trees}
use Rattle.room.specs.Chains.{numbers}
use Rattle.room.proofs.ChainLaws.{IsLeft}
use Rattle.room.proofs.chains.behind.Given as goal

-- if a function has the number, it is left
abbrev pub invariant-loop-caller : goal.invariant-loop-caller
invariant-loop-caller l =
    IsAmong l.number (numbers (told_trees l.functions)) → IsLeft l.functions l.caller-index l.number
