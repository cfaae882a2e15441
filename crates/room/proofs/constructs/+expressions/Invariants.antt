use Rattle.std.proofs.Common.{◌≤◌, map, drop, length}
use Rattle.trees.specs.Trees.{arguments, expr_tree}
use Rattle.room.specs.Constructs.{args_need}
use Rattle.room.specs.Counting.{CountsAs}
use Rattle.room.specs.Tables.{needs_in}
use Rattle.room.proofs.constructs.+expressions.Given as goal

-- the arguments from here on were counted
abbrev pub invariant-arguments_need-loop-left : goal.invariant-arguments_need-loop-left
invariant-arguments_need-loop-left l =
    record {
      within : l.left ≤ length l.exprs;
      counts :
          CountsAs l.need
          (args_need l.calls.short (needs_in l.calls.needs) (arguments (map expr_tree (drop l.left l.exprs))));
    }

abbrev pub decreases-arguments_need-loop-left : goal.decreases-arguments_need-loop-left
decreases-arguments_need-loop-left l = l.left
