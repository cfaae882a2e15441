use Rattle.std.proofs.Common.{◌≤◌, drop, length}
use Rattle.trees.specs.Trees.{body_tree}
use Rattle.room.specs.Constructs.{body_need}
use Rattle.room.specs.Counting.{CountsAs}
use Rattle.room.specs.Tables.{needs_in}
use Rattle.room.proofs.constructs.+statements.Given as goal

-- the statements from here on were counted
abbrev pub invariant-body_need-loop-left : goal.invariant-body_need-loop-left
invariant-body_need-loop-left l =
    record {
      within : l.left ≤ length l.statements;
      counts : CountsAs l.need
          (body_need l.calls.short (needs_in l.calls.needs) (body_tree (drop l.left l.statements)));
    }

abbrev pub decreases-body_need-loop-left : goal.decreases-body_need-loop-left
decreases-body_need-loop-left l = l.left
