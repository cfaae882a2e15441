use Rattle.std.proofs.Common.{◌≡◌, ◌≤◌}
use Rattle.stages.proofs.operation_rows.add_pieces.Given as goal

-- the pieces so far end here or before, and with the code
abbrev pub invariant-loop-at : goal.invariant-loop-at
invariant-loop-at l = (l.next ≤ l.at) × (l.at ≡ l.count → l.next ≡ l.count)
