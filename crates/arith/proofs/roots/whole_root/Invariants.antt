use Rattle.std.proofs.Common.{◌+◌, ◌*◌, ◌<◌, ◌≤◌}
use Rattle.arith.proofs.roots.whole_root.Given as goal

-- the guess isn't below the root, and next is the iterate from it
abbrev pub invariant-loop-next : goal.invariant-loop-next
invariant-loop-next l = record {
  some : 0 < l.guess;
  bound : l.guess ≤ 65536;
  above : l.square < (l.guess + 1) * (l.guess + 1);
  next_above : l.square < (l.next + 1) * (l.next + 1);
  reached : l.guess ≤ l.next → l.guess * l.guess ≤ l.square;
}

abbrev pub decreases-loop-next : goal.decreases-loop-next
decreases-loop-next l = l.guess
