use Rattle.std.proofs.Common.{arith}
use Rattle.arith.proofs.RootLemmas.{some_root}
use Rattle.arith.proofs.roots.whole_root.Goals as goal

pub loop-next-preserved : goal.loop-next-preserved
loop-next-preserved c = record {
  some = some_root c.args.square c.loop-next.next (omega arith) c.loop-next.invariant.next_above;
  bound = omega (arith, c.loop-next.invariant.bound);
  above = c.loop-next.invariant.next_above;
  next_above = c.newton_iterate-next-in-loop-next.ensures.above;
  reached = c.newton_iterate-next-in-loop-next.ensures.reached;
}
