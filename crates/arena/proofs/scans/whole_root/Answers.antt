use Rattle.arena.proofs.Newton.{next_near, root_is}
use Rattle.arena.proofs.scans.whole_root.Goals as goal

pub loop-guess-preserved : goal.loop-guess-preserved
loop-guess-preserved c = record {
  some = c.loop-guess.invariant.some;
  near = rw c.newton_iterate-guess.ensures
      (next_near c.args.square c.loop-guess.guess c.loop-guess.invariant.some c.loop-guess.invariant.near
      c.loop-guess-test.true);
}

pub returns : goal.returns
returns c =
    root_is c.args.square c.loop-guess.guess c.requires.most c.loop-guess.invariant.near c.loop-guess-test.false
