use Rattle.know.proofs.NameLaws.{names_grown}
use Rattle.know.proofs.walkable.walkable.Goals as goal

pub loop-index-preserved : goal.loop-index-preserved
loop-index-preserved c =
    names_grown c.args.tokens.now c.loop-index.crumbs.list.items c.take.new.self.list.items c.loop-index.index
    c.index-tokens-index.result c.loop-index-test.true c.index-tokens-index.is c.loop-index.invariant
    c.in_ok-take.ensures
