use Rattle.cycles.specs.Expressions.{cycle}
use Rattle.cycles.specs.Spans.{◌⊕◌}
use Rattle.cycles.proofs.counted.Counted.full.Goals as goal

pub returns : goal.returns
returns c s t left right =
    let u = c.args.self in
    c.plus-2.ensures s (t ⊕ cycle u) left (c.plus.ensures t (cycle u) right c.cycle.ensures)
