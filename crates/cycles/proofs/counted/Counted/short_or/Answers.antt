use Rattle.cycles.specs.Expressions.{cycle, three_cycles}
use Rattle.cycles.specs.Spans.{◌⊕◌, either}
use Rattle.cycles.proofs.counted.Counted.short_or.Goals as goal

pub returns : goal.returns
returns c s t left right =
    let u = c.args.self in
    let tested = c.plus-tested.ensures t (cycle u) right c.cycle.ensures in
    let behind = c.or.ensures (three_cycles u) (t ⊕ cycle u) c.three_cycles-decided.ensures tested in
    let rest = either (three_cycles u) (t ⊕ cycle u) in
    c.plus-2.ensures s (cycle u ⊕ rest) left (c.plus.ensures (cycle u) rest c.cycle-2.ensures behind)
