use Rattle.cycles.specs.Expressions.{cycle, three_cycles}
use Rattle.cycles.specs.Spans.{◌⊕◌, either}
use Rattle.cycles.proofs.counted.Counted.short_and.Goals as goal

pub returns : goal.returns
returns c s t left right =
    let u = c.args.self in
    let tested = c.plus-tested.ensures t (three_cycles u) right c.three_cycles.ensures in
    let behind = c.or.ensures (t ⊕ three_cycles u) (cycle u) tested c.cycle-decided.ensures in
    let rest = either (t ⊕ three_cycles u) (cycle u) in
    c.plus-2.ensures s (cycle u ⊕ rest) left (c.plus.ensures (cycle u) rest c.cycle.ensures behind)
