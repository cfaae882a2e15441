use Rattle.std.specs.Prelude.{None}
use Rattle.cycles.specs.declared.spans.Ends.{Ends}
use Rattle.cycles.specs.Ends.{after, one_branch, repeated}
use Rattle.cycles.proofs.spans.Ends.behind_loop.Goals as goal

pub returns : goal.returns
returns c o s inside next turn test gives behind =
    let only : Ends = record { through = None; returns = inside.returns } in
    let left : Ends = one_branch only next in
    let both = c.or.ensures only next (λ i. record { through = None; returns = (gives i).returns }) behind in
    c.after-2.ensures (repeated o) (after s left) (c.repeated.ensures o turn) (c.after.ensures s left test both)
