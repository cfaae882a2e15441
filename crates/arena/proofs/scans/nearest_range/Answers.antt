use Rattle.arena.proofs.Nearest.{scan_is}
use Rattle.arena.proofs.scans.nearest_range.Goals as goal

pub returns : goal.returns
returns c = λ field e.
    scan_is field c.args.robot _ _ _ _ c.nearest.ensures.square (c.nearest.ensures.nearest field e) c.range_at.ensures
