use Rattle.arena.proofs.Calm.{far_none}
use Rattle.arena.proofs.updates.move_measured_robots.Goals as goal

pub returns-then-apart-eq0-clause-far : goal.returns-then-apart-eq0-clause-far
returns-then-apart-eq0-clause-far c = far_none _
