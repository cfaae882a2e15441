use Rattle.std.proofs.Common.{◌≡◌, ◌++◌, List}
use Rattle.watching.specs.Heard.{Heard, ends_heard}
use Rattle.watching.proofs.cameras.Camera.end.Given as goal

abbrev pub invariant-loop-robot : goal.invariant-loop-robot
invariant-loop-robot g l = record {
  kept : g.R.Listener.keeps l.self.rows ≡ g.R.Listener.keeps l.initial.self.rows;
  seen : l.self.seen ≡ l.initial.self.seen;
  heard : (events : List Heard) → g.R.Listener.heard l.initial.self.rows events
      → g.R.Listener.heard l.self.rows (events ++ ends_heard l.cycle l.kind l.initial.self.seen l.robot);
}
