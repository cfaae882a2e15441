use Rattle.std.proofs.Common.{◌≡◌, ◌≤◌, ◌++◌, ℕ, List}
use Rattle.std.specs.Prelude.{slice_get}
use Rattle.arena.specs.Field.{Field}
use Rattle.arena.specs.Representing.{RepresentsField}
use Rattle.watching.specs.Heard.{Heard, looks_heard}
use Rattle.watching.proofs.cameras.Camera.look.Given as goal

abbrev pub invariant-loop-robot : goal.invariant-loop-robot
invariant-loop-robot g l = record {
  kept : g.R.Listener.keeps l.self.rows ≡ g.R.Listener.keeps l.initial.self.rows;
  shown : g.R.Listener.shows l.self.rows ≡ g.R.Listener.shows l.initial.self.rows;
  robots : l.self.robots ≡ l.initial.self.robots;
  rest : (other : ℕ) → l.robot ≤ other → slice_get l.self.seen other ≡ slice_get l.initial.self.seen other;
  heard : (events : List Heard) (f : Field) → RepresentsField l.arena f → g.R.Listener.heard l.initial.self.rows events
      → g.R.Listener.heard l.self.rows (events ++ looks_heard l.cycle l.initial.self.seen f
      (g.R.Listener.shows l.initial.self.rows l.cycle) l.robot);
}
