use Rattle.std.proofs.Common.{◌≡◌, ◌≤◌, ◌++◌, List, length, map, take}
use Rattle.arena.specs.Field.{Field}
use Rattle.arena.specs.Representing.{RepresentsField}
use Rattle.watching.specs.Heard.{Heard, burst_heard, loss_heard, losses_heard}
use Rattle.watching.proofs.events.Listener.tell_update.Given as goal

abbrev pub invariant-loop-burst : goal.invariant-loop-burst
invariant-loop-burst g l = record {
  kept : g.Self.Listener.keeps l.self ≡ g.Self.Listener.keeps l.initial.self;
  shown : g.Self.Listener.shows l.self ≡ g.Self.Listener.shows l.initial.self;
  heard : (events : List Heard) → g.Self.Listener.heard l.initial.self events
      → g.Self.Listener.heard l.self (events ++ map (burst_heard l.cycle) (take l.burst-index l.bursts));
}

abbrev pub invariant-loop-robot : goal.invariant-loop-robot
invariant-loop-robot g l = record {
  kept : g.Self.Listener.keeps l.self ≡ g.Self.Listener.keeps l.initial.self;
  shown : g.Self.Listener.shows l.self ≡ g.Self.Listener.shows l.initial.self;
  heard : (events : List Heard) (f : Field) → RepresentsField l.arena f → length f.robots ≤ 4
      → g.Self.Listener.heard l.initial.self events
      → g.Self.Listener.heard l.self (events ++ losses_heard l.cycle f l.robot);
}

abbrev pub invariant-loop-loss : goal.invariant-loop-loss
invariant-loop-loss g l = record {
  kept : g.Self.Listener.keeps l.self ≡ g.Self.Listener.keeps l.initial.self;
  shown : g.Self.Listener.shows l.self ≡ g.Self.Listener.shows l.initial.self;
  heard : (events : List Heard) → g.Self.Listener.heard l.initial.self events
      → g.Self.Listener.heard l.self (events ++ map (loss_heard l.cycle l.robot) (take l.loss-index l.parts));
}
