use Rattle.std.proofs.Common.{◌≡◌, List, false}
use Rattle.grammar.specs.Tree.{File}
use Rattle.code.specs.Codes.{AreProgramsOf}
use Rattle.series.specs.Pieces.{taken_by_sinks, Writes}
use Rattle.series.specs.Playing.{reports}
use Rattle.sinks.specs.Portions.{SinkState}
use Rattle.series.proofs.runs.play_all.Given as goal

-- n matches were played, and their reports written; no write has failed
abbrev pub invariant-loop : goal.invariant-loop
invariant-loop g l = record {
  standing : l.series ≡ record { settings = l.fn.settings; programs = l.programs; played = l.counter; failed = false };
  calm : (g.O.Sink.written l.out).failures ≡ (g.O.Sink.written l.fn.out).failures;
  writes : (files : List File) (faults : SinkState) → AreProgramsOf l.programs l.fn.settings.profile files
      →
      Writes (taken_by_sinks (g.O.Sink.written l.fn.out) faults) (taken_by_sinks (g.O.Sink.written l.out) faults)
      (reports l.fn.settings files l.counter);
}
