use Rattle.derivations.proofs.Passing.{StaysNext}
use Rattle.derivations.proofs.addresses.SourcePositions.pass.Given as goal

abbrev pub invariant-loop-step : goal.invariant-loop-step
invariant-loop-step l =
    StaysNext l.profile l.initial.automaton l.initial.self l.next l.after l._step l.automaton l.self
