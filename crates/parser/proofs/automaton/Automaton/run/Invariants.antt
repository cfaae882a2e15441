use Rattle.parser.specs.declared.frames.Front.TheVariants as front
use Rattle.parser.specs.Automata.{KeepsBuilder, Stands, left_at}
use Rattle.parser.specs.Automata.{Start}
use Rattle.parser.proofs.automaton.Automaton.run.Given as goal

abbrev pub invariant-loop-front : goal.invariant-loop-front
invariant-loop-front g l = record {
  moved : (o : Start _) → Stands o g.B.Build.stands front.Source l.fn.self → Stands o g.B.Build.stands l.front l.self;
  builder : KeepsBuilder l.fn.self l.self;
}

abbrev pub decreases-loop-front : goal.decreases-loop-front
decreases-loop-front g l = left_at l.front l.self
