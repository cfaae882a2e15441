use Rattle.std.proofs.Common.{[], ◌∷◌, ℕ}
use Rattle.grammar.specs.Grammar.{Part}
use Rattle.parser.specs.Defining.{StaysAt}
use Rattle.parser.specs.Advancing.{HasStayedOrAdvanced}
use Rattle.parser.specs.Paths.{GoesOn}
use Rattle.parser.specs.ScopedCursors.{scope_of, to_go}
use Rattle.parser.specs.Segment.{Derives}
use Rattle.parser.specs.Declarations.{declarations_of}
use Rattle.parser.proofs.name_lists.declarations.Given as goal

abbrev pub invariant-loop-declared : goal.invariant-loop-declared
invariant-loop-declared g l = record {
  matches : (depth : ℕ) →
      Derives depth (Part (declarations_of l.declared) ∷ []) (Part (declarations_of l.declared) ∷ []) [] []
      l.fn.parser.position l.parser.position;
  stays : StaysAt l.declared (scope_of l.fn.parser) (scope_of l.parser);
  passed : GoesOn (Part (declarations_of l.declared) ∷ []) (Part (declarations_of l.declared) ∷ [])
      l.fn.parser l.parser;
  kept : HasStayedOrAdvanced l.fn.parser l.parser;
}

abbrev pub decreases-loop-declared : goal.decreases-loop-declared
decreases-loop-declared g l = to_go l.parser
