use Rattle.std.proofs.Common.{◌≡◌, [], ◌∷◌, ℕ}
use Rattle.grammar.specs.Grammar.{Types, Part}
use Rattle.parser.specs.Advancing.{HasStayedOrAdvanced}
use Rattle.parser.specs.Paths.{GoesOn}
use Rattle.parser.specs.ScopedCursors.{scope_of, to_go}
use Rattle.parser.specs.Segment.{Derives}
use Rattle.parser.proofs.name_lists.type_words.Given as goal

abbrev pub invariant-loop-parser : goal.invariant-loop-parser
invariant-loop-parser g l = record {
  matches : (depth : ℕ) →
      Derives depth (Part Types ∷ []) (Part Types ∷ []) [] [] l.fn.parser.position l.parser.position;
  scope : scope_of l.parser ≡ scope_of l.fn.parser;
  passed : GoesOn (Part Types ∷ []) (Part Types ∷ []) l.fn.parser l.parser;
  kept : HasStayedOrAdvanced l.fn.parser l.parser;
}

abbrev pub decreases-loop-parser : goal.decreases-loop-parser
decreases-loop-parser g l = to_go l.parser
