use Rattle.std.proofs.Common.{[], ◌∷◌, ℕ}
use Rattle.grammar.specs.Grammar.{More, Part}
use Rattle.parser.specs.Defining.{StaysAt}
use Rattle.parser.specs.Advancing.{HasStayedOrAdvanced}
use Rattle.parser.specs.Paths.{GoesOn}
use Rattle.parser.specs.ScopedCursors.{scope_of, to_go}
use Rattle.parser.specs.Roles.{role_of}
use Rattle.parser.specs.Segment.{Derives}
use Rattle.parser.proofs.name_lists.more_names.Given as goal

abbrev pub invariant-loop-declared : goal.invariant-loop-declared
invariant-loop-declared g l = record {
  matches : (depth : ℕ) →
      Derives depth (Part (More (role_of l.declared)) ∷ []) (Part (More (role_of l.declared)) ∷ []) [] []
      l.fn.parser.position l.parser.position;
  stays : StaysAt l.declared (scope_of l.fn.parser) (scope_of l.parser);
  passed : GoesOn (Part (More (role_of l.declared)) ∷ []) (Part (More (role_of l.declared)) ∷ []) l.fn.parser l.parser;
  kept : HasStayedOrAdvanced l.fn.parser l.parser;
}

abbrev pub decreases-loop-declared : goal.decreases-loop-declared
decreases-loop-declared g l = to_go l.parser
