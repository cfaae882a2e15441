use Rattle.std.proofs.Common.{◌≡◌, ◌++◌, ℕ, take}
use Rattle.cycles.specs.Loops.{rows_of}
use Rattle.cycles.specs.Tables.{HasRuns}
use Rattle.cycles.specs.declared.spans.Span.{Span}
use Rattle.trees.specs.Trees.{body_tree}
use Rattle.cycles.proofs.loops.+turns.Given as goal

abbrev pub invariant-add_turns-loop-statement : goal.invariant-add_turns-loop-statement
invariant-add_turns-loop-statement l =
    (c q : ℕ → Span) → HasRuns l.cycles c → HasRuns l.questions q
    → l.turns.items
    ≡ l.fn.turns.items ++ rows_of l.cycles l.questions c q l.function (body_tree (take l.statement-index l.statements))
