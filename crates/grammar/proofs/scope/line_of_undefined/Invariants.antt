use Rattle.std.proofs.Common.{◌≡◌, drop}
use Rattle.grammar.specs.Laws.Naming.{line_of_undefined}
use Rattle.grammar.proofs.scope.line_of_undefined.Given as goal

-- the definition of each function so far began
abbrev pub invariant-loop-number : goal.invariant-loop-number
invariant-loop-number l =
    line_of_undefined 0 l.lines l.begun ≡ line_of_undefined l.number (drop l.number l.lines) l.begun
