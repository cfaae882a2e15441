use Rattle.std.proofs.Common.{◌≤◌}
use Rattle.lang_tests.proofs.tests.token_tests.Many.give.Given as goal

abbrev pub invariant-loop-b : goal.invariant-loop-b
invariant-loop-b l = l.count ≤ l.b-index
