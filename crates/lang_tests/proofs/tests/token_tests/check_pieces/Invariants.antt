use Rattle.std.proofs.Common.{◌≡◌}
use Rattle.tokens.specs.Window.{KnowsEnd}
use Rattle.lang_tests.proofs.tests.token_tests.check_pieces.Given as goal

abbrev pub invariant-loop-i : goal.invariant-loop-i
invariant-loop-i g l = record {
  failures : l.feed.failures ≡ 0;
  known : KnowsEnd l.cursor.window.beyond l.feed.ended;
}
