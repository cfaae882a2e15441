use Rattle.std.proofs.Common.{◌≡◌}
use Rattle.tokens.specs.Window.{KnowsEnd}
use Rattle.derivations.proofs.locations.count_tokens.Given as goal

abbrev pub invariant-loop : goal.invariant-loop
invariant-loop l = record {
  failures : l.feed.failures ≡ 0;
  known : KnowsEnd l.cursor.window.beyond l.feed.ended;
}
