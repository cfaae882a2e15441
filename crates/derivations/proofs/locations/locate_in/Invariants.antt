use Rattle.std.proofs.Common.{◌≡◌}
use Rattle.std.specs.Prelude.{Some, drop}
use Rattle.tokens.specs.Cursors.{shown}
use Rattle.tokens.specs.Tokens.{tokens}
use Rattle.tokens.specs.Window.{KnowsEnd}
use Rattle.derivations.proofs.locations.locate_in.Given as goal

-- the cursor shows the tokens behind those that were found
abbrev pub invariant-loop-token : goal.invariant-loop-token
invariant-loop-token l = record {
  failures : l.feed.failures ≡ 0;
  known : KnowsEnd l.cursor.window.beyond l.feed.ended;
  shows : shown l.cursor (Some l.feed.to_come) ≡ Some (drop l._token (tokens l.source));
}
