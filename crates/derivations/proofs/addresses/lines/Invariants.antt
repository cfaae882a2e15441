use Rattle.std.proofs.Common.{◌≡◌, ◌+◌, ◌≤◌}
use Rattle.tokens.specs.Cursors.{most_left}
use Rattle.tokens.specs.Window.{KnowsEnd}
use Rattle.tokens.specs.WindowLimits.{most_tokens}
use Rattle.derivations.proofs.Proceeding.{Proceeds}
use Rattle.derivations.proofs.addresses.lines.Given as goal

abbrev pub invariant-loop-token : goal.invariant-loop-token
invariant-loop-token l = record {
  known : KnowsEnd l.cursor.window.beyond l.feed.ended;
  left : most_left l.cursor + l._token ≤ most_tokens;
  source : l.finder.source.now ≡ l.source;
  end : l.finder.end ≡ l.cursor.next.end;
  proceeds : Proceeds l.profile l.source l._token l.cursor l.feed.rest.now l.next l.automaton l.found;
}
