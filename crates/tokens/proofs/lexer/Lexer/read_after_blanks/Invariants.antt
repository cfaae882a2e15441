use Rattle.std.proofs.Common.{◌≡◌, ◌-◌}
use Rattle.tokens.specs.Tokens.{located_tokens}
use Rattle.tokens.specs.Lexing.{to_read}
use Rattle.tokens.proofs.TakenLemmas.{HasGoneOn}
use Rattle.tokens.proofs.lexer.Lexer.read_after_blanks.Given as goal

abbrev pub invariant-loop-self : goal.invariant-loop-self
invariant-loop-self g l = record {
  tokens : to_read located_tokens l.self.window (g.F.Feed.device l.feed).to_come ≡
      to_read located_tokens l.initial.self.window (g.F.Feed.device l.initial.feed).to_come;
  here : l.here ≡ l.initial.here;
  kept : HasGoneOn l.initial.self.window l.self.window (g.F.Feed.device l.initial.feed) (g.F.Feed.device l.feed);
}

abbrev pub decreases-loop-self : goal.decreases-loop-self
decreases-loop-self g l = 1048576 - l.self.window.offset
