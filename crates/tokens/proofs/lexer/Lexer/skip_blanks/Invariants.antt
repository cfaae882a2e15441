use Rattle.std.proofs.Common.{◌≡◌, ◌-◌}
use Rattle.tokens.specs.Tokens.{located_tokens}
use Rattle.tokens.specs.Lexing.{to_read}
use Rattle.tokens.proofs.TakenLemmas.{HasGoneOn}
use Rattle.tokens.proofs.lexer.Lexer.skip_blanks.Given as goal

abbrev pub invariant-loop-b : goal.invariant-loop-b
invariant-loop-b g l = record {
  tokens : to_read located_tokens l.self.window (g.F.Feed.device l.feed).to_come ≡
      to_read located_tokens l.initial.self.window (g.F.Feed.device l.initial.feed).to_come;
  kept : HasGoneOn l.initial.self.window l.self.window (g.F.Feed.device l.initial.feed) (g.F.Feed.device l.feed);
}

abbrev pub decreases-loop-b : goal.decreases-loop-b
decreases-loop-b g l = 1048576 - l.self.window.offset
