use Rattle.std.proofs.Common.{◌≡◌, ℕ, ◌-◌}
use Rattle.tokens.specs.Lexing.{to_read, in_comment}
use Rattle.tokens.proofs.TakenLemmas.{HasGoneOn}
use Rattle.tokens.proofs.lexer.Lexer.skip_comment.Given as goal

abbrev pub invariant-loop-self : goal.invariant-loop-self
invariant-loop-self g l = record {
  tokens : (line : ℕ) →
      to_read (in_comment line) l.self.window (g.F.Feed.device l.feed).to_come ≡
      to_read (in_comment line) l.initial.self.window (g.F.Feed.device l.initial.feed).to_come;
  kept : HasGoneOn l.initial.self.window l.self.window (g.F.Feed.device l.initial.feed) (g.F.Feed.device l.feed);
}

abbrev pub decreases-loop-self : goal.decreases-loop-self
decreases-loop-self g l = 1048576 - l.self.window.offset
