use Rattle.std.proofs.Common.{◌≡◌, ◌-◌}
use Rattle.tokens.specs.Lexing.{to_read, in_punctuator}
use Rattle.tokens.proofs.TakenLemmas.{HasGoneOn}
use Rattle.tokens.proofs.lexer.Lexer.read_punctuator.Given as goal

abbrev pub invariant-loop-next : goal.invariant-loop-next
invariant-loop-next g l = record {
  tokens : to_read (in_punctuator l.punctuator) l.self.window (g.F.Feed.device l.feed).to_come ≡
      to_read (in_punctuator l.initial.punctuator) l.initial.self.window (g.F.Feed.device l.initial.feed).to_come;
  here : l.here ≡ l.initial.here;
  kept : HasGoneOn l.initial.self.window l.self.window (g.F.Feed.device l.initial.feed) (g.F.Feed.device l.feed);
}

abbrev pub decreases-loop-next : goal.decreases-loop-next
decreases-loop-next g l = 1048576 - l.self.window.offset
