use Rattle.std.proofs.Common.{◌≡◌, ◌-◌}
use Rattle.tokens.specs.Lexing.{to_read, in_name}
use Rattle.tokens.proofs.TakenLemmas.{HasGoneOn}
use Rattle.tokens.proofs.lexer.Lexer.read_name_bytewise.Given as goal

abbrev pub invariant-loop-b : goal.invariant-loop-b
invariant-loop-b g l = record {
  tokens : to_read (in_name l.name l.too_long) l.self.window (g.F.Feed.device l.feed).to_come ≡
      to_read (in_name l.initial.name l.initial.too_long) l.initial.self.window
      (g.F.Feed.device l.initial.feed).to_come;
  here : l.here ≡ l.initial.here;
  kept : HasGoneOn l.initial.self.window l.self.window (g.F.Feed.device l.initial.feed) (g.F.Feed.device l.feed);
}

abbrev pub decreases-loop-b : goal.decreases-loop-b
decreases-loop-b g l = 1048576 - l.self.window.offset
