use Rattle.std.proofs.Common.{◌≡◌, ◌-◌, ◌≤◌}
use Rattle.tokens.specs.Lexing.{to_read, in_constant}
use Rattle.tokens.proofs.TakenLemmas.{HasGoneOn}
use Rattle.tokens.proofs.lexer.Lexer.read_constant_bytewise.Given as goal

abbrev pub invariant-loop-b : goal.invariant-loop-b
invariant-loop-b g l = record {
  tokens : to_read (in_constant l.value) l.self.window (g.F.Feed.device l.feed).to_come ≡
      to_read (in_constant l.initial.value) l.initial.self.window (g.F.Feed.device l.initial.feed).to_come;
  bounded : l.value ≤ 2147483648;
  here : l.here ≡ l.initial.here;
  kept : HasGoneOn l.initial.self.window l.self.window (g.F.Feed.device l.initial.feed) (g.F.Feed.device l.feed);
}

abbrev pub decreases-loop-b : goal.decreases-loop-b
decreases-loop-b g l = 1048576 - l.self.window.offset
