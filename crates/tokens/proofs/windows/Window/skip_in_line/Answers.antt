use Rattle.std.proofs.Common.{◌≡◌, ◌≤◌, eqb, length, take, sym, subst}
use Rattle.std.specs.List.{count_by}
use Rattle.tokens.specs.Window.{Window}
use Rattle.tokens.proofs.WindowLemmas.{in_line}
use Rattle.tokens.proofs.windows.Window.skip_in_line.Goals as goal

pub returns-clause-value : goal.returns-clause-value
returns-clause-value c =
    let s = c.self.inside in
    let within = subst (λ (h : Window). c.args.count ≤ length h.at_hand) (sym c.self.view_is) c.requires.within in
    let no_lines =
    subst (λ (h : Window). count_by (λ b. eqb b 10) (take c.args.count h.at_hand) ≡ 0) (sym c.self.view_is)
    c.requires.in_line in
    rw (← c.self.view_is) (in_line s.line s.start s.taken s.next s.filled c.args.count s.beyond s.bytes within no_lines)
