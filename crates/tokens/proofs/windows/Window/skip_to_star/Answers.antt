use Rattle.std.proofs.Common.{not, eqb}
use Rattle.tokens.proofs.WindowLemmas.{token_span-ahead_after}
use Rattle.tokens.proofs.windows.Window.skip_to_star.Goals as goal

pub returns-clause-value : goal.returns-clause-value
returns-clause-value c =
    let s = c.self.inside in
    let e = c.span_before-count.ensures in
    rw (← c.self.view_is)
    (token_span-ahead_after (λ b. not (eqb b 42)) s.line s.start s.taken s.next s.filled c.span_before-count.result.0
    c.span_before-count.result.1 s.beyond s.bytes e.count e.lines)
