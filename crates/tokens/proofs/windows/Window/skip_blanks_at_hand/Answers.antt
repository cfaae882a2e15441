use Rattle.std.proofs.Common.{◌∙◌, sym, subst}
use Rattle.std.specs.List.{between}
use Rattle.tokens.specs.Characters.{is_blank}
use Rattle.tokens.proofs.SpanLemmas.{turned_twice}
use Rattle.tokens.proofs.TokenLemmas.{no-blanks, StopsAt}
use Rattle.tokens.proofs.WindowLemmas.{token_span-ahead_after}
use Rattle.tokens.proofs.windows.Window.skip_blanks_at_hand.Goals as goal
use Rattle.tokens.proofs.windows.Window.skip_blanks_at_hand.Goals.{in_default-via-in-Some+else-is_blank, in_default-via-in_default}

pub returns-in_default-clause-value : goal.returns-in_default-clause-value
returns-in_default-clause-value c =
    let stops : StopsAt is_blank c.first_at_hand.result = elim c.in_default.branch [
      | in_default-via-in-Some+else-is_blank w ↦ subst (StopsAt is_blank) (sym w.in-Some.is) (sym w.if-is_blank.ensures)
      | in_default-via-in_default w ↦ subst (StopsAt is_blank) (sym w.in_default.is) tt
    ] in
    no-blanks c.args.self.now c.first_at_hand.result c.first_at_hand.ensures.value stops

pub returns-clause-value : goal.returns-clause-value
returns-clause-value c =
    let s = c.self.inside in
    let e = c.span_before-count.ensures in
    rw (← c.self.view_is)
    (token_span-ahead_after is_blank s.line s.start s.taken s.next s.filled c.span_before-count.result.0
    c.span_before-count.result.1 s.beyond s.bytes
    (e.count ∙ turned_twice is_blank (between s.next s.filled s.bytes)) e.lines)
