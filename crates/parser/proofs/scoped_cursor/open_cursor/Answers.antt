use Rattle.std.proofs.Common.{◌≡◌, refl, sym, true}
use Rattle.grammar.specs.Grammar.{is_lexical_error}
use Rattle.parser.proofs.Passing.{passed_on}
use Rattle.parser.proofs.Segments.{no_opening, opens_at_lexical_error}
use Rattle.parser.proofs.scoped_cursor.open_cursor.Goals as goal

pub returns-in_err-begin-clause-refused : goal.returns-in_err-begin-clause-refused
returns-in_err-begin-clause-refused g c =
    rw (passed_on c.from_residual.result c.from_residual.ensures.1)
    (no_opening (g.F.Feed.device c.args.feed.now).to_come (g.F.Feed.device c.begin.new.feed).to_come
    c.in_err-begin.ensures.stopped)

pub returns-in-Fault-clause-refused : goal.returns-in-Fault-clause-refused
returns-in-Fault-clause-refused g c =
    let lexical_error : is_lexical_error c.begin.new.self.next.token ≡ true =
    rw (sym c.peek.ensures.value, c.in-Fault.is) refl in
    rw (c.unexpected_token_at.ensures, c.peek-in-Fault.ensures.value)
    (opens_at_lexical_error c.begin.new.self _ _ c.in_ok-begin.ensures.opens.tokens c.in_ok-begin.ensures.opens.took
    c.in_ok-begin.ensures.opens.near c.in_ok-begin.ensures.opens.limited lexical_error)
