use Rattle.std.proofs.Common.{◌≡◌, true, false}
use Rattle.grammar.specs.Grammar.{AKeyword, is_keyword}
use Rattle.parser.specs.ScopedCursors.{token_of}
use Rattle.parser.proofs.Passing.{passed_on}
use Rattle.parser.proofs.Items.{token_derives, token_misfits, token_stops}
use Rattle.parser.proofs.PathLaws.{token_past}
use Rattle.parser.proofs.scoped_cursor.ScopedCursor.expect_keyword.Goals as goal

pub returns-then-not-is_keyword-clause-matches : goal.returns-then-not-is_keyword-clause-matches
returns-then-not-is_keyword-clause-matches g c =
    let misses : is_keyword c.args.word (token_of c.args.self.now) ≡ false = cc in
    rw c.unexpected_token.ensures
    (token_misfits _ (AKeyword c.args.word) c.requires.ready.near c.requires.ready.sound misses)

pub returns-in_err-advance-clause-matches : goal.returns-in_err-advance-clause-matches
returns-in_err-advance-clause-matches g c =
    let fits : is_keyword c.args.word (token_of c.args.self.now) ≡ true = cc in
    rw (passed_on c.from_residual.result c.from_residual.ensures.1)
    (token_stops _ c.args.self.now.position (AKeyword c.args.word) _ c.requires.ready.sound fits
    c.in_err-advance.ensures.consumes)

pub returns-clause-matches : goal.returns-clause-matches
returns-clause-matches g c =
    let fits : is_keyword c.args.word (token_of c.args.self.now) ≡ true = cc in
    token_derives c.args.self.now.position _ (AKeyword c.args.word) c.requires.ready.sound fits
    c.in_ok-advance.ensures.consumes

pub returns-clause-passes : goal.returns-clause-passes
returns-clause-passes g c =
    let fits : is_keyword c.args.word (token_of c.args.self.now) ≡ true = cc in
    λ o below values acts path.
    token_past (AKeyword c.args.word) fits c.in_ok-advance.ensures.consumes c.in_ok-advance.ensures.kept path
