use Rattle.std.proofs.Common.{◌≡◌, refl, sym}
use Rattle.grammar.specs.Grammar.{Defined}
use Rattle.grammar.specs.Laws.Naming.{LearnsName}
use Rattle.grammar.specs.Scope.{number_or_next}
use Rattle.parser.specs.ScopedCursors.{scope_of}
use Rattle.parser.proofs.Passing.{passed_on}
use Rattle.parser.proofs.Items.{name_derives, name_misfits, name_refused, name_stops}
use Rattle.parser.proofs.Names.{begins}
use Rattle.parser.proofs.PathLaws.{name_past}
use Rattle.parser.proofs.scoped_cursor.ScopedCursor.expect_definition.Goals as goal

pub returns-in_err-name-clause-matches : goal.returns-in_err-name-clause-matches
returns-in_err-name-clause-matches g c =
    rw (passed_on c.from_residual.result c.from_residual.ensures.1)
    (name_misfits _ Defined c.self.view_is c.requires.ready.near c.in_err-name.ensures.other)

pub returns-in_err-number-clause-matches : goal.returns-in_err-number-clause-matches
returns-in_err-number-clause-matches g c =
    rw (passed_on c.from_residual-in_err-number.result c.from_residual-in_err-number.ensures.1)
    (name_refused _ Defined c.self.view_is c.requires.ready.near refl
    c.in_ok-name.ensures.found c.peek-next.ensures.value c.in_err-number.ensures.refused
    c.begin_definition.ensures.refused)

pub returns-in_err-advance-clause-matches : goal.returns-in_err-advance-clause-matches
returns-in_err-advance-clause-matches g c =
    rw (passed_on c.from_residual-in_err-advance.result c.from_residual-in_err-advance.ensures.1)
    (name_stops _ _ Defined c.self.view_is c.in_ok-name.ensures.found
    c.peek-next.ensures.value (rw c.in_ok-number.ensures.ok at c.begin_definition.ensures.learned)
    c.in_err-advance.ensures.consumes)

pub returns-clause-matches : goal.returns-clause-matches
returns-clause-matches g c =
    name_derives Defined c.self.view_is c.in_ok-name.ensures.found c.peek-next.ensures.value
    (rw c.in_ok-number.ensures.ok at c.begin_definition.ensures.learned) refl
    c.in_ok-advance.ensures.consumes

pub returns-clause-begun : goal.returns-clause-begun
returns-clause-begun g c =
    let learned : LearnsName Defined c.in_ok-name.name.now c.peek-next.result.now.line (scope_of c.args.self.now)
    c.begin_definition.new.self
    =
    rw (sym c.self.view_is) (rw c.in_ok-number.ensures.ok at c.begin_definition.ensures.learned) in
    let is : c.in_ok-number.number ≡ number_or_next c.in_ok-name.name.now (scope_of c.args.self.now) =
    rw (sym c.self.view_is) (rw c.in_ok-number.ensures.ok at c.begin_definition.ensures.number).0 in
    begins c.in_ok-number.number c.in_ok-name.name.now c.peek-next.result.now.line
    c.args.self.now.position.lookahead
    c.advance.new.self.position.lookahead c.begin_definition.new.self learned c.in_ok-advance.ensures.consumes.scope is
    (rw c.in_ok-number.ensures.ok at c.begin_definition.ensures.number).1

pub returns-clause-passes : goal.returns-clause-passes
returns-clause-passes g c = rw (sym c.self.view_is) (λ o below values acts path.
    name_past Defined c.in_ok-name.name.now c.begin_definition.new.self c.in_ok-name.ensures.found
    c.peek-next.ensures.value (rw c.in_ok-number.ensures.ok at c.begin_definition.ensures.learned)
    c.in_ok-advance.ensures.consumes c.in_ok-advance.ensures.kept path)
