use Rattle.std.proofs.Common.{[], ◌∷◌, refl, sym, ap}
use Rattle.grammar.specs.Derivation.{ACall}
use Rattle.grammar.specs.Grammar.{Called}
use Rattle.grammar.specs.Tree.{NoMore}
use Rattle.parser.proofs.Passing.{passed_on}
use Rattle.parser.proofs.Items.{name_derives, name_misfits, name_refused, name_stops}
use Rattle.parser.proofs.Names.{called_stays}
use Rattle.parser.proofs.PathLaws.{name_past}
use Rattle.parser.proofs.scoped_cursor.ScopedCursor.expect_callee.Goals as goal

pub returns-in_err-name-clause-matches : goal.returns-in_err-name-clause-matches
returns-in_err-name-clause-matches g c =
    rw (passed_on c.from_residual.result c.from_residual.ensures.1)
    (name_misfits _ Called c.self.view_is c.requires.ready.near c.in_err-name.ensures.other)

pub returns-in_err-callee-clause-matches : goal.returns-in_err-callee-clause-matches
returns-in_err-callee-clause-matches g c =
    rw (passed_on c.from_residual-in_err-callee.result c.from_residual-in_err-callee.ensures.1)
    (name_refused _ Called c.self.view_is c.requires.ready.near refl
    c.in_ok-name.ensures.found c.peek-next.ensures.value c.in_err-callee.ensures.refused c.resolve_call.ensures.refused)

pub returns-in_err-advance-clause-matches : goal.returns-in_err-advance-clause-matches
returns-in_err-advance-clause-matches g c =
    rw (passed_on c.from_residual-in_err-advance.result c.from_residual-in_err-advance.ensures.1)
    (name_stops _ _ Called c.self.view_is c.in_ok-name.ensures.found
    c.peek-next.ensures.value (rw c.in_ok-callee.ensures.ok at c.resolve_call.ensures.learned).1
    c.in_err-advance.ensures.consumes)

pub returns-clause-matches : goal.returns-clause-matches
returns-clause-matches g c =
    name_derives Called c.self.view_is c.in_ok-name.ensures.found c.peek-next.ensures.value
    (rw c.in_ok-callee.ensures.ok at c.resolve_call.ensures.learned).1
    (ap (λ f. ACall f NoMore ∷ []) (rw c.in_ok-callee.ensures.ok at c.resolve_call.ensures.learned).0)
    c.in_ok-advance.ensures.consumes

pub returns-clause-stays : goal.returns-clause-stays
returns-clause-stays g c =
    rw (sym c.self.view_is, c.in_ok-advance.ensures.consumes.scope)
    (called_stays c.in_ok-name.name.now _ c.self.inside.scope.now c.resolve_call.new.self
    (rw c.in_ok-callee.ensures.ok at c.resolve_call.ensures.learned).1)

pub returns-clause-passes : goal.returns-clause-passes
returns-clause-passes g c =
    let learned = rw c.in_ok-callee.ensures.ok at c.resolve_call.ensures.learned in
    rw (sym c.self.view_is, learned.0) (λ o below values acts path.
    name_past Called c.in_ok-name.name.now c.resolve_call.new.self c.in_ok-name.ensures.found c.peek-next.ensures.value
    learned.1 c.in_ok-advance.ensures.consumes c.in_ok-advance.ensures.kept path)
