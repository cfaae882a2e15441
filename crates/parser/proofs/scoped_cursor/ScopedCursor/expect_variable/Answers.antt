use Rattle.std.proofs.Common.{[], ◌∷◌, refl, sym, ap}
use Rattle.grammar.specs.Derivation.{AVariable}
use Rattle.grammar.specs.Grammar.{Mentioned}
use Rattle.parser.proofs.Passing.{passed_on}
use Rattle.parser.proofs.Items.{name_derives, name_misfits, name_refused, name_stops}
use Rattle.parser.proofs.Names.{mentioned_stays}
use Rattle.parser.proofs.PathLaws.{name_past}
use Rattle.parser.proofs.scoped_cursor.ScopedCursor.expect_variable.Goals as goal

pub returns-in_err-name-clause-matches : goal.returns-in_err-name-clause-matches
returns-in_err-name-clause-matches g c =
    rw (passed_on c.from_residual.result c.from_residual.ensures.1)
    (name_misfits _ Mentioned c.self.view_is c.requires.ready.near c.in_err-name.ensures.other)

pub returns-in_err-var-clause-matches : goal.returns-in_err-var-clause-matches
returns-in_err-var-clause-matches g c =
    rw (passed_on c.from_residual-in_err-var.result c.from_residual-in_err-var.ensures.1)
    (name_refused _ Mentioned c.self.view_is c.requires.ready.near refl
    c.in_ok-name.ensures.found c.peek.ensures.value c.in_err-var.ensures.refused c.resolve_variable.ensures.refused)

pub returns-in_err-advance-clause-matches : goal.returns-in_err-advance-clause-matches
returns-in_err-advance-clause-matches g c =
    rw (passed_on c.from_residual-in_err-advance.result c.from_residual-in_err-advance.ensures.1)
    (name_stops _ _ Mentioned c.self.view_is c.in_ok-name.ensures.found
    c.peek.ensures.value ((rw c.in_ok-var.ensures.ok at c.resolve_variable.ensures.learned).1 _)
    c.in_err-advance.ensures.consumes)

pub returns-clause-matches : goal.returns-clause-matches
returns-clause-matches g c =
    name_derives Mentioned c.self.view_is c.in_ok-name.ensures.found c.peek.ensures.value
    ((rw c.in_ok-var.ensures.ok at c.resolve_variable.ensures.learned).1 _)
    (ap (λ v. AVariable v ∷ []) (rw c.in_ok-var.ensures.ok at c.resolve_variable.ensures.learned).0)
    c.in_ok-advance.ensures.consumes

pub returns-clause-stays : goal.returns-clause-stays
returns-clause-stays g c =
    rw (sym c.self.view_is, c.in_ok-advance.ensures.consumes.scope)
    (mentioned_stays c.in_ok-name.name.now 0 c.self.inside.scope.now c.resolve_variable.new.self
    ((rw c.in_ok-var.ensures.ok at c.resolve_variable.ensures.learned).1 0))

pub returns-clause-passes : goal.returns-clause-passes
returns-clause-passes g c =
    let learned = rw c.in_ok-var.ensures.ok at c.resolve_variable.ensures.learned in
    rw (sym c.self.view_is, learned.0) (λ o below values acts path.
    name_past Mentioned c.in_ok-name.name.now c.resolve_variable.new.self c.in_ok-name.ensures.found
    c.peek.ensures.value (learned.1 _) c.in_ok-advance.ensures.consumes c.in_ok-advance.ensures.kept path)
