use Rattle.std.proofs.Common.{refl, sym}
use Rattle.parser.specs.Roles.{role_of}
use Rattle.parser.proofs.Passing.{passed_on}
use Rattle.parser.proofs.Items.{name_derives, name_misfits, name_refused, name_stops, no_tree}
use Rattle.parser.proofs.Names.{declared_stays}
use Rattle.parser.proofs.PathLaws.{declared_past}
use Rattle.parser.proofs.scoped_cursor.ScopedCursor.expect_declaration.Goals as goal

pub returns-in_err-name-clause-matches : goal.returns-in_err-name-clause-matches
returns-in_err-name-clause-matches g c =
    rw (passed_on c.from_residual.result c.from_residual.ensures.1)
    (name_misfits _ (role_of c.args.declared) c.self.view_is c.requires.ready.near
    c.in_err-name.ensures.other)

pub returns-in_err-or_refusal-clause-matches : goal.returns-in_err-or_refusal-clause-matches
returns-in_err-or_refusal-clause-matches g c =
    rw (passed_on c.from_residual-in_err-or_refusal.result c.from_residual-in_err-or_refusal.ensures.1)
    (name_refused _ (role_of c.args.declared) c.self.view_is
    c.requires.ready.near refl
    c.in_ok-name.ensures.found c.peek.ensures.value c.in_err-or_refusal.ensures.refused c.declare_in.ensures.refused)

pub returns-in_err-advance-clause-matches : goal.returns-in_err-advance-clause-matches
returns-in_err-advance-clause-matches g c =
    rw (passed_on c.from_residual-in_err-advance.result c.from_residual-in_err-advance.ensures.1)
    (name_stops _ _ (role_of c.args.declared) c.self.view_is
    c.in_ok-name.ensures.found
    c.peek.ensures.value ((rw c.in_ok-or_refusal.ensures.ok at c.declare_in.ensures.learned) _)
    c.in_err-advance.ensures.consumes)

pub returns-clause-matches : goal.returns-clause-matches
returns-clause-matches g c =
    name_derives (role_of c.args.declared) c.self.view_is c.in_ok-name.ensures.found c.peek.ensures.value
    ((rw c.in_ok-or_refusal.ensures.ok at c.declare_in.ensures.learned) _)
    (no_tree _ c.self.inside.scope.now c.args.declared)
    c.in_ok-advance.ensures.consumes

pub returns-clause-stays : goal.returns-clause-stays
returns-clause-stays g c =
    rw (sym c.self.view_is, c.in_ok-advance.ensures.consumes.scope)
    (declared_stays c.args.declared c.in_ok-name.name.now 0 c.self.inside.scope.now c.declare_in.new.scope
    ((rw c.in_ok-or_refusal.ensures.ok at c.declare_in.ensures.learned) 0))

pub returns-clause-passes : goal.returns-clause-passes
returns-clause-passes g c =
    rw (sym c.self.view_is) (λ o below values acts path.
    declared_past c.args.declared c.in_ok-name.name.now c.declare_in.new.scope c.in_ok-name.ensures.found
    ((rw c.in_ok-or_refusal.ensures.ok at c.declare_in.ensures.learned) _) c.in_ok-advance.ensures.consumes
    c.in_ok-advance.ensures.kept path)
