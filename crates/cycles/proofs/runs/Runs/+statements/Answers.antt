use Rattle.std.proofs.Common.{◌≡◌, ◌∙◌, ℕ, ap, arith, drop, subst, sym}
use Rattle.trees.specs.Trees.{body_tree, expr_tree}
use Rattle.cycles.specs.Ends.{after, followed, one_branch}
use Rattle.cycles.specs.Expressions.{two_cycles}
use Rattle.cycles.specs.Statements.{ends_of, taken}
use Rattle.cycles.specs.Told.{told_ends}
use Rattle.cycles.proofs.TreeSpans.{ends-IfElseStatement, ends-IfStatement, ends-Return}
use Rattle.cycles.proofs.runs.Runs.+statements.Goals as goal

pub statement-returns-in-IfStatement : goal.statement-returns-in-IfStatement
statement-returns-in-IfStatement t c = λ runs rest known behind.
    let u = c.args.self.now.counted in
    let p = c.args.self.now.profile in
    let branch = rw c.deref.ensures.value at (c.statements-branch.ensures runs known) in
    let inside = ends_of u p runs (body_tree c.in-IfStatement.branch.items) in
    let next = ends_of u p runs rest in
    let both = c.or.ensures (followed inside next) next (c.followed.ensures inside next branch behind) behind in
    c.after-in-IfStatement.ensures (taken u p runs (expr_tree c.in-IfStatement.test))
    (one_branch (followed inside next) next) (c.taken-in-IfStatement.ensures runs known) both
    ∙
    ap told_ends
    (sym
    (ends-IfStatement u p runs c.args.statement.now c.in-IfStatement.test c.in-IfStatement.branch rest
    c.in-IfStatement.is))

pub statement-returns-in-IfElseStatement : goal.statement-returns-in-IfElseStatement
statement-returns-in-IfElseStatement t c = λ runs rest known behind.
    let u = c.args.self.now.counted in
    let p = c.args.self.now.profile in
    let one = rw c.deref-in-IfElseStatement.ensures.value at (c.statements-first.ensures runs known) in
    let other = rw c.deref-in-IfElseStatement-2.ensures.value at (c.statements-second.ensures runs known) in
    let first = ends_of u p runs (body_tree c.in-IfElseStatement.first.items) in
    let second = ends_of u p runs (body_tree c.in-IfElseStatement.second.items) in
    let next = ends_of u p runs rest in
    let over = after (two_cycles u) next in
    let overs = c.after-over.ensures (two_cycles u) next c.two_cycles.ensures behind in
    let both =
    c.or-branches.ensures (followed first over) (followed second next)
    (c.followed-in-IfElseStatement.ensures first over one overs)
    (c.followed-in-IfElseStatement-2.ensures second next other behind) in
    c.after-in-IfElseStatement.ensures (taken u p runs (expr_tree c.in-IfElseStatement.test))
    (one_branch (followed first over) (followed second next)) (c.taken-in-IfElseStatement.ensures runs known) both
    ∙
    ap told_ends
    (sym
    (ends-IfElseStatement u p runs c.args.statement.now c.in-IfElseStatement.test c.in-IfElseStatement.first
    c.in-IfElseStatement.second rest c.in-IfElseStatement.is))

pub statement-returns-in-Return : goal.statement-returns-in-Return
statement-returns-in-Return t c = λ runs rest known behind.
    let u = c.args.self.now.counted in
    let p = c.args.self.now.profile in
    c.returning.ensures (taken u p runs (expr_tree c.in-Return.expr)) (c.taken-in-Return.ensures runs known)
    ∙ ap told_ends (sym (ends-Return u p runs c.args.statement.now c.in-Return.expr rest c.in-Return.is))

pub statements-returns : goal.statements-returns
statements-returns t c = λ runs known.
    let u = c.args.self.now.counted in
    let p = c.args.self.now.profile in
    let all : c.loop-index.index ≡ 0 = omega arith in
    subst
    (λ (i : ℕ). c.loop-index.ends ≡ told_ends (ends_of u p runs (body_tree (drop i c.args.statements.now)))) all
    (c.loop-index.invariant.so_far runs known)
