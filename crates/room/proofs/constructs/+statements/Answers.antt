use Rattle.std.proofs.Common.{ap, ◌∙◌}
use Rattle.trees.specs.Trees.{body_tree}
use Rattle.room.specs.Constructs.{body_need}
use Rattle.room.specs.Counting.{CountsAs}
use Rattle.room.specs.Rooms.{both, words}
use Rattle.room.specs.Tables.{needs_in}
use Rattle.room.proofs.ConstructLaws.{need-IfElseStatement, need-IfStatement, need-While}
use Rattle.room.proofs.constructs.+statements.Goals as goal

pub statement_need-returns-in-IfStatement : goal.statement_need-returns-in-IfStatement
statement_need-returns-in-IfStatement t c behind later =
    let s = c.args.calls.now.short in
    let calls = needs_in c.args.calls.now.needs in
    let condition = c.expr_need-in-IfStatement.result in
    let branch : CountsAs c.body_need-branch.result (body_need s calls (body_tree c.in-IfStatement.branch.items)) =
    rw c.deref.ensures.value at c.body_need-branch.ensures in
    need-IfStatement s calls c.args.rest behind later c.both-in-IfStatement-2.result condition c.body_need-branch.result
    c.args.statement.now c.in-IfStatement.condition c.in-IfStatement.branch c.in-IfStatement.is
    c.expr_need-in-IfStatement.ensures branch
    (c.both-in-IfStatement-2.ensures ∙ ap (λ z. both condition z) c.both-in-IfStatement.ensures)

pub statement_need-returns-in-IfElseStatement : goal.statement_need-returns-in-IfElseStatement
statement_need-returns-in-IfElseStatement t c behind later =
    let s = c.args.calls.now.short in
    let calls = needs_in c.args.calls.now.needs in
    let condition = c.expr_need-in-IfElseStatement.result in
    let one : CountsAs c.body_need.result (body_need s calls (body_tree c.in-IfElseStatement.first.items)) =
    rw c.deref-in-IfElseStatement.ensures.value at c.body_need.ensures in
    let two : CountsAs c.body_need-second.result (body_need s calls (body_tree c.in-IfElseStatement.second.items)) =
    rw c.deref-in-IfElseStatement-2.ensures.value at c.body_need-second.ensures in
    need-IfElseStatement s calls c.args.rest behind later c.both-in-IfElseStatement-3.result condition
    c.body_need.result c.body_need-second.result c.args.statement.now c.in-IfElseStatement.condition
    c.in-IfElseStatement.first c.in-IfElseStatement.second c.in-IfElseStatement.is
    c.expr_need-in-IfElseStatement.ensures one two
    (c.both-in-IfElseStatement-3.ensures
    ∙
    ap (λ z. both condition z)
    (c.both-in-IfElseStatement-2.ensures
    ∙
    ap (λ z. both z c.both-in-IfElseStatement.result)
    (c.both-first.ensures ∙ ap (λ z. both c.body_need.result z) c.words.ensures)
    ∙ ap (λ z. both (both c.body_need.result (words 1)) z) c.both-in-IfElseStatement.ensures))

pub statement_need-returns-in-While : goal.statement_need-returns-in-While
statement_need-returns-in-While t c behind later =
    let s = c.args.calls.now.short in
    let calls = needs_in c.args.calls.now.needs in
    let condition = c.expr_need-in-While.result in
    let turn : CountsAs c.body_need-in-While.result (body_need s calls (body_tree c.in-While.body.items)) =
    rw c.deref-in-While.ensures.value at c.body_need-in-While.ensures in
    need-While s calls c.args.rest behind later c.both-in-While-2.result condition c.body_need-in-While.result
    c.args.statement.now c.in-While.condition c.in-While.body c.in-While.is c.expr_need-in-While.ensures turn
    (c.both-in-While-2.ensures
    ∙
    ap (λ z. both condition z)
    (c.both-in-While.ensures
    ∙
    ap (λ z. both z c.args.rest)
    (c.both-turn.ensures ∙ ap (λ z. both c.body_need-in-While.result z) c.words-in-While.ensures)))
