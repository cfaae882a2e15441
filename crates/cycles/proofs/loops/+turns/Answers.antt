use Rattle.std.proofs.Common.{◌≡◌, arith}
use Rattle.std.proofs.lemmas.Result.{on_ok_weaker}
use Rattle.trees.specs.Trees.{body_tree, expr_tree}
use Rattle.cycles.specs.declared.loops.Turn.{Turn}
use Rattle.cycles.specs.Loops.{Loop, row_of}
use Rattle.cycles.proofs.Rows.{choice_rows, if_rows, rows_more, while_rows}
use Rattle.cycles.proofs.loops.+turns.Goals as goal

pub add_turns-loop-statement-preserved : goal.add_turns-loop-statement-preserved
add_turns-loop-statement-preserved t c = λ a b known other.
    rows_more c.args.cycles.now c.args.questions.now a b c.args.function c.args.turns.now.items
    c.loop-statement.turns.items c.add_turns_of.new.turns.items c.args.statements.now
    c.loop-statement.statement-index c.statement-item.result (omega arith) c.statement-item.is
    (c.loop-statement.invariant a b known other) (c.in_ok-add_turns_of.ensures a b known other)

pub add_turns_of-returns-in_ok-push-in-While : goal.add_turns_of-returns-in_ok-push-in-While
add_turns_of-returns-in_ok-push-in-While t c = λ a b known other.
    let cycles = rw c.deref.ensures.value at (c.turn.ensures a known) in
    let questions = rw c.deref-in-While.ensures.value at (c.turn-in-While.ensures b other) in
    let inside = rw c.deref-in-While-2.ensures.value at (c.add_turns.ensures a b known other) in
    let turn : Turn =
    record { function = c.args.function; cycles = c.turn.result; questions = c.turn-in-While.result } in
    let l : Loop =
    record { test = expr_tree c.in-While.test; statements = body_tree c.in-While.body.items } in
    let told : turn ≡ row_of c.args.cycles.now c.args.questions.now a b c.args.function l =
    λ i. record { function = c.args.function; cycles = cycles i; questions = questions i } in
    on_ok_weaker _
    (λ added. while_rows c.args.cycles.now c.args.questions.now a b c.args.function c.args.statement.now c.in-While.test
    c.in-While.body c.args.turns.now.items c.push.new.self.items c.add_turns.new.turns.items turn c.in-While.is told
    c.in_ok-push-in-While.ensures.items added) inside

pub add_turns_of-returns-in-IfStatement : goal.add_turns_of-returns-in-IfStatement
add_turns_of-returns-in-IfStatement t c = λ a b known other.
    let inside = rw c.deref-in-IfStatement.ensures.value at (c.add_turns-in-IfStatement.ensures a b known other) in
    on_ok_weaker _
    (λ added. if_rows c.args.cycles.now c.args.questions.now a b c.args.function c.args.statement.now
    c.in-IfStatement.field-0 c.in-IfStatement.branch c.args.turns.now.items c.add_turns-in-IfStatement.new.turns.items
    c.in-IfStatement.is added) inside

pub add_turns_of-returns-in_ok-add_turns-in-IfElseStatement :
    goal.add_turns_of-returns-in_ok-add_turns-in-IfElseStatement
add_turns_of-returns-in_ok-add_turns-in-IfElseStatement t c = λ a b known other.
    let first =
    rw c.deref-in-IfElseStatement.ensures.value at (c.in_ok-add_turns-in-IfElseStatement.ensures a b known other) in
    let second =
    rw c.deref-in-IfElseStatement-2.ensures.value at (c.add_turns-in-IfElseStatement-2.ensures a b known other) in
    on_ok_weaker _
    (λ added. choice_rows c.args.cycles.now c.args.questions.now a b c.args.function c.args.statement.now
    c.in-IfElseStatement.field-0 c.in-IfElseStatement.first c.in-IfElseStatement.second c.args.turns.now.items
    c.add_turns-in-IfElseStatement.new.turns.items c.add_turns-in-IfElseStatement-2.new.turns.items
    c.in-IfElseStatement.is first added) second
