use Rattle.trees.specs.Trees.{expr_tree}
use Rattle.room.specs.Constructs.{expr_need}
use Rattle.room.specs.Counting.{CountsAs}
use Rattle.room.specs.Tables.{needs_in}
use Rattle.room.proofs.ConstructLaws.{need-Binary}
use Rattle.room.proofs.constructs.+expressions.Goals as goal

pub expr_need-returns-in-Binary : goal.expr_need-returns-in-Binary
expr_need-returns-in-Binary t c =
    let s = c.args.calls.now.short in
    let calls = needs_in c.args.calls.now.needs in
    let left : CountsAs c.expr_need-left.result (expr_need s calls (expr_tree c.in-Binary.left.value)) =
    rw c.deref.ensures at c.expr_need-left.ensures in
    let right : CountsAs c.expr_need-right.result (expr_need s calls (expr_tree c.in-Binary.right.value)) =
    rw c.deref-in-Binary.ensures at c.expr_need-right.ensures in
    need-Binary s calls c.binary_need.result c.expr_need-left.result c.expr_need-right.result c.args.expr.now
    c.in-Binary.op c.in-Binary.left c.in-Binary.right c.in-Binary.is left right c.binary_need.ensures
