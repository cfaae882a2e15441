use Rattle.std.proofs.Common.{◌≡◌, ◌+◌, false, List, subst, arith}
use Rattle.std.specs.List.{All}
use Rattle.std.proofs.lemmas.List.{take_rest}
use Rattle.arena.specs.Collisions.{AttemptedMove, is_close}
use Rattle.arena.proofs.Touches.{apart_more, untouched}
use Rattle.arena.proofs.collisions.any_are_close.Goals as goal

pub loop-i-preserved : goal.loop-i-preserved
loop-i-preserved c =
    let movers = c.args.movers.now in
    let i = c.loop-i.i in
    let m = c.index-movers-i.result in
    let after =
    subst (λ (ms : List AttemptedMove). All (λ other. is_close m other ≡ false) ms) (take_rest movers (i + 1))
    (c.is_close_to_any.ensures c.if-is_close_to_any.false) in
    apart_more movers i m c.loop-i-test.true c.index-movers-i.is c.loop-i.invariant after

pub returns : goal.returns
returns c =
    λ e i inside. untouched c.args.movers.now i inside (λ a b less last. c.loop-i.invariant a b (omega arith) less last)
