use Rattle.std.proofs.Common.{◌≡◌, List, [], subst, arith}
use Rattle.std.specs.List.{All}
use Rattle.std.proofs.lemmas.List.{take_all}
use Rattle.std.proofs.lemmas.List.Elements.{All-more}
use Rattle.arena.specs.Arena.{Missile}
use Rattle.arena.proofs.slots.no_slot_flies.Goals as goal

pub loop-own-preserved : goal.loop-own-preserved
loop-own-preserved c =
    let Empty : List Missile → Type 0 = λ s. s ≡ [] in
    let here : Empty c.own-item.result = c.is_empty.ensures c.if-not-is_empty.false in
    All-more Empty c.args.slots.now c.loop-own.own-index c.own-item.result c.loop-own-test.true c.loop-own.invariant
    (subst Empty c.own-item.is here)

pub returns : goal.returns
returns c = λ e.
    let all = take_all c.loop-own.own-index c.args.slots.now (omega arith) in
    subst (λ (slots : List (List Missile)). All (λ s. s ≡ []) slots) all c.loop-own.invariant
