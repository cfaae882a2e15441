use Rattle.std.proofs.Common.{◌+◌, None, Option, Global, Vec, ap, arith, rules, subst, ℕ}
use Rattle.std.proofs.Common.{List, refl, sym}
use Rattle.grammar.specs.Resolved.{IsAmong}
use Rattle.room.specs.Chains.{CallNoOthers, IsChain, numbers}
use Rattle.std.proofs.lemmas.List.{length-map}
use Rattle.trees.specs.Laws.{told_trees, without_names}
use Rattle.trees.specs.Trees.{function_tree}
use Rattle.trees.specs.declared.tree.Function.{Function}
use Rattle.room.proofs.ChainLaws.{IsSoFar, begun_more, chain_is, grown_more, is_whole, kept, kept_so_far}
use Rattle.room.proofs.chains.chain_of.Goals as goal
use Rattle.room.proofs.chains.chain_of.Goals.{in-Some+in_ok-next-in-Some, in-None}

pub loop-round-preserved : goal.loop-round-preserved
loop-round-preserved c =
    let m = c.most-measure.result in
    let calls = c.all_needs-calls.result in
    let fs = told_trees c.functions-functions.result.now in
    elim c.match-next.branch [
      | in-Some+in_ok-next-in-Some w ↦
          record {
            begun =
                kept m calls fs c.args.main c.match-next.chain.items w.lengthen-in-Some.new.chain.items
                c.match-next.next
                w.in_ok-next-in-Some.next (ap (λ (v : Vec ℕ Global). v.items) w.chain-is) w.next-is
                (begun_more m calls fs c.args.main w.in-Some.number c.loop-round.chain.items
                w.lengthen-in-Some.new.chain.items c.loop-round.next w.in_ok-next-in-Some.next
                c.loop-round.invariant.begun
                w.in-Some.is w.in_ok-next-in-Some.ensures.added w.in_ok-next-in-Some.ensures.next);
            so_far = λ closed among.
                kept_so_far m calls fs c.match-next.chain.items w.lengthen-in-Some.new.chain.items
                (c.loop-round._round + 1 + 1) c.match-next.next w.in_ok-next-in-Some.next
                (ap (λ (v : Vec ℕ Global). v.items) w.chain-is) w.next-is
                (grown_more m calls fs w.in-Some.number (c.loop-round._round + 1) c.loop-round.chain.items
                w.lengthen-in-Some.new.chain.items c.loop-round.next w.in_ok-next-in-Some.next w.in-Some.is
                w.in_ok-next-in-Some.ensures.added w.in_ok-next-in-Some.ensures.next w.in_ok-next-in-Some.ensures.new
                w.in_ok-next-in-Some.ensures.last closed (c.loop-round.invariant.so_far closed among));
          }
      | in-None w ↦
          record {
            begun =
                kept m calls fs c.args.main c.match-next.chain.items c.loop-round.chain.items c.match-next.next None
                (ap (λ (v : Vec ℕ Global). v.items) w.chain-is) w.next-is
                (kept m calls fs c.args.main c.loop-round.chain.items c.loop-round.chain.items None c.loop-round.next
                refl (sym w.in-None.is) c.loop-round.invariant.begun);
            so_far = λ closed among.
                kept_so_far m calls fs c.match-next.chain.items c.loop-round.chain.items (c.loop-round._round + 1 + 1)
                c.match-next.next None (ap (λ (v : Vec ℕ Global). v.items) w.chain-is) w.next-is
                (subst (λ (o : Option ℕ). IsSoFar m calls fs c.loop-round.chain.items (c.loop-round._round + 1) o)
                w.in-None.is (c.loop-round.invariant.so_far closed among));
          }
    ]

pub returns : goal.returns
returns c =
    let made = c.functions-functions.result.now in
    let p = c.args.profile in
    subst
    (λ (fs : List Function). CallNoOthers (told_trees fs) → IsAmong c.args.main (numbers (told_trees fs)) →
    IsChain p (told_trees fs) c.args.main c.loop-round.chain.items) c.functions-functions.ensures
    (λ closed among.
    let told = length-map made (λ (f : Function). without_names f.number (function_tree f)) in
    let whole =
    is_whole c.most-measure.result c.all_needs-calls.result (told_trees made) c.loop-round.chain.items
    (c.loop-round._round + 1) c.loop-round.next (omega (arith, c.loop-round-test.false, told))
    (c.loop-round.invariant.so_far closed among) in
    chain_is p made c.args.main c.most-measure.result c.all_needs-calls.result _ c.loop-round.chain.items
    c.loop-round.next c.all_needs-calls.ensures.short c.all_needs-calls.ensures.needs c.most-measure.ensures
    (search rules) (search rules) c.loop-round.invariant.begun whole)
