use Rattle.std.proofs.Common.{◌≡◌, arith, false, List, subst, sym}
use Rattle.std.specs.List.{All}
use Rattle.std.proofs.lemmas.List.{take_all}
use Rattle.std.proofs.lemmas.List.Folds.{list_any_none}
use Rattle.arena.specs.declared.bursts.Burst.{Burst}
use Rattle.watching.proofs.Hitting.{hitting}
use Rattle.watching.proofs.hits.any_is_hit.Goals as goal

pub returns : goal.returns
returns c = λ f stands.
    let all = take_all c.loop-burst.burst-index c.args.bursts.now (omega arith) in
    sym (list_any_none (hitting f c.args.robot) c.args.bursts.now
    (subst (λ (l : List Burst). All (λ burst. hitting f c.args.robot burst ≡ false) l) all
    (c.loop-burst.invariant f stands)))
