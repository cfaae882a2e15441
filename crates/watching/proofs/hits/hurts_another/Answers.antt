use Rattle.std.proofs.Common.{◌∙◌, ap, arith, inl, inr, length, sym}
use Rattle.std.proofs.lemmas.Bool.{cases_eq}
use Rattle.watching.specs.Hits.{hurts_another}
use Rattle.watching.proofs.Hitting.{hurting, none_below, one_below}
use Rattle.watching.proofs.hits.hurts_another.Goals as goal

pub loop-other-preserved : goal.loop-other-preserved
loop-other-preserved c = λ f stands k below.
    elim (cases_eq k c.loop-other.other) [
      | inl same ↦ ap (hurting f c.args.burst.now) same ∙ sym (c.hurts.ensures f stands) ∙ c.if-hurts.false
      | inr other ↦ c.loop-other.invariant f stands k (omega (arith, below, other))
    ]

pub returns-then-hurts : goal.returns-then-hurts
unfolding hurts_another
returns-then-hurts c = λ f stands.
    sym (one_below (hurting f c.args.burst.now) (length f.robots) c.loop-other.other
    (omega (arith, c.loop-other-test.true, c.robot_count-other-end.ensures.stands f stands))
    (sym (c.hurts.ensures f stands) ∙ c.if-hurts.true))

pub returns : goal.returns
unfolding hurts_another
returns c = λ f stands.
    sym (none_below (hurting f c.args.burst.now) (length f.robots) (λ k below.
    c.loop-other.invariant f stands k
    (omega
    (arith, below, c.loop-other-test.false, c.loop-other.auto, c.robot_count-other-end.ensures.stands f stands))))
