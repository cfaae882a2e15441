use Rattle.std.proofs.Common.{refl, ◌<◌, ◌∙◌, ap, sym, arith}
use Rattle.battles.specs.Battle.{is_survivor}
use Rattle.series.specs.SeriesSteps.{with_match}
use Rattle.series.proofs.SeriesLemmas.{score_more}
use Rattle.series.proofs.totals.Tally.count_match.Goals as goal

pub returns-clause-tally : goal.returns-clause-tally
returns-clause-tally c = λ ended is i below.
    let all : i < c.loop-robot.robot = omega arith in
    c.loop-robot.invariant.done i all
    ∙ ap (λ score. with_match score (is_survivor c.args.outcome.now i) c.survivor_count-survivors.result) (is i below)
    ∙
    sym
    (score_more ended c.args.outcome.now i (is_survivor c.args.outcome.now i) c.survivor_count-survivors.result refl
    c.loop-robot.invariant.survivors)
