use Rattle.series.proofs.TextsLemmas.{score_line_added}
use Rattle.series.proofs.totals.add_score.Goals as goal

pub returns-clause-text : goal.returns-clause-text
returns-clause-text g c = λ before text so_far.
    rw (score_line_added text c.args.name.now c.args.robot c.args.score)
    (c.add-7.ensures.text before _
    (c.add-6.ensures.text before _
    (c.add-5.ensures.text before _
    (c.add_number-4.ensures.text before _
    (c.add-4.ensures.text before _
    (c.add_number-3.ensures.text before _
    (c.add-3.ensures.text before _
    (c.add_number-2.ensures.text before _
    (c.add-2.ensures.text before _
    (c.add_number.ensures.text before _
    (c.add.ensures.text before text so_far)))))))))))
