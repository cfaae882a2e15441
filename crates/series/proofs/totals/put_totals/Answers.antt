use Rattle.std.proofs.Common.{◌≡◌, ap}
use Rattle.series.specs.Totals.{totals}
use Rattle.series.proofs.totals.put_totals.Goals as goal

pub returns : goal.returns
unfolding totals
returns g c =
    let matches : c.tally.inside.matches ≡ c.args.tally.now.matches = ap (λ t. t.matches) c.tally.view_is in
    c.finish.ensures _ _
    (c.add_scores.ensures.text _ _
    (c.add-3.ensures.text _ _
    (c.add-2.ensures.text _ _
    (rw matches at (c.add_number.ensures.text _ _
    (c.add.ensures.text _ _ (c.new-pen.ensures.text _)))))))
