use Rattle.series.proofs.diagnostic_lines.put_diagnostic.Goals as goal

pub returns : goal.returns
returns g c =
    c.finish.ensures _ _
    (c.add-5.ensures.text _ _
    (c.add-4.ensures.text _ _
    (c.add-3.ensures.text _ _
    (c.add_number.ensures.text _ _
    (c.add-2.ensures.text _ _
    (c.add.ensures.text _ _ (c.new-pen.ensures.text _)))))))
