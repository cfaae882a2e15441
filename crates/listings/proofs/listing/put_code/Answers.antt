use Rattle.listings.proofs.listing.put_code.Goals as goal

pub returns : goal.returns
returns g c program at code =
    rw (at, code) (c.finish.ensures _ _
    (c.add_code.ensures.text _ _
    (rw c.functions.ensures.names at (c.add_functions.ensures.text _ _
    (rw c.externals.ensures.names at (c.add_externals.ensures.text _ _
    (c.add_byte.ensures.text _ _
    (c.add-2.ensures.text _ _
    (c.add.ensures.text _ _ (c.new-pen.ensures.text _))))))))))
