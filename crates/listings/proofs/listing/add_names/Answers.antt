use Rattle.listings.specs.Listing.{name_line}
use Rattle.listings.proofs.Texts.{numbered_then}
use Rattle.listings.proofs.listing.add_names.Goals as goal

pub loop-number-preserved : goal.loop-number-preserved
loop-number-preserved g c = (
  c.add_name.ensures.countable,
  λ before text so_far.
      rw
      (numbered_then name_line text c.args.names.now c.loop-number.number c.index-names-number.result
      c.loop-number-test.true c.index-names-number.is)
      (c.add_name.ensures.text before _ (c.loop-number.invariant.1 before text so_far)),
)
