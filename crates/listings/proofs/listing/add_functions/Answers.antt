use Rattle.listings.specs.Listing.{function_lines}
use Rattle.listings.proofs.Texts.{numbered_then}
use Rattle.listings.proofs.listing.add_functions.Goals as goal

pub loop-number-preserved : goal.loop-number-preserved
loop-number-preserved g c = (
  c.add_function.ensures.countable,
  λ before text so_far.
      rw
      (numbered_then (function_lines c.args.addresses.now) text c.args.functions.now c.loop-number.number
      c.index-functions-number.result c.loop-number-test.true c.index-functions-number.is)
      (c.add_function.ensures.text before _ (c.loop-number.invariant.1 before text so_far)),
)
