use Rattle.std.proofs.Common.{sym}
use Rattle.listings.proofs.listing.put_listing.Goals as goal

pub returns : goal.returns
returns g c =
    c.put_code.ensures c.args.program.now (sym c.addresses.ensures.addresses) (sym c.instructions.ensures.code)
