use Rattle.listings.proofs.KnownListings.{listings}
use Rattle.listings.proofs.worked_listings.known_listings.Goals as goal

pub returns : goal.returns
returns c = listings
