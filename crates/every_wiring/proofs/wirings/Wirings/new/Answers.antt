use Rattle.every_wiring.proofs.Listing.{listed_all}
use Rattle.every_wiring.proofs.wirings.Wirings.new.Goals as goal

pub returns : goal.returns
returns c = listed_all _ _ c.in_ok-list.ensures
