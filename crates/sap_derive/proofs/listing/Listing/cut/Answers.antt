use Rattle.sap_derive.proofs.Places.{places-cut}
use Rattle.sap_derive.proofs.listing.Listing.cut.Goals as goal

pub invariant_of-self : goal.invariant_of-self
invariant_of-self c =
    let a = c.self.inside in
    rw c.truncate.ensures.items (places-cut a.places.items a.items.items c.args.count c.self.invariant)
