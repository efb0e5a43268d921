use Rattle.std.proofs.Common.{◌≡◌, length, arith, sym}
use Rattle.std.specs.Vec.{vec_len}
use Rattle.sap_derive.specs.code.Listed.{IsListed}
use Rattle.sap_derive.proofs.Options.{from-some, from-none}
use Rattle.sap_derive.proofs.Places.{places-again, places-new}
use Rattle.sap_derive.proofs.listing.Listing.push.Goals as goal

pub invariant_of-self-then-not-stands : goal.invariant_of-self-then-not-stands
invariant_of-self-then-not-stands c =
    let a = c.self.inside in
    let new : ¬ IsListed a.items.items c.args.n = rw c.self.view_is (from-none c.place.result (¬ IsListed c.args.self.now c.args.n) c.place.ensures.none (sym c.if-not-stands.ensures)) in
    let told = places-new c.reach.new.places.items a.items.items c.args.n (rw (← c.as_slice.ensures.value) c.reach.ensures.tell) new (omega (arith, c.in_ok-reach.ensures.reached)) in
    let count : vec_len a.items ≡ length a.items.items = omega arith in
    rw (c.in_ok-push.ensures.items, c.len-place.ensures, count) told

pub invariant_of-self-else-not-stands : goal.invariant_of-self-else-not-stands
invariant_of-self-else-not-stands c =
    let a = c.self.inside in
    let there = from-some c.place.result _ c.place.ensures.some (sym c.if-not-stands.ensures) in
    let told = places-again c.reach.new.places.items a.items.items c.args.n (rw (← c.as_slice.ensures.value) c.reach.ensures.tell) (there.0, rw c.self.view_is there.1) in
    rw c.in_ok-push.ensures.items told

pub reach-requires : goal.reach-requires
reach-requires c = rw c.as_slice.ensures.value c.self.invariant
