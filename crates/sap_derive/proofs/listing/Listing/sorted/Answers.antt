use Rattle.std.proofs.Common.{◌≡◌, ℕ, List, ◌∙◌, subst}
use Rattle.std.specs.List.{each_same}
use Rattle.std.specs.Prelude.{IsPermutation}
use Rattle.sap_derive.proofs.Sorts.{same-listed, ascend}
use Rattle.sap_derive.proofs.listing.Listing.sorted.Goals as goal

pub returns-clause-same : goal.returns-clause-same
returns-clause-same c n =
    let copied : c.in_ok-sorted.sorted.items ≡ c.self.inside.items.items = each_same c.self.inside.items.items c.in_ok-sorted.sorted.items c.in_ok-sorted.ensures.cases.0 in
    let whole : c.in_ok-sorted.sorted.items ≡ c.args.self.now = copied ∙ c.self.view_is in
    same-listed c.args.self.now c.sort.new.self.items (subst (λ (xs : List ℕ). IsPermutation xs c.sort.new.self.items) whole c.in_ok-sort.ensures.permutation) n

pub returns-clause-order : goal.returns-clause-order
returns-clause-order c = ascend c.sort.new.self.items c.in_ok-sort.ensures.sorted
