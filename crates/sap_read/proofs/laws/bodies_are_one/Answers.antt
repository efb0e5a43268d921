use Rattle.std.proofs.Common.{◌≡◌, List, refl, sym, subst, ◌∙◌}
use Rattle.sap_terms.specs.Signature.{Sig}
use Rattle.sap_grammar.specs.Cut.{Placed}
use Rattle.sap_read.specs.Item.{Standing, signature_of}
use Rattle.sap_read.specs.ItemGrammar.{AreItems}
use Rattle.sap_read.specs.LocatedItems.{located_bodies}
use Rattle.sap_read.proofs.laws.bodies_are_one.Goals as goal

-- the same pieces say the same
same_said : ((cut : List (List Placed)) (is js : List Standing) → AreItems (signature_of is) cut is → AreItems (signature_of js) cut js → is ≡ js)
    → ((g : Sig) (cut : List (List Placed)) (is js : List Standing) (r : AreItems g cut is) (s : AreItems g cut js) → located_bodies r ≡ located_bodies s)
    → (cut other : List (List Placed)) (is js : List Standing) → cut ≡ other → (r : AreItems (signature_of is) cut is) (s : AreItems (signature_of js) other js) → located_bodies r ≡ located_bodies s
same_said own one cut other is js e r s =
    let alike : (t : AreItems (signature_of js) cut js) → located_bodies r ≡ located_bodies t =
    λ t. subst (λ (ks : List Standing). (u : AreItems (signature_of ks) cut ks) → located_bodies r ≡ located_bodies u) (own cut is js r t) (λ u. one (signature_of is) cut is is r u) t
    in
    subst (λ (o : List (List Placed)). (u : AreItems (signature_of js) o js) → located_bodies r ≡ located_bodies u) e alike s

pub returns-clause-are : goal.returns-clause-are
returns-clause-are c = λ z ts x cut is p r. record { name = x; cut = cut; standing = is; parted = p; items = r; bodies_are = refl }

pub returns-clause-one : goal.returns-clause-one
returns-clause-one c = λ z ts bs cs a b.
    a.bodies_are
    ∙ same_said c.one_list_of_items.ensures.own c.located_items.ensures.one a.cut b.cut a.standing b.standing (c.one_parting.ensures.items z ts ts a.name b.name a.cut b.cut a.parted b.parted) a.items b.items
    ∙ sym b.bodies_are
