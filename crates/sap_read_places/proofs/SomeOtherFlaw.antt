-- Each file that is refused for a flaw that has two places has the other one.
use Rattle.std.proofs.Common.{◌≡◌, ◌<◌, ℕ, List, Some, length, take, sym, subst, ◌∙◌}
use Rattle.std.specs.Prelude.{Option}
use Rattle.sap_process.specs.Proc.{Proc}
use Rattle.sap_process.specs.Sites.{sites}
use Rattle.sap_process.specs.declared.flaw.Flaw.{Flaw}
use Rattle.sap_nodes.specs.HeadNodes.{head_nodes}
use Rattle.sap_origin.specs.Definitions.{LocatedDefinition}
use Rattle.sap_origin.specs.Reached.{process_at}
use Rattle.sap_read.specs.Item.{signature_of}
use Rattle.sap_read.specs.LocatedItems.{LocatedMain, definitions_at, located_bodies}
use Rattle.sap_read_places.specs.declared.told.Told.{Told}
use Rattle.sap_read_places.specs.FlawPlaces.{IsFlawPlace, IsNodeTold}
use Rattle.sap_read_places.specs.OtherFlawPlaces.{HasOtherNode, IsOtherFlawPlace}
use Rattle.sap_read_places.proofs.Along.{Ordered, PlacesStand, PlainBodies, Used}
use Rattle.sap_read_places.proofs.FlawSome as some
use Rattle.sap_read_places.proofs.FlawSome.{AreSpelled, AsMany, SitesAtPaths, SomeFilling, SomeHead, SomeNode, SomeStems, WrittenStems}
use Rattle.sap_read_places.proofs.OtherFlaws.{BinderInHead, SomeBinder, SomeFact, its_node, other_there, some_other_node}

some_same : {A : Type 0} {a b : A} → ◌≡◌ {A = Option A} (Some a) (Some b) → a ≡ b
some_same e = cc (e)

module _ (head : BinderInHead) (binder : SomeBinder) (fact : SomeFact) (spelled : AreSpelled) (heads : SomeHead) (nodes : SomeNode) (filling : SomeFilling) (plain : PlainBodies) (ordered : Ordered) (used : Used)
    (stems : SomeStems) (as_many : AsMany) (written : WrittenStems) (at_paths : SitesAtPaths) (stands_at : PlacesStand) where
  -- a node of the process has its word
  node_told : (z : List ℕ) (w : Flaw) (path : List ℕ) (t : Told) (a : IsFlawPlace z w path t) (v : List ℕ) (y : Proc) (n : ℕ) → process_at a.process v ≡ Some y → n < length (head_nodes y)
      → (u : Told) × IsNodeTold (signature_of a.placed.standing) z a.tokens a.definitions a.main v n u
  node_told z w path t a v y n at low =
      let m = some.main spelled heads nodes filling plain ordered used stems as_many written at_paths stands_at z a.tokens a.placed.name a.placed.cut a.placed.standing a.placed.parted a.placed.items
      a.placed.nothing a.process a.whole in
      let u = some.node_told spelled heads nodes filling plain ordered used stems as_many written at_paths stands_at z a.tokens a.placed.name a.placed.cut a.placed.standing a.placed.parted
      a.placed.items a.placed.nothing a.process a.whole v y n at low in
      let main_is : m.0 ≡ a.main = some_same (sym m.1 ∙ a.placed.main_is) in (
        u.0,
        subst (λ (ds : List LocatedDefinition). IsNodeTold (signature_of a.placed.standing) z a.tokens ds a.main v n u.0) a.placed.definitions_are
            (subst (λ (r : LocatedMain). IsNodeTold (signature_of a.placed.standing) z a.tokens (definitions_at (located_bodies a.placed.items)) r v n u.0) main_is u.1),
      )

  pub some_other_flaw : (z : List ℕ) (w : Flaw) (path : List ℕ) → HasOtherNode w → (t : Told) × IsFlawPlace z w path t → (t : Told) × IsOtherFlawPlace z w path t
  some_other_flaw z w path of h =
      let a = h.1 in
      let n = its_node (signature_of a.placed.standing) a.process (take a.number (sites a.process)) a.site w a.spoken of a.speaks in
      let o = some_other_node binder fact (signature_of a.placed.standing) a.process a.number a.site w n.0 a.stands of n.1 in
      let y = other_there head at_paths w a.process a.site n.0 o.0 o.1 o.2 in
      let u = node_told z w path h.0 a o.0 y.0 o.1 y.1 y.2 in
      (u.0, record { first = h.0; at = a; node = n.0; speaks = n.1; other_path = o.0; other_node = o.1; other = o.2; told = u.1 })
