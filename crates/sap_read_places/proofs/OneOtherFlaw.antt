-- A flaw has one other place.
use Rattle.std.proofs.Common.{◌≡◌, ℕ, List, take, subst}
use Rattle.sap_text.specs.declared.token.Token.{Token}
use Rattle.sap_process.specs.Proc.{Proc}
use Rattle.sap_process.specs.Sites.{Site, sites}
use Rattle.sap_process.specs.declared.flaw.Flaw.{Flaw}
use Rattle.sap_nodes.specs.FlawNodes.{IsNodeOf}
use Rattle.sap_origin.specs.Definitions.{LocatedDefinition}
use Rattle.sap_read.specs.Item.{Standing, signature_of}
use Rattle.sap_read.specs.LocatedItems.{LocatedMain}
use Rattle.sap_read_places.specs.declared.told.Told.{Told}
use Rattle.sap_read_places.specs.FlawPlaces.{IsNodeTold}
use Rattle.sap_read_places.specs.OtherFlawPlaces.{IsOtherFlawPlace, IsOtherNode}
use Rattle.sap_read_places.proofs.Along.{SameDefinitions, SameMain, SameTokens}
use Rattle.sap_read_places.proofs.FlawOne as one
use Rattle.sap_read_places.proofs.FlawOne.{OneAtPath, OneFilling, OneHead, OneNode, OneStems, SitesInOrder, one_node_told}
use Rattle.sap_read_places.proofs.OtherFlaws.{OneBinder, OneFact, one_other_node}
use Rattle.sap_read_places.proofs.PlacedFiles.{OneCut, OneItems}

module _ (binders : OneBinder) (facts : OneFact) (tokens : SameTokens) (definitions : SameDefinitions) (mains : SameMain) (cuts : OneCut) (items : OneItems) (stems : OneStems) (heads : OneHead) (at : OneAtPath)
    (node : OneNode) (filling : OneFilling) (order : SitesInOrder) (z : List ℕ) (w : Flaw) (path : List ℕ) (s t : Told) (a : IsOtherFlawPlace z w path s) (b : IsOtherFlawPlace z w path t) where
  process_is : a.at.process ≡ b.at.process
  process_is = one.process_same tokens definitions mains cuts items stems heads at node filling order z w path a.first b.first a.at b.at

  standing_is : a.at.placed.standing ≡ b.at.placed.standing
  standing_is = one.standing_same tokens definitions mains cuts items stems heads at node filling order z w path a.first b.first a.at b.at

  number_is : a.at.number ≡ b.at.number
  number_is = one.number_is tokens definitions mains cuts items stems heads at node filling order z w path a.first b.first a.at b.at

  site_is : a.at.site ≡ b.at.site
  site_is = one.site_same tokens definitions mains cuts items stems heads at node filling order z w path a.first b.first a.at b.at

  speaks_too : IsNodeOf (signature_of b.at.placed.standing) (take b.at.number (sites b.at.process)) b.at.site w a.node
  speaks_too =
      subst (λ (is : List Standing). IsNodeOf (signature_of is) (take b.at.number (sites b.at.process)) b.at.site w a.node) standing_is
      (subst (λ (v : Site). IsNodeOf (signature_of a.at.placed.standing) (take b.at.number (sites b.at.process)) v w a.node) site_is
      (subst (λ (n : ℕ). IsNodeOf (signature_of a.at.placed.standing) (take n (sites b.at.process)) a.at.site w a.node) number_is
      (subst (λ (p : Proc). IsNodeOf (signature_of a.at.placed.standing) (take a.at.number (sites p)) a.at.site w a.node) process_is a.speaks)))

  node_is : a.node ≡ b.node
  node_is = node (signature_of b.at.placed.standing) (take b.at.number (sites b.at.process)) b.at.site w a.node b.node speaks_too b.speaks

  other_too : IsOtherNode w b.at.process b.at.site b.node a.other_path a.other_node
  other_too =
      subst (λ (n : ℕ). IsOtherNode w b.at.process b.at.site n a.other_path a.other_node) node_is
      (subst (λ (v : Site). IsOtherNode w b.at.process v a.node a.other_path a.other_node) site_is
      (subst (λ (p : Proc). IsOtherNode w p a.at.site a.node a.other_path a.other_node) process_is a.other))

  other_is : (a.other_path ≡ b.other_path) × (a.other_node ≡ b.other_node)
  other_is = one_other_node binders facts w b.at.process b.at.site b.node a.other_path b.other_path a.other_node b.other_node other_too b.other

  told_too : IsNodeTold (signature_of a.at.placed.standing) z b.at.tokens b.at.definitions b.at.main b.other_path b.other_node s
  told_too =
      subst (λ (k : ℕ). IsNodeTold (signature_of a.at.placed.standing) z b.at.tokens b.at.definitions b.at.main b.other_path k s) other_is.1
      (subst (λ (v : List ℕ). IsNodeTold (signature_of a.at.placed.standing) z b.at.tokens b.at.definitions b.at.main v a.other_node s) other_is.0
      (subst (λ (m : LocatedMain). IsNodeTold (signature_of a.at.placed.standing) z b.at.tokens b.at.definitions m a.other_path a.other_node s)
      (one.main_same tokens definitions mains cuts items stems heads at node filling order z w path a.first b.first a.at b.at)
      (subst (λ (ds : List LocatedDefinition). IsNodeTold (signature_of a.at.placed.standing) z b.at.tokens ds a.at.main a.other_path a.other_node s)
      (one.definitions_same tokens definitions mains cuts items stems heads at node filling order z w path a.first b.first a.at b.at)
      (subst (λ (ts : List Token). IsNodeTold (signature_of a.at.placed.standing) z ts a.at.definitions a.at.main a.other_path a.other_node s)
      (one.tokens_same tokens definitions mains cuts items stems heads at node filling order z w path a.first b.first a.at b.at) a.told))))

  pub one_other_flaw : s ≡ t
  one_other_flaw =
      one_node_told heads (signature_of a.at.placed.standing) (signature_of b.at.placed.standing) z b.at.tokens stems b.at.definitions b.at.main b.other_path b.other_node s t told_too b.told
