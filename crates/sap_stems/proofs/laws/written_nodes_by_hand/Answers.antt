use Rattle.std.proofs.Common.{◌≡◌, ℕ, List, [], ◌∷◌, Option, Some, None, refl, sym, ap, subst, ◌∙◌}
use Rattle.std.specs.Prelude.{slice_get}
use Rattle.sap_macro.specs.Located.{Located}
use Rattle.sap_origin.specs.Definitions.{LocatedDefinition}
use Rattle.sap_origin.specs.Reached.{reaches_here, reaches_use, reaches_behind}
use Rattle.sap_stems.specs.Examples.{chain_defs, two, two_defs, with_a}
use Rattle.sap_stems.specs.StemOf.{IsSome, IsStemAt}
use Rattle.sap_stems.specs.Stems.{Stem}
use Rattle.sap_stems.specs.StemsAt.{AreStems}
use Rattle.sap_stems.specs.declared.making.WrittenNode.{WrittenNode}
use Rattle.sap_stems.proofs.OneStem.{one_list}
use Rattle.sap_stems.proofs.laws.written_nodes_by_hand.Goals as goal

-- all stems of a place
record All (ds : List LocatedDefinition) (p : Located) (path : List ℕ) : Type 0 where
  pub stems : List Stem
  pub are : AreStems ds p 1 path stems

abbrev chain_all : All chain_defs with_a []
chain_all = record { stems = _; are = record { standing = _; place = _; reaches = reaches_use refl tt (reaches_use refl tt (reaches_here tt)); stems_are = refl } }

abbrev two_first : All two_defs two (1 ∷ [])
two_first = record { stems = _; are = record { standing = _; place = _; reaches = reaches_behind (reaches_use refl tt (reaches_here tt)); stems_are = refl } }

-- what the program has there
there : {ds : List LocatedDefinition} {p : Located} {path : List ℕ} (all : All ds p path) (k : ℕ) (o : Option Stem) → slice_get all.stems k ≡ o → (r : Option WrittenNode) → IsStemAt ds p 1 path k r → IsSome o r
there {ds = ds} all k o e r h = subst (λ (x : Option Stem). IsSome x r) (ap (λ (ss : List Stem). slice_get ss k) (sym (one_list ds all.are h.1)) ∙ e) h.2

back : {ds : List LocatedDefinition} {p : Located} {path : List ℕ} (all : All ds p path) (k : ℕ) (o : Option Stem) → slice_get all.stems k ≡ o → (r : Option WrittenNode) → IsSome o r → IsStemAt ds p 1 path k r
back all k o e r h = (all.stems, all.are, subst (λ (x : Option Stem). IsSome x r) (sym e) h)

pub returns-clause-two_uses : goal.returns-clause-two_uses
returns-clause-two_uses c = λ w. (
  (λ h. let n = there chain_all 0 _ refl (Some w) h in (sym n.place_is, n.index_is, sym n.behind_is, n.uses_are)),
  (λ h. back chain_all 0 _ refl (Some w) (record { place_is = sym h.0; index_is = h.1; behind_is = sym h.2; uses_are = h.3 })),
)

pub returns-clause-one_use : goal.returns-clause-one_use
returns-clause-one_use c = λ w. (
  (λ h. let n = there chain_all 1 _ refl (Some w) h in (sym n.place_is, n.index_is, sym n.behind_is, n.uses_are)),
  (λ h. back chain_all 1 _ refl (Some w) (record { place_is = sym h.0; index_is = h.1; behind_is = sym h.2; uses_are = h.3 })),
)

pub returns-clause-no_use : goal.returns-clause-no_use
returns-clause-no_use c = λ w. (
  (λ h. let n = there chain_all 2 _ refl (Some w) h in (sym n.place_is, n.index_is, sym n.behind_is, n.uses_are)),
  (λ h. back chain_all 2 _ refl (Some w) (record { place_is = sym h.0; index_is = h.1; behind_is = sym h.2; uses_are = h.3 })),
)

pub returns-clause-behind : goal.returns-clause-behind
returns-clause-behind c = λ w. (
  (λ h. let n = there two_first 1 _ refl (Some w) h in (sym n.place_is, n.index_is, sym n.behind_is, n.uses_are)),
  (λ h. back two_first 1 _ refl (Some w) (record { place_is = sym h.0; index_is = h.1; behind_is = sym h.2; uses_are = h.3 })),
)

pub returns-clause-none : goal.returns-clause-none
returns-clause-none c = (back two_first 2 _ refl None tt, λ w h. there two_first 2 _ refl (Some w) h)

pub returns-clause-not_none : goal.returns-clause-not_none
returns-clause-not_none c = λ h. there two_first 1 _ refl None h
