use Rattle.std.proofs.Common.{◌≡◌, ℕ, zero, suc, List, [], ◌∷◌, Option, Some, None, refl, sym, ap, ◌∙◌, arith}
use Rattle.std.specs.Prelude.{slice_get}
use Rattle.sap_macro.specs.Located.{Located}
use Rattle.sap_origin.specs.Definitions.{LocatedDefinition}
use Rattle.sap_origin.specs.Reached.{reaches_here, reaches_use, reaches_left, reaches_right, reaches_behind}
use Rattle.sap_stems.specs.Examples.{StemsFrom, chain_defs, plain_defs, plain_inner, twice, twice_defs, twice_inner, two, two_defs, two_inner, two_use, with_a}
use Rattle.sap_stems.specs.Stems.{Stem}
use Rattle.sap_stems.specs.StemsAt.{AreStems}
use Rattle.sap_stems.proofs.OneStem.{one_list}
use Rattle.sap_stems.proofs.laws.stems_by_hand.Goals as goal

-- all stems of a place
record All (ds : List LocatedDefinition) (p : Located) (path : List ℕ) : Type 0 where
  pub stems : List Stem
  pub are : AreStems ds p 1 path stems

abbrev two_first : All two_defs two (1 ∷ [])
two_first = record { stems = _; are = record { standing = _; place = _; reaches = reaches_behind (reaches_use refl tt (reaches_here tt)); stems_are = refl } }

abbrev two_second : All two_defs two (1 ∷ 1 ∷ [])
two_second = record { stems = _; are = record { standing = _; place = _; reaches = reaches_behind (reaches_use refl tt (reaches_behind (reaches_here tt))); stems_are = refl } }

abbrev two_main : All two_defs two []
two_main = record { stems = _; are = record { standing = _; place = _; reaches = reaches_here tt; stems_are = refl } }

abbrev twice_first : All twice_defs twice (1 ∷ [])
twice_first = record { stems = _; are = record { standing = _; place = _; reaches = reaches_left (reaches_use refl tt (reaches_here tt)); stems_are = refl } }

abbrev twice_second : All twice_defs twice (2 ∷ [])
twice_second = record { stems = _; are = record { standing = _; place = _; reaches = reaches_right (reaches_use refl tt (reaches_here tt)); stems_are = refl } }

abbrev plain_all : All plain_defs with_a []
plain_all = record { stems = _; are = record { standing = _; place = _; reaches = reaches_use refl tt (reaches_use refl tt (reaches_here tt)); stems_are = refl } }

abbrev chain_all : All chain_defs with_a []
chain_all = record { stems = _; are = record { standing = _; place = _; reaches = reaches_use refl tt (reaches_use refl tt (reaches_here tt)); stems_are = refl } }

from : {ds : List LocatedDefinition} {p : Located} {path : List ℕ} (all : All ds p path) (k : ℕ) (s : Stem) → slice_get all.stems k ≡ Some s → StemsFrom ds p path k s.place s.index s.standing.uses
from all k s e = record { stems = all.stems; are = all.are; stem = s; stands = e; place_is = refl; index_is = refl; uses_are = refl }

-- one stem, if there is one
one_stem : {ds : List LocatedDefinition} {p : Located} {path : List ℕ} (all : All ds p path) {k : ℕ} {q : Located} {i : ℕ} {us : List ℕ} (f : StemsFrom ds p path k q i us) → slice_get all.stems k ≡ Some f.stem
one_stem {ds = ds} all {k = k} f = ap (λ (ss : List Stem). slice_get ss k) (one_list ds all.are f.are) ∙ f.stands

other_place : {ds : List LocatedDefinition} {p : Located} {path : List ℕ} (all : All ds p path) (k : ℕ) (s : Stem) → slice_get all.stems k ≡ Some s → (q : Located) → (q ≡ s.place → ⊥) → (i : ℕ) (us : List ℕ)
    → StemsFrom ds p path k q i us → ⊥
other_place all k s e q other i us f =
    let same : ◌≡◌ {A = Option Stem} (Some s) (Some f.stem) = sym e ∙ one_stem all f in
    let is : s ≡ f.stem = cc (same) in
    other (f.place_is ∙ ap (λ (x : Stem). x.place) (sym is))

other_index : {ds : List LocatedDefinition} {p : Located} {path : List ℕ} (all : All ds p path) (k : ℕ) (s : Stem) → slice_get all.stems k ≡ Some s → (i : ℕ) → (i ≡ s.index → ⊥) → (q : Located) (us : List ℕ)
    → StemsFrom ds p path k q i us → ⊥
other_index all k s e i other q us f =
    let same : ◌≡◌ {A = Option Stem} (Some s) (Some f.stem) = sym e ∙ one_stem all f in
    let is : s ≡ f.stem = cc (same) in
    other (f.index_is ∙ ap (λ (x : Stem). x.index) (sym is))

other_uses : {ds : List LocatedDefinition} {p : Located} {path : List ℕ} (all : All ds p path) (k : ℕ) (s : Stem) → slice_get all.stems k ≡ Some s → (us : List ℕ) → (us ≡ s.standing.uses → ⊥) → (q : Located) (i : ℕ)
    → StemsFrom ds p path k q i us → ⊥
other_uses all k s e us other q i f =
    let same : ◌≡◌ {A = Option Stem} (Some s) (Some f.stem) = sym e ∙ one_stem all f in
    let is : s ≡ f.stem = cc (same) in
    other (f.uses_are ∙ ap (λ (x : Stem). x.standing.uses) (sym is))

pub returns-clause-argument : goal.returns-clause-argument
returns-clause-argument c = from two_first 0 _ refl

pub returns-clause-below : goal.returns-clause-below
returns-clause-below c = from two_first 1 _ refl

pub returns-clause-other_argument : goal.returns-clause-other_argument
returns-clause-other_argument c = from two_second 0 _ refl

pub returns-clause-main : goal.returns-clause-main
returns-clause-main c = from two_main 0 _ refl

pub returns-clause-body : goal.returns-clause-body
returns-clause-body c = from twice_first 0 _ refl

pub returns-clause-public : goal.returns-clause-public
returns-clause-public c = from twice_first 1 _ refl

pub returns-clause-third : goal.returns-clause-third
returns-clause-third c = from twice_first 2 _ refl

pub returns-clause-second : goal.returns-clause-second
returns-clause-second c = from twice_second 1 _ refl

pub returns-clause-fourth : goal.returns-clause-fourth
returns-clause-fourth c = from twice_second 3 _ refl

pub returns-clause-stays : goal.returns-clause-stays
returns-clause-stays c = from plain_all 0 _ refl

pub returns-clause-outer : goal.returns-clause-outer
returns-clause-outer c = from chain_all 0 _ refl

pub returns-clause-middle : goal.returns-clause-middle
returns-clause-middle c = from chain_all 1 _ refl

pub returns-clause-inner : goal.returns-clause-inner
returns-clause-inner c = from chain_all 2 _ refl

pub returns-clause-no_parameter_of_another : goal.returns-clause-no_parameter_of_another
returns-clause-no_parameter_of_another c = from chain_all 3 _ refl

none_at : {ds : List LocatedDefinition} {p : Located} {path : List ℕ} (all : All ds p path) (k : ℕ) → slice_get all.stems k ≡ None → {q : Located} {i : ℕ} {us : List ℕ} → StemsFrom ds p path k q i us → ⊥
none_at all k e f =
    let never : ◌≡◌ {A = Option Stem} None (Some f.stem) = sym e ∙ one_stem all f in
    absurd (cc (never))

no_parameter : (k i : ℕ) (us : List ℕ) → StemsFrom two_defs two (1 ∷ []) k two_inner i us → ⊥
no_parameter zero i us = other_place two_first 0 _ refl two_inner (λ e. cc (e)) i us
no_parameter (suc zero) i us = other_place two_first 1 _ refl two_inner (λ e. cc (e)) i us
no_parameter (suc (suc k)) i us = none_at two_first (suc (suc k)) refl

no_uses_of_the_body : (k i : ℕ) → StemsFrom two_defs two (1 ∷ []) k two_use i (13 ∷ []) → ⊥
no_uses_of_the_body zero i = other_uses two_first 0 _ refl (13 ∷ []) (λ e. cc (e)) two_use i
no_uses_of_the_body (suc zero) i = other_uses two_first 1 _ refl (13 ∷ []) (λ e. cc (e)) two_use i
no_uses_of_the_body (suc (suc k)) i = none_at two_first (suc (suc k)) refl

pub returns-clause-no_parameter : goal.returns-clause-no_parameter
returns-clause-no_parameter c = no_parameter

pub returns-clause-no_first : goal.returns-clause-no_first
returns-clause-no_first c = λ us. other_index two_first 0 _ refl 0 (λ e. omega (arith, e)) two_use us

pub returns-clause-no_uses_of_the_body : goal.returns-clause-no_uses_of_the_body
returns-clause-no_uses_of_the_body c = no_uses_of_the_body

pub returns-clause-no_more : goal.returns-clause-no_more
returns-clause-no_more c = λ q i us. none_at two_first 2 refl

pub returns-clause-no_other_use : goal.returns-clause-no_other_use
returns-clause-no_other_use c = λ q i. other_uses twice_second 3 _ refl (13 ∷ []) (λ e. cc (e)) q i

pub returns-clause-no_alike : goal.returns-clause-no_alike
returns-clause-no_alike c = λ us. other_place twice_second 1 _ refl twice_inner (λ e. cc (e)) 2 us

pub returns-clause-no_plain : goal.returns-clause-no_plain
returns-clause-no_plain c = λ us. other_place plain_all 0 _ refl plain_inner (λ e. cc (e)) 0 us

pub returns-clause-no_argument_of_another : goal.returns-clause-no_argument_of_another
returns-clause-no_argument_of_another c = λ i us. other_place chain_all 3 _ refl with_a (λ e. cc (e)) i us
