-- What is so of each fact that stands is so of those that are taken, and of those that are left.
use Rattle.std.proofs.Common.{ℕ, zero, suc, true, false, List, [], ◌∷◌, map, Option, Some, None, slice_set}
use Rattle.std.specs.Prelude.{All, IfSome, if◌then◌else◌}
use Rattle.std.proofs.lemmas.List.Elements.{All-nil, All-cons, All-head, All-tail, All-append, All-map}
use Rattle.sap_terms.specs.Piles.{Pile, Takes, nothing, one, used, adds}
use Rattle.sap_terms.specs.declared.fact.Fact.{Fact}
use Rattle.sap_rule.proofs.Elements.{all_at}

module _ (P : Fact → Type 0) where
  -- it is so of each that stands
  abbrev pub EachStands : Pile → Type 0
  EachStands facts = All (λ (slot : Option Fact). IfSome slot P) facts

  stands_set : (facts : Pile) (k : ℕ) → EachStands facts → EachStands (slice_set facts k None)
  stands_set [] k h = h
  stands_set (x ∷ xs) zero h = All-cons (λ (slot : Option Fact). IfSome slot P) None xs tt (All-tail (λ (slot : Option Fact). IfSome slot P) x xs h)
  stands_set (x ∷ xs) (suc k) h =
      All-cons (λ (slot : Option Fact). IfSome slot P) x (slice_set xs k None) (All-head (λ (slot : Option Fact). IfSome slot P) x xs h) (stands_set xs k (All-tail (λ (slot : Option Fact). IfSome slot P) x xs h))

  stands_used : (facts : Pile) (k : ℕ) (f : Fact) → EachStands facts → EachStands (used facts k f)
  stands_used facts k f h = elim f.persistent as (λ b. EachStands (if b then facts else slice_set facts k None)) [ true ↦ h | false ↦ stands_set facts k h ]

  pub taken : {facts rest : Pile} {ks : List ℕ} {fs : List Fact} → Takes facts ks fs rest → EachStands facts → All P fs × EachStands rest
  taken nothing h = (All-nil P, h)
  taken {facts = facts} (one {k = k} {f = f} {fs = fs} at t) h =
      let further = taken t (stands_used facts k f h) in
      (All-cons P f fs (all_at (λ (slot : Option Fact). IfSome slot P) facts k (Some f) h at) further.0, further.1)

  pub added : (facts : Pile) (fs : List Fact) → EachStands facts → All P fs → EachStands (adds facts fs)
  added facts fs h a =
      All-append (λ (slot : Option Fact). IfSome slot P) facts (map (λ f. Some f) fs) h (All-map (λ (slot : Option Fact). IfSome slot P) (λ f. Some f) fs a)
