-- What is hidden, and which traces are admitted, after one more place.
use Rattle.sap_translate.specs.relation.Shown.{ShowsAt}
use Rattle.sap_restrict.specs.ReservedFacts.{init_fact, event_fact}
use Rattle.sap_translate.specs.Members.{Member}
use Rattle.sap_restrict.specs.Sentences.{InitOnce}
use Rattle.sap_formula.specs.Hide.{hide, is_hidden, visible}
use Rattle.sap_translate.proofs.Shared.Lookups.{get-append_left, get_last, get_within}
use Rattle.sap_translate.proofs.Shared.Facts.{same_fact_true, not_reserved}
use Rattle.sap_translate.proofs.Shared.Totals.{total_found}
use Rattle.sap_translate.specs.relation.Names.{same_fact}
use Rattle.sap_translate.specs.relation.Totals.{total}
use Rattle.sap_translate.specs.relation.Counts.{has_init}
use Rattle.sap_terms.specs.Reserved.{is_reserved}
use Rattle.sap_terms.specs.Trace.{Trace, shown}
use Rattle.sap_terms.specs.declared.fact.Fact.{Fact}
use Rattle.std.proofs.Common.{◌≡◌, ℕ, zero, suc, ◌+◌, ◌<◌, ◌≤◌, ◌⊎◌, inl, inr, List, [], ◌∷◌, ◌++◌, Some, refl, sym, ap, ◌∙◌, arith, Bool, true, false, cond, append_assoc, append-nil, slice_get, length, not, ◌&&◌}
use Rattle.std.specs.Prelude.{codes}
use Rattle.std.specs.Str.{bytes_eq}

pub hide_push : (full : Trace) (place : List Fact) → hide (full ++ place ∷ []) ≡ hide full ++ shown (visible place)
hide_push [] place = append-nil (shown (visible place))
hide_push (x ∷ full) place = ap (λ tr. shown (visible x) ++ tr) (hide_push full place) ∙ sym (append_assoc (shown (visible x)) (hide full) (shown (visible place)))

pub not_hidden : (name : List ℕ) → is_reserved name ≡ false → is_hidden name ≡ false
not_hidden name e = ap (λ b. b && not (bytes_eq name (codes "K"))) e

pub not_init : (f : Fact) → is_reserved f.name ≡ false → same_fact f init_fact ≡ false
not_init f e =
    rw (not_reserved f.name (codes "Init") e refl) refl

-- the acts of an event
pub event_visible : (f : Fact) → is_reserved f.name ≡ false → visible (event_fact ∷ f ∷ []) ≡ f ∷ []
event_visible f e = rw (not_hidden f.name e) refl

pub event_no_init : (f : Fact) → is_reserved f.name ≡ false → has_init (event_fact ∷ f ∷ []) ≡ 0
event_no_init f e = rw (not_init f e) refl

-- look-ups in longer lists
pub admitted_before : (full : Trace) (place : List Fact) → InitOnce (ShowsAt (full ++ place ∷ [])) → InitOnce (ShowsAt full)
admitted_before full place h i j a b =
    h i j (a.0, get-append_left full (place ∷ []) i a.0 a.1, a.2) (b.0, get-append_left full (place ∷ []) j b.0 b.1, b.2)

has_init_member : (place : List Fact) → 0 < has_init place → Member init_fact place
has_init_member [] h = absurd (omega arith)
has_init_member (f ∷ fs) h = go (same_fact f init_fact) refl (has_init_member fs)
  where
    go : (b : Bool) → same_fact f init_fact ≡ b → (0 < has_init fs → Member init_fact fs) → Member init_fact (f ∷ fs)
    go true e more = rw (same_fact_true f init_fact e) Member.here
    go false e more = Member.later (more (rw e at h))

member_has_init : (place : List Fact) → Member init_fact place → has_init place ≡ 1
member_has_init [] m = elim m [ ]
member_has_init (f ∷ fs) Member.here = refl
member_has_init (f ∷ fs) (Member.later m) = go (same_fact f init_fact) (member_has_init fs m)
  where
    go : (b : Bool) → has_init fs ≡ 1 → cond b 1 (has_init fs) ≡ 1
    go true e = refl
    go false e = e

-- two places at most weigh what all do
two_places : {A : Type 0} (w : A → ℕ) (xs : List A) (i j : ℕ) (x y : A) → slice_get xs i ≡ Some x → slice_get xs j ≡ Some y → (i ≡ j) ⊎ (w x + w y ≤ total w xs)
two_places w [] i j x y e f = cc
two_places w (z ∷ xs) zero zero x y e f = inl refl
two_places w (z ∷ xs) zero (suc j) x y e f = let a : w z ≡ w x = cc in inr (let b = one_place w xs j y f in omega arith)
  where
    one_place : {B : Type 0} (v : B → ℕ) (ys : List B) (k : ℕ) (b : B) → slice_get ys k ≡ Some b → v b ≤ total v ys
    one_place v [] k b e = cc
    one_place v (c ∷ ys) zero b e = let a : v c ≡ v b = cc in omega arith
    one_place v (c ∷ ys) (suc k) b e = let h = one_place v ys k b e in omega arith
two_places w (z ∷ xs) (suc i) zero x y e f = let a : w z ≡ w y = cc in inr (let b = one_place w xs i x e in omega arith)
  where
    one_place : {B : Type 0} (v : B → ℕ) (ys : List B) (k : ℕ) (b : B) → slice_get ys k ≡ Some b → v b ≤ total v ys
    one_place v [] k b e = cc
    one_place v (c ∷ ys) zero b e = let a : v c ≡ v b = cc in omega arith
    one_place v (c ∷ ys) (suc k) b e = let h = one_place v ys k b e in omega arith
two_places w (z ∷ xs) (suc i) (suc j) x y e f = elim (two_places w xs i j x y e f) [ inl a ↦ inl (ap suc a) | inr b ↦ inr (omega arith) ]

pub admitted_by_count : (full : Trace) → total has_init full ≤ 1 → InitOnce (ShowsAt full)
admitted_by_count full h i j a b =
    let p : has_init a.0 ≡ 1 = member_has_init a.0 a.2 in
    let q : has_init b.0 ≡ 1 = member_has_init b.0 b.2 in
    elim (two_places has_init full i j a.0 b.0 a.1 b.1) [ inl e ↦ e | inr g ↦ absurd (omega arith) ]

-- the first Init()
pub first_init : (full : Trace) → InitOnce (ShowsAt (full ++ (init_fact ∷ []) ∷ [])) → total has_init full ≡ 0
first_init full h = go (total has_init full) refl
  where
    clash : 0 < total has_init full → length full < length full
    clash g =
        let f = total_found has_init full g in
        let same : f.number ≡ length full = h f.number (length full) (f.item, get-append_left full ((init_fact ∷ []) ∷ []) f.number f.item f.is, has_init_member f.item f.counts) (init_fact ∷ [], get_last full (init_fact ∷ []), Member.here) in
        let within = get_within full f.number f.item f.is in
        omega arith

    go : (n : ℕ) → total has_init full ≡ n → n ≡ 0
    go zero e = refl
    go (suc n) e = absurd (let c = clash (omega arith) in omega arith)
