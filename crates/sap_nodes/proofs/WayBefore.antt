-- The way along a path, and beside it the places before the place at its end.
use Rattle.std.proofs.Common.{◌≡◌, ℕ, zero, suc, List, [], ◌∷◌, ◌++◌, Bool, true, false, Some, inl, inr, nat_eq, refl, sym, ap, ◌∙◌}
use Rattle.std.specs.Prelude.{◌⊎◌, slice_get, take, if◌then◌else◌}
use Rattle.std.proofs.lemmas.Bool.Decides.{Decides-eqb}
use Rattle.std.proofs.lemmas.List.{append_assoc, append-nil}
use Rattle.sap_process.specs.Places.{Descent, Place, place, places_from}
use Rattle.sap_process.specs.Proc.{Proc, nil, parallel, replicated, act, test, lookup}
use Rattle.sap_nodes.specs.code.Clashes.{head_noted, places_noted, clash_head, clash_along}
use Rattle.sap_nodes.specs.declared.clash.Facts.{Facts}

one_of : {X : Type 0} (x y : X) → Some x ≡ Some y → x ≡ y
one_of x y e = cc

-- an item of two lists, with those in front of it
pub split_got : {X : Type 0} (xs ys : List X) (i : ℕ) (x : X) → slice_get (xs ++ ys) i ≡ Some x
    → ((slice_get xs i ≡ Some x) × (take i (xs ++ ys) ≡ take i xs)) ⊎ ((j : ℕ) × (slice_get ys j ≡ Some x) × (take i (xs ++ ys) ≡ xs ++ take j ys))
split_got [] ys i x e = inr (i, e, refl)
split_got (z ∷ zs) ys zero x e = inl (e, refl)
split_got {X} (z ∷ zs) ys (suc i) x e = by (split_got zs ys i x e) where
  by : ((slice_get zs i ≡ Some x) × (take i (zs ++ ys) ≡ take i zs)) ⊎ ((j : ℕ) × (slice_get ys j ≡ Some x) × (take i (zs ++ ys) ≡ zs ++ take j ys))
      → ((slice_get zs i ≡ Some x) × (z ∷ take i (zs ++ ys) ≡ z ∷ take i zs)) ⊎ ((j : ℕ) × (slice_get ys j ≡ Some x) × (z ∷ take i (zs ++ ys) ≡ z ∷ (zs ++ take j ys)))
  by (inl h) = inl (h.0, ap (λ (us : List X). z ∷ us) h.1)
  by (inr h) = inr (h.0, h.1, ap (λ (us : List X). z ∷ us) h.2)

-- each place from one on has its path, and goes on
abbrev Below : {S : Type 0} → List ℕ → Place S → Type 0
Below path x = (u : List ℕ) × (x.path ≡ path ++ u)

below_one : {S : Type 0} (path : List ℕ) (e : ℕ) (x : Place S) → Below (path ++ e ∷ []) x → (u : List ℕ) × (x.path ≡ path ++ e ∷ u)
below_one path e x h = (h.0, h.1 ∙ append_assoc path (e ∷ []) h.0)

wider : {S : Type 0} (path : List ℕ) (e : ℕ) (x : Place S) → Below (path ++ e ∷ []) x → Below path x
wider path e x h = let b = below_one path e x h in (e ∷ b.0, b.1)

at_start : {S : Type 0} (path : List ℕ) (s : S) (p : Proc) (x : Place S) → Some (place path s p) ≡ Some x → Below path x
at_start path s p x e = ([], sym (ap (λ (y : Place _). y.path) (one_of (place path s p) x e)) ∙ sym (append-nil path))

below_from : {S : Type 0} (d : Descent S) (path : List ℕ) (s : S) (p : Proc) (k : ℕ) (x : Place S) → slice_get (places_from d path s p) k ≡ Some x → Below path x
below_from d path s nil zero x e = at_start path s nil x e
below_from d path s nil (suc k) x e = cc
below_from d path s (parallel p q) zero x e = at_start path s (parallel p q) x e
below_from d path s (parallel p q) (suc k) x e =
    elim (split_got (places_from d (path ++ 1 ∷ []) (d s (parallel p q) 1) p) (places_from d (path ++ 2 ∷ []) (d s (parallel p q) 2) q) k x e) as (λ _. Below path x) [
      | inl h ↦ wider path 1 x (below_from d (path ++ 1 ∷ []) (d s (parallel p q) 1) p k x h.0)
      | inr h ↦ wider path 2 x (below_from d (path ++ 2 ∷ []) (d s (parallel p q) 2) q h.0 x h.1)
    ]
below_from d path s (replicated p) zero x e = at_start path s (replicated p) x e
below_from d path s (replicated p) (suc k) x e = wider path 1 x (below_from d (path ++ 1 ∷ []) (d s (replicated p) 1) p k x e)
below_from d path s (act a p) zero x e = at_start path s (act a p) x e
below_from d path s (act a p) (suc k) x e = wider path 1 x (below_from d (path ++ 1 ∷ []) (d s (act a p) 1) p k x e)
below_from d path s (test t u p q) zero x e = at_start path s (test t u p q) x e
below_from d path s (test t u p q) (suc k) x e =
    elim (split_got (places_from d (path ++ 1 ∷ []) (d s (test t u p q) 1) p) (places_from d (path ++ 2 ∷ []) (d s (test t u p q) 2) q) k x e) as (λ _. Below path x) [
      | inl h ↦ wider path 1 x (below_from d (path ++ 1 ∷ []) (d s (test t u p q) 1) p k x h.0)
      | inr h ↦ wider path 2 x (below_from d (path ++ 2 ∷ []) (d s (test t u p q) 2) q h.0 x h.1)
    ]
below_from d path s (lookup t v p q) zero x e = at_start path s (lookup t v p q) x e
below_from d path s (lookup t v p q) (suc k) x e =
    elim (split_got (places_from d (path ++ 1 ∷ []) (d s (lookup t v p q) 1) p) (places_from d (path ++ 2 ∷ []) (d s (lookup t v p q) 2) q) k x e) as (λ _. Below path x) [
      | inl h ↦ wider path 1 x (below_from d (path ++ 1 ∷ []) (d s (lookup t v p q) 1) p k x h.0)
      | inr h ↦ wider path 2 x (below_from d (path ++ 2 ∷ []) (d s (lookup t v p q) 2) q h.0 x h.1)
    ]

same_front : (path v w : List ℕ) → path ++ v ≡ path ++ w → v ≡ w
same_front [] v w e = e
same_front (d ∷ path) v w e = same_front path v w (tail e) where
  tail : d ∷ (path ++ v) ≡ d ∷ (path ++ w) → path ++ v ≡ path ++ w
  tail h = cc

same_head : (d e : ℕ) (v w : List ℕ) → d ∷ v ≡ e ∷ w → d ≡ e
same_head d e v w h = cc

no_digit : (d : ℕ) (v : List ℕ) → [] ≡ d ∷ v → ⊥
no_digit d v h = cc

-- what is noted of places, one after another
abbrev pub listed : {S : Type 0} → Facts → List (Place S) → Facts
listed a [] = a
listed a (b ∷ bs) = listed (head_noted a b.body) bs

listed-append : {S : Type 0} (a : Facts) (bs cs : List (Place S)) → listed a (bs ++ cs) ≡ listed (listed a bs) cs
listed-append a [] cs = refl
listed-append a (b ∷ bs) cs = listed-append (head_noted a b.body) bs cs

pub noted_places : {S : Type 0} (d : Descent S) (path : List ℕ) (s : S) (p : Proc) (a : Facts) → listed a (places_from d path s p) ≡ places_noted a p
noted_places d path s nil a = refl
noted_places d path s (parallel p q) a =
    listed-append (head_noted a (parallel p q)) (places_from d (path ++ 1 ∷ []) (d s (parallel p q) 1) p) (places_from d (path ++ 2 ∷ []) (d s (parallel p q) 2) q)
    ∙ ap (λ b. listed b (places_from d (path ++ 2 ∷ []) (d s (parallel p q) 2) q)) (noted_places d (path ++ 1 ∷ []) (d s (parallel p q) 1) p (head_noted a (parallel p q)))
    ∙ noted_places d (path ++ 2 ∷ []) (d s (parallel p q) 2) q (places_noted (head_noted a (parallel p q)) p)
noted_places d path s (replicated p) a = noted_places d (path ++ 1 ∷ []) (d s (replicated p) 1) p (head_noted a (replicated p))
noted_places d path s (act x p) a = noted_places d (path ++ 1 ∷ []) (d s (act x p) 1) p (head_noted a (act x p))
noted_places d path s (test t u p q) a =
    listed-append (head_noted a (test t u p q)) (places_from d (path ++ 1 ∷ []) (d s (test t u p q) 1) p) (places_from d (path ++ 2 ∷ []) (d s (test t u p q) 2) q)
    ∙ ap (λ b. listed b (places_from d (path ++ 2 ∷ []) (d s (test t u p q) 2) q)) (noted_places d (path ++ 1 ∷ []) (d s (test t u p q) 1) p (head_noted a (test t u p q)))
    ∙ noted_places d (path ++ 2 ∷ []) (d s (test t u p q) 2) q (places_noted (head_noted a (test t u p q)) p)
noted_places d path s (lookup t v p q) a =
    listed-append (head_noted a (lookup t v p q)) (places_from d (path ++ 1 ∷ []) (d s (lookup t v p q) 1) p) (places_from d (path ++ 2 ∷ []) (d s (lookup t v p q) 2) q)
    ∙ ap (λ b. listed b (places_from d (path ++ 2 ∷ []) (d s (lookup t v p q) 2) q)) (noted_places d (path ++ 1 ∷ []) (d s (lookup t v p q) 1) p (head_noted a (lookup t v p q)))
    ∙ noted_places d (path ++ 2 ∷ []) (d s (lookup t v p q) 2) q (places_noted (head_noted a (lookup t v p q)) p)

-- the walk along the digits notes the places before the one at their end, and meets its head
abbrev Reaches : {S : Type 0} → Descent S → List ℕ → Type 0
Reaches {S} d v = (path : List ℕ) (s : S) (p : Proc) (a : Facts) (k : ℕ) (x : Place S) → slice_get (places_from d path s p) k ≡ Some x → x.path ≡ path ++ v
    → clash_along a v p ≡ clash_head (listed a (take k (places_from d path s p))) x.body

-- the place itself, which has no digit
itself : {S : Type 0} (path : List ℕ) (s : S) (p : Proc) (a : Facts) (x : Place S) → Some (place path s p) ≡ Some x → clash_head a p ≡ clash_head a x.body
itself path s p a x e = ap (λ (y : Place _). clash_head a y.body) (one_of (place path s p) x e)

ends : {S : Type 0} (path : List ℕ) (e : ℕ) (x : Place S) → Below (path ++ e ∷ []) x → x.path ≡ path ++ [] → ⊥
ends path e x h w = let b = below_one path e x h in no_digit e b.0 (same_front path [] (e ∷ b.0) (sym w ∙ b.1))

starts : {S : Type 0} (path : List ℕ) (s : S) (p : Proc) (e : ℕ) (v : List ℕ) (x : Place S) → Some (place path s p) ≡ Some x → x.path ≡ path ++ e ∷ v → ⊥
starts path s p e v x h w =
    no_digit e v (same_front path [] (e ∷ v) (append-nil path ∙ ap (λ (y : Place _). y.path) (one_of (place path s p) x h) ∙ w))

-- the digit of a child
digit_of : {S : Type 0} (path : List ℕ) (c e : ℕ) (v : List ℕ) (x : Place S) → Below (path ++ c ∷ []) x → x.path ≡ path ++ e ∷ v → e ≡ c
digit_of path c e v x h w = let b = below_one path c x h in same_head e c v b.0 (same_front path (e ∷ v) (c ∷ b.0) (sym w ∙ b.1))

first_test : (e : ℕ) → e ≡ 1 → nat_eq e 1 ≡ true
first_test e h = (Decides-eqb e 1).1 h

second_test : (e : ℕ) → e ≡ 2 → nat_eq e 1 ≡ false
second_test e h = ap (λ n. nat_eq n 1) h

-- the child of one place
on_one : {S : Type 0} (d : Descent S) (v : List ℕ) → Reaches d v → (path : List ℕ) (s : S) (q : Proc) (e : ℕ) (a other : Facts) (k : ℕ) (x : Place S)
    → slice_get (places_from d (path ++ 1 ∷ []) s q) k ≡ Some x → x.path ≡ path ++ e ∷ v
    → (if nat_eq e 1 then clash_along a v q else other) ≡ clash_head (listed a (take k (places_from d (path ++ 1 ∷ []) s q))) x.body
on_one d v ih path s q e a other k x h w =
    let is : e ≡ 1 = digit_of path 1 e v x (below_from d (path ++ 1 ∷ []) s q k x h) w in
    ap (λ (b : Bool). if b then clash_along a v q else other) (first_test e is)
    ∙ ih (path ++ 1 ∷ []) s q a k x h (w ∙ ap (λ c. path ++ c ∷ v) is ∙ sym (append_assoc path (1 ∷ []) v))

on_two : {S : Type 0} (d : Descent S) (v : List ℕ) → Reaches d v → (path : List ℕ) (s t : S) (q r : Proc) (e : ℕ) (a : Facts) (k : ℕ) (x : Place S)
    → slice_get (places_from d (path ++ 1 ∷ []) s q ++ places_from d (path ++ 2 ∷ []) t r) k ≡ Some x → x.path ≡ path ++ e ∷ v
    → (if nat_eq e 1 then clash_along a v q else clash_along (places_noted a q) v r)
    ≡ clash_head (listed a (take k (places_from d (path ++ 1 ∷ []) s q ++ places_from d (path ++ 2 ∷ []) t r))) x.body
on_two {S} d v ih path s t q r e a k x h w = by (split_got (places_from d (path ++ 1 ∷ []) s q) (places_from d (path ++ 2 ∷ []) t r) k x h) where
  by : ((slice_get (places_from d (path ++ 1 ∷ []) s q) k ≡ Some x)
      × (take k (places_from d (path ++ 1 ∷ []) s q ++ places_from d (path ++ 2 ∷ []) t r) ≡ take k (places_from d (path ++ 1 ∷ []) s q)))
      ⊎ ((j : ℕ) × (slice_get (places_from d (path ++ 2 ∷ []) t r) j ≡ Some x)
      × (take k (places_from d (path ++ 1 ∷ []) s q ++ places_from d (path ++ 2 ∷ []) t r) ≡ places_from d (path ++ 1 ∷ []) s q ++ take j (places_from d (path ++ 2 ∷ []) t r)))
      → (if nat_eq e 1 then clash_along a v q else clash_along (places_noted a q) v r)
      ≡ clash_head (listed a (take k (places_from d (path ++ 1 ∷ []) s q ++ places_from d (path ++ 2 ∷ []) t r))) x.body
  by (inl f) =
      on_one d v ih path s q e a (clash_along (places_noted a q) v r) k x f.0 w
      ∙ sym (ap (λ (bs : List (Place S)). clash_head (listed a bs) x.body) f.1)
  by (inr f) =
      let is : e ≡ 2 = digit_of path 2 e v x (below_from d (path ++ 2 ∷ []) t r f.0 x f.1) w in
      ap (λ (b : Bool). if b then clash_along a v q else clash_along (places_noted a q) v r) (second_test e is)
      ∙ ih (path ++ 2 ∷ []) t r (places_noted a q) f.0 x f.1 (w ∙ ap (λ c. path ++ c ∷ v) is ∙ sym (append_assoc path (2 ∷ []) v))
      ∙ sym (ap (λ (b : Facts). clash_head b x.body)
      (ap (λ (bs : List (Place S)). listed a bs) f.2
      ∙ listed-append a (places_from d (path ++ 1 ∷ []) s q) (take f.0 (places_from d (path ++ 2 ∷ []) t r))
      ∙ ap (λ (b : Facts). listed b (take f.0 (places_from d (path ++ 2 ∷ []) t r))) (noted_places d (path ++ 1 ∷ []) s q a)))

no_further : {S : Type 0} (d : Descent S) (path : List ℕ) (s : S) (p : Proc) (a : Facts) (k : ℕ) (x : Place S) → slice_get (places_from d path s p) k ≡ Some x
    → x.path ≡ path ++ [] → clash_head a p ≡ clash_head (listed a (take k (places_from d path s p))) x.body
no_further d path s nil a zero x h w = itself path s nil a x h
no_further d path s nil a (suc k) x h w = cc
no_further d path s (parallel p q) a zero x h w = itself path s (parallel p q) a x h
no_further d path s (parallel p q) a (suc k) x h w =
    elim (split_got (places_from d (path ++ 1 ∷ []) (d s (parallel p q) 1) p) (places_from d (path ++ 2 ∷ []) (d s (parallel p q) 2) q) k x h) as (λ _. clash_head a (parallel p q) ≡ clash_head (listed a (take (suc k) (places_from d path s (parallel p q)))) x.body) [
      | inl f ↦ absurd (ends path 1 x (below_from d (path ++ 1 ∷ []) (d s (parallel p q) 1) p k x f.0) w)
      | inr f ↦ absurd (ends path 2 x (below_from d (path ++ 2 ∷ []) (d s (parallel p q) 2) q f.0 x f.1) w)
    ]
no_further d path s (replicated p) a zero x h w = itself path s (replicated p) a x h
no_further d path s (replicated p) a (suc k) x h w = absurd (ends path 1 x (below_from d (path ++ 1 ∷ []) (d s (replicated p) 1) p k x h) w)
no_further d path s (act y p) a zero x h w = itself path s (act y p) a x h
no_further d path s (act y p) a (suc k) x h w = absurd (ends path 1 x (below_from d (path ++ 1 ∷ []) (d s (act y p) 1) p k x h) w)
no_further d path s (test t u p q) a zero x h w = itself path s (test t u p q) a x h
no_further d path s (test t u p q) a (suc k) x h w =
    elim (split_got (places_from d (path ++ 1 ∷ []) (d s (test t u p q) 1) p) (places_from d (path ++ 2 ∷ []) (d s (test t u p q) 2) q) k x h) as (λ _. clash_head a (test t u p q) ≡ clash_head (listed a (take (suc k) (places_from d path s (test t u p q)))) x.body) [
      | inl f ↦ absurd (ends path 1 x (below_from d (path ++ 1 ∷ []) (d s (test t u p q) 1) p k x f.0) w)
      | inr f ↦ absurd (ends path 2 x (below_from d (path ++ 2 ∷ []) (d s (test t u p q) 2) q f.0 x f.1) w)
    ]
no_further d path s (lookup t y p q) a zero x h w = itself path s (lookup t y p q) a x h
no_further d path s (lookup t y p q) a (suc k) x h w =
    elim (split_got (places_from d (path ++ 1 ∷ []) (d s (lookup t y p q) 1) p) (places_from d (path ++ 2 ∷ []) (d s (lookup t y p q) 2) q) k x h) as (λ _. clash_head a (lookup t y p q) ≡ clash_head (listed a (take (suc k) (places_from d path s (lookup t y p q)))) x.body) [
      | inl f ↦ absurd (ends path 1 x (below_from d (path ++ 1 ∷ []) (d s (lookup t y p q) 1) p k x f.0) w)
      | inr f ↦ absurd (ends path 2 x (below_from d (path ++ 2 ∷ []) (d s (lookup t y p q) 2) q f.0 x f.1) w)
    ]

further : {S : Type 0} (d : Descent S) (e : ℕ) (v : List ℕ) → Reaches d v → Reaches d (e ∷ v)
further d e v ih path s p a zero x h w = absurd (starts path s p e v x (first_place p h) w) where
  first_place : (p : Proc) → slice_get (places_from d path s p) 0 ≡ Some x → Some (place path s p) ≡ Some x
  first_place nil k = k
  first_place (parallel p q) k = k
  first_place (replicated p) k = k
  first_place (act y p) k = k
  first_place (test t u p q) k = k
  first_place (lookup t y p q) k = k
further d e v ih path s nil a (suc k) x h w = cc
further d e v ih path s (parallel p q) a (suc k) x h w = on_two d v ih path (d s (parallel p q) 1) (d s (parallel p q) 2) p q e (head_noted a (parallel p q)) k x h w
further d e v ih path s (replicated p) a (suc k) x h w = on_one d v ih path (d s (replicated p) 1) p e (head_noted a (replicated p)) (head_noted a (replicated p)) k x h w
further d e v ih path s (act y p) a (suc k) x h w = on_one d v ih path (d s (act y p) 1) p e (head_noted a (act y p)) (head_noted a (act y p)) k x h w
further d e v ih path s (test t u p q) a (suc k) x h w = on_two d v ih path (d s (test t u p q) 1) (d s (test t u p q) 2) p q e (head_noted a (test t u p q)) k x h w
further d e v ih path s (lookup t y p q) a (suc k) x h w = on_two d v ih path (d s (lookup t y p q) 1) (d s (lookup t y p q) 2) p q e (head_noted a (lookup t y p q)) k x h w

pub reaches : {S : Type 0} (d : Descent S) (v : List ℕ) → Reaches d v
reaches d [] path s p a k x h w = no_further d path s p a k x h w
reaches d (e ∷ v) path s p a k x h w = further d e v (reaches d v) path s p a k x h w
