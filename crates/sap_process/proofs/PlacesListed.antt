-- The list of places has each place once, at its path, in preorder, whatever is handed down.
use Rattle.std.proofs.Common.{◌≡◌, ℕ, zero, suc, ◌<◌, inl, inr, List, [], ◌∷◌, ◌++◌, Option, Some, None, arith, refl, sym, ap, subst, ◌∙◌}
use Rattle.std.specs.Prelude.{Contains, slice_get}
use Rattle.std.specs.Option.{option_map}
use Rattle.std.proofs.lemmas.List.{append_assoc, append-nil}
use Rattle.std.proofs.lemmas.List.Elements.{Contains-append_cases, Contains-append_left, Contains-append_right}
use Rattle.sap_process.proofs.Members.{member-head, member-tail, member-none, member-cases}
use Rattle.sap_process.specs.Places.{Descent, Place, place, places_from, places, child, place_below, place_from, place_at, IsBefore}
use Rattle.sap_process.specs.Proc.{Proc, nil, parallel, replicated, act, test, lookup}

-- a place lies below another, by these digits
pub record Below {S : Type 0} (d : Descent S) (top x : Place S) : Type 0 where
  pub rest : List ℕ
  pub path_is : x.path ≡ top.path ++ rest
  pub there : place_from d (Some top) rest ≡ Some x

below_here : {S : Type 0} (d : Descent S) (top x : Place S) → top ≡ x → Below d top x
below_here d top x e = subst (Below d top) e (record { rest = []; path_is = sym (append-nil top.path); there = refl })

below_child : {S : Type 0} (d : Descent S) (top kid x : Place S) (e : ℕ) → place_below d top e ≡ Some kid → kid.path ≡ top.path ++ e ∷ [] → Below d kid x → Below d top x
below_child d top kid x e is path b = record {
  rest = e ∷ b.rest;
  path_is = b.path_is ∙ ap (λ w. w ++ b.rest) path ∙ append_assoc top.path (e ∷ []) b.rest;
  there = ap (λ o. place_from d o b.rest) is ∙ b.there;
}

one_case : {X : Type 0} (P : X → Type 0) (x : X) (xs : List X) (y : X) → Contains (x ∷ xs) y → (x ≡ y → P y) → (Contains xs y → P y) → P y
one_case P x xs y m one rest = elim (member-cases x xs y m) [ inl e ↦ one e | inr k ↦ rest k ]

two_case : {X : Type 0} (P : X → Type 0) (x : X) (xs ys : List X) (y : X) → Contains (x ∷ (xs ++ ys)) y → (x ≡ y → P y) → (Contains xs y → P y) → (Contains ys y → P y) → P y
two_case P x xs ys y m one two three = one_case P x (xs ++ ys) y m one (λ k. elim (Contains-append_cases xs ys y k) [ inl a ↦ two a | inr b ↦ three b ])

-- where one process follows, and where two do
abbrev Under : {S : Type 0} → Descent S → Place S → List (Place S) → Type 0
Under d top xs = (x : Place _) → Contains xs x → Below d top x

under_one : {S : Type 0} (d : Descent S) (top kid : Place S) (xs : List (Place S)) → place_below d top 1 ≡ Some kid → kid.path ≡ top.path ++ 1 ∷ [] → Under d kid xs → Under d top (top ∷ xs)
under_one d top kid xs is path h x m = one_case (Below d top) top xs x m (below_here d top x) (λ a. below_child d top kid x 1 is path (h x a))

under_two : {S : Type 0} (d : Descent S) (top one two : Place S) (xs ys : List (Place S)) → place_below d top 1 ≡ Some one → one.path ≡ top.path ++ 1 ∷ []
    → place_below d top 2 ≡ Some two → two.path ≡ top.path ++ 2 ∷ [] → Under d one xs → Under d two ys → Under d top (top ∷ (xs ++ ys))
under_two d top one two xs ys a path b other h g x m =
    two_case (Below d top) top xs ys x m (below_here d top x) (λ k. below_child d top one x 1 a path (h x k)) (λ k. below_child d top two x 2 b other (g x k))

pub each_below : {S : Type 0} (d : Descent S) (p : Proc) (path : List ℕ) (s : S) → Under d (place path s p) (places_from d path s p)
each_below d nil path s = λ x m. one_case (Below d (place path s nil)) (place path s nil) [] x m (below_here d (place path s nil) x) (λ n. absurd (member-none x n))
each_below d (parallel p q) path s =
    under_two d (place path s (parallel p q)) (place (path ++ 1 ∷ []) (d s (parallel p q) 1) p) (place (path ++ 2 ∷ []) (d s (parallel p q) 2) q) _ _ refl refl refl refl
    (each_below d p (path ++ 1 ∷ []) (d s (parallel p q) 1)) (each_below d q (path ++ 2 ∷ []) (d s (parallel p q) 2))
each_below d (replicated p) path s =
    under_one d (place path s (replicated p)) (place (path ++ 1 ∷ []) (d s (replicated p) 1) p) _ refl refl (each_below d p (path ++ 1 ∷ []) (d s (replicated p) 1))
each_below d (act a p) path s =
    under_one d (place path s (act a p)) (place (path ++ 1 ∷ []) (d s (act a p) 1) p) _ refl refl (each_below d p (path ++ 1 ∷ []) (d s (act a p) 1))
each_below d (test t u p q) path s =
    under_two d (place path s (test t u p q)) (place (path ++ 1 ∷ []) (d s (test t u p q) 1) p) (place (path ++ 2 ∷ []) (d s (test t u p q) 2) q) _ _ refl refl refl refl
    (each_below d p (path ++ 1 ∷ []) (d s (test t u p q) 1)) (each_below d q (path ++ 2 ∷ []) (d s (test t u p q) 2))
each_below d (lookup t x p q) path s =
    under_two d (place path s (lookup t x p q)) (place (path ++ 1 ∷ []) (d s (lookup t x p q) 1) p) (place (path ++ 2 ∷ []) (d s (lookup t x p q) 2) q) _ _ refl refl refl refl
    (each_below d p (path ++ 1 ∷ []) (d s (lookup t x p q) 1)) (each_below d q (path ++ 2 ∷ []) (d s (lookup t x p q) 2))

-- each place of the list stands at its path
pub at_path : {S : Type 0} (d : Descent S) (p : Proc) (s : S) (x : Place S) → Contains (places d s p) x → place_at d s p x.path ≡ Some x
at_path d p s x m = let b = each_below d p [] s x m in ap (place_at d s p) b.path_is ∙ b.there

-- and each place is in the list
some_same : {X : Type 0} (a b : X) → Some a ≡ Some b → a ≡ b
some_same a b e = cc

abbrev Listed : {S : Type 0} → Descent S → Place S → List (Place S) → Type 0
Listed d top xs = (rest : List ℕ) (b : Place _) → place_from d (Some top) rest ≡ Some b → Contains xs b

listed_here : {S : Type 0} (d : Descent S) (top : Place S) (xs : List (Place S)) (b : Place S) → Some top ≡ Some b → Contains (top ∷ xs) b
listed_here d top xs b e = subst (Contains (top ∷ xs)) (some_same top b e) (member-head top xs)

listed_none : {S : Type 0} (d : Descent S) (top : Place S) → ((e : ℕ) → place_below d top e ≡ None) → Listed d top (top ∷ [])
listed_none d top h [] b e = listed_here d top [] b e
listed_none d top h (n ∷ rest) b e = let no = sym e ∙ ap (λ o. place_from d o rest) (h n) in absurd (cc)

listed_one : {S : Type 0} (d : Descent S) (top kid : Place S) (xs : List (Place S)) → place_below d top 0 ≡ None → place_below d top 1 ≡ Some kid
    → ((n : ℕ) → place_below d top (suc (suc n)) ≡ None) → Listed d kid xs → Listed d top (top ∷ xs)
listed_one d top kid xs zeroth is other h [] b e = listed_here d top xs b e
listed_one d top kid xs zeroth is other h (zero ∷ rest) b e = let no = sym e ∙ ap (λ o. place_from d o rest) zeroth in absurd (cc)
listed_one d top kid xs zeroth is other h (suc zero ∷ rest) b e = member-tail top xs b (h rest b (sym (ap (λ o. place_from d o rest) is) ∙ e))
listed_one d top kid xs zeroth is other h (suc (suc n) ∷ rest) b e = let no = sym e ∙ ap (λ o. place_from d o rest) (other n) in absurd (cc)

listed_two : {S : Type 0} (d : Descent S) (top one two : Place S) (xs ys : List (Place S)) → place_below d top 0 ≡ None → place_below d top 1 ≡ Some one → place_below d top 2 ≡ Some two
    → ((n : ℕ) → place_below d top (suc (suc (suc n))) ≡ None) → Listed d one xs → Listed d two ys → Listed d top (top ∷ (xs ++ ys))
listed_two d top one two xs ys zeroth a c other h g [] b e = listed_here d top (xs ++ ys) b e
listed_two d top one two xs ys zeroth a c other h g (zero ∷ rest) b e = let no = sym e ∙ ap (λ o. place_from d o rest) zeroth in absurd (cc)
listed_two d top one two xs ys zeroth a c other h g (suc zero ∷ rest) b e =
    member-tail top (xs ++ ys) b (Contains-append_left xs ys b (h rest b (sym (ap (λ o. place_from d o rest) a) ∙ e)))
listed_two d top one two xs ys zeroth a c other h g (suc (suc zero) ∷ rest) b e =
    member-tail top (xs ++ ys) b (Contains-append_right xs ys b (g rest b (sym (ap (λ o. place_from d o rest) c) ∙ e)))
listed_two d top one two xs ys zeroth a c other h g (suc (suc (suc n)) ∷ rest) b e = let no = sym e ∙ ap (λ o. place_from d o rest) (other n) in absurd (cc)

none_there : {S : Type 0} (d : Descent S) (path : List ℕ) (s : S) (e : ℕ) → place_below d (place path s nil) e ≡ None
none_there d path s zero = refl
none_there d path s (suc zero) = refl
none_there d path s (suc (suc zero)) = refl
none_there d path s (suc (suc (suc n))) = refl

one_alone : {S : Type 0} (d : Descent S) (path : List ℕ) (s : S) (p : Proc) (n : ℕ) → place_below d (place path s (replicated p)) (suc (suc n)) ≡ None
one_alone d path s p zero = refl
one_alone d path s p (suc n) = refl

pub all_listed : {S : Type 0} (d : Descent S) (p : Proc) (path : List ℕ) (s : S) → Listed d (place path s p) (places_from d path s p)
all_listed d nil path s = listed_none d (place path s nil) (none_there d path s)
all_listed d (parallel p q) path s =
    listed_two d (place path s (parallel p q)) (place (path ++ 1 ∷ []) (d s (parallel p q) 1) p) (place (path ++ 2 ∷ []) (d s (parallel p q) 2) q) _ _ refl refl refl (λ n. refl)
    (all_listed d p (path ++ 1 ∷ []) (d s (parallel p q) 1)) (all_listed d q (path ++ 2 ∷ []) (d s (parallel p q) 2))
all_listed d (replicated p) path s =
    listed_one d (place path s (replicated p)) (place (path ++ 1 ∷ []) (d s (replicated p) 1) p) _ refl refl (one_alone d path s p) (all_listed d p (path ++ 1 ∷ []) (d s (replicated p) 1))
all_listed d (act a p) path s = listed_one d (place path s (act a p)) (place (path ++ 1 ∷ []) (d s (act a p) 1) p) _ refl refl other (all_listed d p (path ++ 1 ∷ []) (d s (act a p) 1))
  where
    other : (n : ℕ) → place_below d (place path s (act a p)) (suc (suc n)) ≡ None
    other zero = refl
    other (suc n) = refl
all_listed d (test t u p q) path s =
    listed_two d (place path s (test t u p q)) (place (path ++ 1 ∷ []) (d s (test t u p q) 1) p) (place (path ++ 2 ∷ []) (d s (test t u p q) 2) q) _ _ refl refl refl (λ n. refl)
    (all_listed d p (path ++ 1 ∷ []) (d s (test t u p q) 1)) (all_listed d q (path ++ 2 ∷ []) (d s (test t u p q) 2))
all_listed d (lookup t x p q) path s =
    listed_two d (place path s (lookup t x p q)) (place (path ++ 1 ∷ []) (d s (lookup t x p q) 1) p) (place (path ++ 2 ∷ []) (d s (lookup t x p q) 2) q) _ _ refl refl refl (λ n. refl)
    (all_listed d p (path ++ 1 ∷ []) (d s (lookup t x p q) 1)) (all_listed d q (path ++ 2 ∷ []) (d s (lookup t x p q) 2))

pub is_listed : {S : Type 0} (d : Descent S) (p : Proc) (s : S) (path : List ℕ) (b : Place S) → place_at d s p path ≡ Some b → Contains (places d s p) b
is_listed d p s path b e = all_listed d p [] s path b e

-- the place that the digits lead to has them as its path
below_path : {S : Type 0} (d : Descent S) (path : List ℕ) (top b : Place S) → place_from d (Some top) path ≡ Some b → b.path ≡ top.path ++ path
below_path d [] top b e = ap (λ (z : Place _). z.path) (sym (some_same top b e)) ∙ sym (append-nil top.path)
below_path {S} d (n ∷ path) top b e = go (child top.body n) e (λ q f. below_path d path (place (top.path ++ n ∷ []) (d top.above top.body n) q) b f)
  where
    go : (o : Option Proc) → place_from d (option_map (place (top.path ++ n ∷ []) (d top.above top.body n)) o) path ≡ Some b
        → ((q : Proc) → place_from d (Some (place (top.path ++ n ∷ []) (d top.above top.body n) q)) path ≡ Some b → b.path ≡ (top.path ++ n ∷ []) ++ path) → b.path ≡ top.path ++ n ∷ path
    go None f later = cc
    go (Some q) f later = later q f ∙ append_assoc top.path (n ∷ []) path

pub own_path : {S : Type 0} (d : Descent S) (p : Proc) (s : S) (path : List ℕ) (b : Place S) → place_at d s p path ≡ Some b → b.path ≡ path
own_path d p s path b e = below_path d path (place [] s p) b e

-- order

-- each item stands so to those after it
abbrev Pairwise : {S : Type 0} → List (Place S) → Type 0
Pairwise [] = Unit {0}
Pairwise (x ∷ xs) = ((y : Place _) → Contains xs y → IsBefore x.path y.path) × Pairwise xs

pairs_append : {S : Type 0} (xs ys : List (Place S)) → Pairwise xs → Pairwise ys → ((x y : Place S) → Contains xs x → Contains ys y → IsBefore x.path y.path) → Pairwise (xs ++ ys)
pairs_append [] ys h g c = g
pairs_append (x ∷ xs) ys h g c = (
  λ y m. elim (Contains-append_cases xs ys y m) [ inl a ↦ h.0 y a | inr b ↦ c x y (member-head x xs) b ],
  pairs_append xs ys h.1 g (λ z y a b. c z y (member-tail x xs z a) b),
)

before_under : (path a b : List ℕ) → IsBefore a b → IsBefore (path ++ a) (path ++ b)
before_under [] a b h = h
before_under (e ∷ path) a b h = inr (refl, before_under path a b h)

-- a place stands before those below it
above : (path rest : List ℕ) (e : ℕ) → IsBefore path (path ++ e ∷ rest)
above path rest e = subst (λ z. IsBefore z (path ++ e ∷ rest)) (append-nil path) (before_under path [] (e ∷ rest) tt)

-- those below the first child before those below the second
turned : (path a b : List ℕ) → IsBefore (path ++ 1 ∷ a) (path ++ 2 ∷ b)
turned path a b = before_under path (1 ∷ a) (2 ∷ b) (inl (omega arith))

path_below : {S : Type 0} (d : Descent S) (path : List ℕ) (e : ℕ) (s : S) (p : Proc) (x : Place S) (b : Below d (place (path ++ e ∷ []) s p) x) → x.path ≡ path ++ e ∷ b.rest
path_below d path e s p x b = b.path_is ∙ append_assoc path (e ∷ []) b.rest

first_before : {S : Type 0} (d : Descent S) (path : List ℕ) (s : S) (p : Proc) (e : ℕ) (y : Place S) → Contains (places_from d (path ++ e ∷ []) s p) y → IsBefore path y.path
first_before d path s p e y m = let b = each_below d p (path ++ e ∷ []) s y m in subst (IsBefore path) (sym (path_below d path e s p y b)) (above path b.rest e)

second_after : {S : Type 0} (d : Descent S) (path : List ℕ) (s u : S) (p q : Proc) (x y : Place S) → Contains (places_from d (path ++ 1 ∷ []) s p) x → Contains (places_from d (path ++ 2 ∷ []) u q) y → IsBefore x.path y.path
second_after d path s u p q x y m l =
    let a = each_below d p (path ++ 1 ∷ []) s x m in
    let b = each_below d q (path ++ 2 ∷ []) u y l in
    subst (λ z. IsBefore z y.path) (sym (path_below d path 1 s p x a)) (subst (IsBefore (path ++ 1 ∷ a.rest)) (sym (path_below d path 2 u q y b)) (turned path a.rest b.rest))

both_before : {S : Type 0} (d : Descent S) (path : List ℕ) (t s u : S) (r p q : Proc) → Pairwise (places_from d (path ++ 1 ∷ []) s p) → Pairwise (places_from d (path ++ 2 ∷ []) u q)
    → Pairwise (place path t r ∷ (places_from d (path ++ 1 ∷ []) s p ++ places_from d (path ++ 2 ∷ []) u q))
both_before d path t s u r p q h g = (
  λ y m. elim (Contains-append_cases (places_from d (path ++ 1 ∷ []) s p) (places_from d (path ++ 2 ∷ []) u q) y m) [
    | inl a ↦ first_before d path s p 1 y a
    | inr b ↦ first_before d path u q 2 y b
  ],
  pairs_append (places_from d (path ++ 1 ∷ []) s p) (places_from d (path ++ 2 ∷ []) u q) h g (second_after d path s u p q),
)

pairs : {S : Type 0} (d : Descent S) (p : Proc) (path : List ℕ) (s : S) → Pairwise (places_from d path s p)
pairs d nil path s = (λ y m. absurd (member-none y m), tt)
pairs d (parallel p q) path s = both_before d path s (d s (parallel p q) 1) (d s (parallel p q) 2) (parallel p q) p q (pairs d p (path ++ 1 ∷ []) (d s (parallel p q) 1)) (pairs d q (path ++ 2 ∷ []) (d s (parallel p q) 2))
pairs d (replicated p) path s = (first_before d path (d s (replicated p) 1) p 1, pairs d p (path ++ 1 ∷ []) (d s (replicated p) 1))
pairs d (act a p) path s = (first_before d path (d s (act a p) 1) p 1, pairs d p (path ++ 1 ∷ []) (d s (act a p) 1))
pairs d (test t u p q) path s = both_before d path s (d s (test t u p q) 1) (d s (test t u p q) 2) (test t u p q) p q (pairs d p (path ++ 1 ∷ []) (d s (test t u p q) 1)) (pairs d q (path ++ 2 ∷ []) (d s (test t u p q) 2))
pairs d (lookup t x p q) path s = both_before d path s (d s (lookup t x p q) 1) (d s (lookup t x p q) 2) (lookup t x p q) p q (pairs d p (path ++ 1 ∷ []) (d s (lookup t x p q) 1)) (pairs d q (path ++ 2 ∷ []) (d s (lookup t x p q) 2))

got_in : {X : Type 0} (xs : List X) (j : ℕ) (t : X) → slice_get xs j ≡ Some t → Contains xs t
got_in [] j t e = absurd (cc)
got_in (x ∷ xs) zero t e = let same : x ≡ t = cc in subst (Contains (x ∷ xs)) same (member-head x xs)
got_in (x ∷ xs) (suc j) t e = member-tail x xs t (got_in xs j t e)

pairs_at : {S : Type 0} (xs : List (Place S)) (i j : ℕ) (s t : Place S) → Pairwise xs → i < j → slice_get xs i ≡ Some s → slice_get xs j ≡ Some t → IsBefore s.path t.path
pairs_at [] i j s t h less e f = cc
pairs_at (x ∷ xs) zero zero s t h less e f = absurd (omega (arith, less))
pairs_at (x ∷ xs) zero (suc j) s t h less e f = let same : x ≡ s = cc in subst (λ (z : Place _). IsBefore z.path t.path) same (h.0 t (got_in xs j t f))
pairs_at (x ∷ xs) (suc i) zero s t h less e f = absurd (omega (arith, less))
pairs_at (x ∷ xs) (suc i) (suc j) s t h less e f = pairs_at xs i j s t h.1 (let l : suc i < suc j = less in omega (arith, l)) e f

pub in_order : {S : Type 0} (d : Descent S) (p : Proc) (s : S) (i j : ℕ) (x y : Place S) → i < j → slice_get (places d s p) i ≡ Some x → slice_get (places d s p) j ≡ Some y → IsBefore x.path y.path
in_order d p s i j x y less e f = pairs_at (places d s p) i j x y (pairs d p [] s) less e f
