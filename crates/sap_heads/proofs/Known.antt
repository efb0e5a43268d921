-- Known names, as a list and as a set.
use Rattle.std.proofs.Common.{◌≡◌, ℕ, List, [], ◌∷◌, ◌++◌, Bool, true, false, ◌||◌, drop, ◌+◌, append_assoc, refl, sym, ap, subst, ◌∙◌}
use Rattle.std.specs.List.{list_any}
use Rattle.std.specs.Prelude.{if◌then◌else◌, slice_get, Some}
use Rattle.std.specs.Str.{bytes_eq}
use Rattle.std.proofs.lemmas.Cmp.{nat_list_eq_equiv}
use Rattle.std.proofs.lemmas.Slice.Eq.{bytes_eq-Decides}
use Rattle.sap_terms.proofs.PlainLaws.Lists.{drop_got}
use Rattle.sap_terms.specs.declared.var.Var.{Var}
use Rattle.sap_terms.specs.Variables.{is_known, new_vars}
use Rattle.sap_heads.specs.code.Known.{KnowAlike, IsSifted}

-- the test of a set
pub any_known : (ks : List (List ℕ)) (n : List ℕ) → list_any (bytes_eq n) ks ≡ is_known ks n
any_known [] n = refl
any_known (k ∷ ks) n = λ i. nat_list_eq_equiv.symm n k i || any_known ks n i

pub known_append : (ks ms : List (List ℕ)) (n : List ℕ) → is_known (ks ++ ms) n ≡ (is_known ks n || is_known ms n)
known_append [] ms n = refl
known_append (k ∷ ks) ms n =
    elim (bytes_eq k n) as (λ t. (t || is_known (ks ++ ms) n) ≡ ((t || is_known ks n) || is_known ms n)) [ true ↦ refl | false ↦ known_append ks ms n ]

-- what is known of either end
pub alike_ends : (gs hs ks ms : List (List ℕ)) → KnowAlike gs hs → KnowAlike ks ms → KnowAlike (gs ++ ks) (hs ++ ms)
alike_ends gs hs ks ms a k n = known_append gs ks n ∙ (λ i. a n i || k n i) ∙ sym (known_append hs ms n)

-- what knows the same names lets the same variables be new
pub same_new : (ks ms : List (List ℕ)) (vs : List Var) → KnowAlike ks ms → new_vars ks vs ≡ new_vars ms vs
same_new ks ms [] h = refl
same_new ks ms (v ∷ vs) h =
    λ i. if h v.name i then same_new ks ms vs h i else v ∷ same_new (ks ++ v.name ∷ []) (ms ++ v.name ∷ []) vs (alike_ends ks ms (v.name ∷ []) (v.name ∷ []) h (λ n. refl)) i

or_none : (t : Bool) → t ≡ (t || false)
or_none true = refl
or_none false = refl

-- a known name is known once more
pub known_again : (ks : List (List ℕ)) (name : List ℕ) → is_known ks name ≡ true → KnowAlike ks (ks ++ name ∷ [])
known_again ks name k n = same (bytes_eq name n) refl ∙ sym (known_append ks (name ∷ []) n) where
  same : (t : Bool) → bytes_eq name n ≡ t → is_known ks n ≡ (is_known ks n || (t || false))
  same true f = subst (λ m. is_known ks m ≡ (is_known ks m || true)) ((bytes_eq-Decides name n).0 f) (rw k refl)
  same false f = or_none (is_known ks n)

turn : (a b : Bool) → (a || b) ≡ (b || (a || false))
turn true true = refl
turn true false = refl
turn false true = refl
turn false false = refl

-- a name that is put into a set is known then, and what else is known stays the same
pub known_put : (ks later : List (List ℕ)) (name : List ℕ) → ((n : List ℕ) → list_any (bytes_eq n) later ≡ (bytes_eq name n || list_any (bytes_eq n) ks)) → KnowAlike later (ks ++ name ∷ [])
known_put ks later name more n =
    sym (any_known later n) ∙ more n ∙ (λ i. bytes_eq name n || any_known ks n i) ∙ turn (bytes_eq name n) (is_known ks n) ∙ sym (known_append ks (name ∷ []) n)

-- what is sifted where the later names are the same with the variable's
pub sifted : (ks later : List (List ℕ)) (v : Var) → KnowAlike later (ks ++ v.name ∷ []) → IsSifted ks later v
sifted ks later v h vs = by (is_known ks v.name) refl where
  by : (t : Bool) → is_known ks v.name ≡ t → (if t then new_vars ks vs else v ∷ new_vars (ks ++ v.name ∷ []) vs) ≡ (if t then [] else v ∷ []) ++ new_vars later vs
  by true k = same_new ks later vs (λ n. known_again ks v.name k n ∙ sym (h n))
  by false k = ap (λ ws. v ∷ ws) (sym (same_new later (ks ++ v.name ∷ []) vs h))

-- one variable more is sifted
pub sift_on : (ks later : List (List ℕ)) (xs out whole : List Var) (k : ℕ) (v : Var) → slice_get xs k ≡ Some v → IsSifted ks later v → out ++ new_vars ks (drop k xs) ≡ whole → (out ++ (if is_known ks v.name then [] else v ∷ [])) ++ new_vars later (drop (k + 1) xs) ≡ whole
sift_on ks later xs out whole k v got s h =
    append_assoc out (if is_known ks v.name then [] else v ∷ []) (new_vars later (drop (k + 1) xs)) ∙ ap (λ ws. out ++ ws) (sym (s (drop (k + 1) xs))) ∙ ap (λ ys. out ++ new_vars ks ys) (sym (drop_got xs k v got)) ∙ h
