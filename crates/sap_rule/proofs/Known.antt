-- Known names, as a list that may repeat them and as one that doesn't.
use Rattle.std.proofs.Common.{◌≡◌, ℕ, List, [], ◌∷◌, ◌++◌, Bool, true, false, ◌||◌, refl, sym, ap, subst, ◌∙◌}
use Rattle.std.specs.Prelude.{if◌then◌else◌}
use Rattle.std.specs.List.{list_any}
use Rattle.std.specs.Str.{bytes_eq}
use Rattle.std.proofs.lemmas.Slice.Eq.{bytes_eq-Decides}
use Rattle.sap_terms.specs.declared.var.Var.{Var}
use Rattle.sap_terms.specs.Variables.{is_known, new_vars}

-- names are the same both ways round
same_both : (m n : List ℕ) → bytes_eq m n ≡ bytes_eq n m
same_both m n = at (bytes_eq m n) (bytes_eq n m) refl refl where
  at : (a b : Bool) → bytes_eq m n ≡ a → bytes_eq n m ≡ b → a ≡ b
  at true true e f = refl
  at false false e f = refl
  at true false e f = sym ((bytes_eq-Decides n m).1 (sym ((bytes_eq-Decides m n).0 e))) ∙ f
  at false true e f = sym e ∙ (bytes_eq-Decides m n).1 (sym ((bytes_eq-Decides n m).0 f))

-- the test of a list of names
pub any_known : (ks : List (List ℕ)) (n : List ℕ) → list_any (bytes_eq n) ks ≡ is_known ks n
any_known [] n = refl
any_known (k ∷ ks) n = λ i. same_both n k i || any_known ks n i

pub known_append : (ks ms : List (List ℕ)) (n : List ℕ) → is_known (ks ++ ms) n ≡ (is_known ks n || is_known ms n)
known_append [] ms n = refl
known_append (k ∷ ks) ms n =
    elim (bytes_eq k n) as (λ t. (t || is_known (ks ++ ms) n) ≡ ((t || is_known ks n) || is_known ms n)) [ true ↦ refl | false ↦ known_append ks ms n ]

-- what knows the same names lets the same variables be new
pub same_new : (ks ms : List (List ℕ)) (vs : List Var) → ((n : List ℕ) → is_known ks n ≡ is_known ms n) → new_vars ks vs ≡ new_vars ms vs
same_new ks ms [] h = refl
same_new ks ms (v ∷ vs) h =
    let more : (n : List ℕ) → is_known (ks ++ v.name ∷ []) n ≡ is_known (ms ++ v.name ∷ []) n = λ n. known_append ks (v.name ∷ []) n ∙ ap (λ t. t || is_known (v.name ∷ []) n) (h n) ∙ sym (known_append ms (v.name ∷ []) n) in
    λ i. if h v.name i then same_new ks ms vs h i else v ∷ same_new (ks ++ v.name ∷ []) (ms ++ v.name ∷ []) vs more i

or_none : (t : Bool) → t ≡ (t || false)
or_none true = refl
or_none false = refl

-- a name that was noted is known, and what else is known stays the same
pub known_noted : (old new : List (List ℕ)) (name : List ℕ) (front : List (List ℕ)) → ((n : List ℕ) → is_known old n ≡ is_known front n) → new ≡ (if is_known old name then old else old ++ name ∷ []) → (n : List ℕ) → is_known new n ≡ is_known (front ++ name ∷ []) n
known_noted old new name front h e n =
    ap (λ ks. is_known ks n) e ∙ at (is_known old name) refl ∙ ap (λ t. t || is_known (name ∷ []) n) (h n) ∙ sym (known_append front (name ∷ []) n)
  where
    same : is_known old name ≡ true → (t : Bool) → bytes_eq name n ≡ t → is_known old n ≡ (is_known old n || (t || false))
    same k true f = subst (λ m. is_known old m ≡ (is_known old m || true)) ((bytes_eq-Decides name n).0 f) (rw k refl)
    same k false f = or_none (is_known old n)

    at : (t : Bool) → is_known old name ≡ t → is_known (if t then old else old ++ name ∷ []) n ≡ (is_known old n || is_known (name ∷ []) n)
    at true k = same k (bytes_eq name n) refl
    at false k = known_append old (name ∷ []) n
