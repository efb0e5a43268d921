-- First occurrences of names.
use Rattle.std.proofs.Common.{◌≡◌, ℕ, Bool, true, false, ◌||◌, List, [], ◌∷◌, ◌++◌, if◌then◌else◌, refl, ap, subst, ◌⊎◌, inl, inr, arith}
use Rattle.std.specs.Prelude.{Contains}
use Rattle.std.specs.Str.{bytes_eq}
use Rattle.std.proofs.lemmas.Slice.Eq.{bytes_eq-Decides}
use Rattle.sap_terms.specs.Variables.{is_known, new_vars}
use Rattle.sap_terms.specs.declared.var.Var.{Var}
use Rattle.sap_terms.proofs.PlainLaws.Items.{first_item, later_item, cons_cases}

pub known_push : (known : List (List ℕ)) (n m : List ℕ) → is_known (known ++ n ∷ []) m ≡ true → (is_known known m ≡ true) ⊎ (n ≡ m)
known_push [] n m h = at (bytes_eq n m) refl h where
  at : (b : Bool) → bytes_eq n m ≡ b → (b || false) ≡ true → (false ≡ true) ⊎ (n ≡ m)
  at true e h = inr ((bytes_eq-Decides n m).0 e)
  at false e h = cc
known_push (k ∷ ks) n m h = at (bytes_eq k m) h (λ j. known_push ks n m j) where
  at : (b : Bool) → (b || is_known (ks ++ n ∷ []) m) ≡ true → (is_known (ks ++ n ∷ []) m ≡ true → (is_known ks m ≡ true) ⊎ (n ≡ m)) → ((b || is_known ks m) ≡ true) ⊎ (n ≡ m)
  at true h rest = inl refl
  at false h rest = rest h

-- a variable of the name is among the first occurrences
abbrev pub FirstNamed : List (List ℕ) → List Var → Var → Type 0
FirstNamed known vs v = (w : Var) × Contains (new_vars known vs) w × Contains vs w × (w.name ≡ v.name)

-- each name is known, or has a first occurrence
pub first_named : (known : List (List ℕ)) (vs : List Var) (v : Var) → Contains vs v → (is_known known v.name ≡ true) ⊎ FirstNamed known vs v
first_named known [] v m = absurd (omega (arith, m.1))
first_named known (x ∷ xs) v m = at (is_known known x.name) refl (cons_cases x xs v m) (λ ks k. first_named ks xs v k)
  where
    newer : (is_known (known ++ x.name ∷ []) v.name ≡ true) ⊎ ((w : Var) × Contains (new_vars (known ++ x.name ∷ []) xs) w × Contains xs w × (w.name ≡ v.name)) → (is_known known v.name ≡ true) ⊎ ((w : Var) × Contains (x ∷ new_vars (known ++ x.name ∷ []) xs) w × Contains (x ∷ xs) w × (w.name ≡ v.name))
    newer (inl h) = elim (known_push known x.name v.name h) [
      | inl k ↦ inl k
      | inr is ↦ inr (x, first_item x (new_vars (known ++ x.name ∷ []) xs), first_item x xs, is)
    ]
    newer (inr r) = inr (r.0, later_item x (new_vars (known ++ x.name ∷ []) xs) r.0 r.1, later_item x xs r.0 r.2, r.3)

    at : (b : Bool) → is_known known x.name ≡ b → (x ≡ v) ⊎ Contains xs v → ((ks : List (List ℕ)) → Contains xs v → (is_known ks v.name ≡ true) ⊎ ((w : Var) × Contains (new_vars ks xs) w × Contains xs w × (w.name ≡ v.name))) → (is_known known v.name ≡ true) ⊎ ((w : Var) × Contains (if b then new_vars known xs else x ∷ new_vars (known ++ x.name ∷ []) xs) w × Contains (x ∷ xs) w × (w.name ≡ v.name))
    at true e (inl is) rest = inl (subst (λ (u : Var). is_known known u.name ≡ true) is e)
    at true e (inr k) rest = elim (rest known k) [ inl h ↦ inl h | inr r ↦ inr (r.0, r.1, later_item x xs r.0 r.2, r.3) ]
    at false e (inl is) rest = inr (x, first_item x (new_vars (known ++ x.name ∷ []) xs), first_item x xs, ap (λ (u : Var). u.name) is)
    at false e (inr k) rest = newer (rest (known ++ x.name ∷ []) k)
