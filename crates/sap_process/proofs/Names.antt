-- Names that are known, and variables that are new.
use Rattle.std.proofs.Common.{◌≡◌, ℕ, List, [], ◌∷◌, ◌++◌, refl, sym, ◌∙◌, Bool, true, false, ◌||◌, cond}
use Rattle.std.specs.Str.{bytes_eq}
use Rattle.std.proofs.lemmas.Slice.Eq.{bytes_eq-Decides}
use Rattle.sap_terms.specs.Variables.{is_known, new_vars}
use Rattle.sap_terms.specs.declared.var.Var.{Var}
use Rattle.sap_process.specs.Sites.{var_names}

abbrev pub Name : Type 0
Name = List ℕ

-- an item of a list, by its place
pub data Member {A : Type 0} (x : A) : List A → Type 0 where
  here : {xs : List A} → Member x (x ∷ xs)
  later : {y : A} {xs : List A} → Member x xs → Member x (y ∷ xs)

pub same_name_true : (a b : Name) → bytes_eq a b ≡ true → a ≡ b
same_name_true a b e = (bytes_eq-Decides a b).0 e

pub same_name_self : (a : Name) → bytes_eq a a ≡ true
same_name_self a = (bytes_eq-Decides a a).1 refl

pub known-append : (v w : List Var) (x : Var) → is_known (var_names (v ++ w)) x.name ≡ (is_known (var_names v) x.name || is_known (var_names w) x.name)
known-append [] w x = refl
known-append (y ∷ v) w x = go (bytes_eq y.name x.name) (known-append v w x)
  where
    go : (b : Bool) → is_known (var_names (v ++ w)) x.name ≡ (is_known (var_names v) x.name || is_known (var_names w) x.name) → (b || is_known (var_names (v ++ w)) x.name) ≡ ((b || is_known (var_names v) x.name) || is_known (var_names w) x.name)
    go true h = refl
    go false h = h

pub names-append : (known ns : List (List ℕ)) (n : List ℕ) → is_known (known ++ ns) n ≡ (is_known known n || is_known ns n)
names-append [] ns n = refl
names-append (m ∷ known) ns n = go (bytes_eq m n) (names-append known ns n)
  where
    go : (b : Bool) → is_known (known ++ ns) n ≡ (is_known known n || is_known ns n) → (b || is_known (known ++ ns) n) ≡ ((b || is_known known n) || is_known ns n)
    go true h = refl
    go false h = h

or_left : (b c : Bool) → (b || c) ≡ false → b ≡ false
or_left true c e = e
or_left false c e = refl

first_free : (known : List (List ℕ)) (v : Var) (ws : List Var) (x : Var) → is_known known v.name ≡ false → Member x (v ∷ ws) → (Member x ws → is_known (known ++ v.name ∷ []) x.name ≡ false) → is_known known x.name ≡ false
first_free known v ws x e Member.here rest = e
first_free known v ws x e (Member.later k) rest = or_left (is_known known x.name) (is_known (v.name ∷ []) x.name) (sym (names-append known (v.name ∷ []) x.name) ∙ rest k)

-- what is new is free
pub new_free : (known : List (List ℕ)) (ws : List Var) (x : Var) → Member x (new_vars known ws) → is_known known x.name ≡ false
new_free known [] x m = elim m [ ]
new_free known (v ∷ vs) x m = by (is_known known v.name) refl m (λ k. new_free known vs x k) (λ k. new_free (known ++ v.name ∷ []) vs x k)
  where
    by : (b : Bool) → is_known known v.name ≡ b → Member x (cond b (new_vars known vs) (v ∷ new_vars (known ++ v.name ∷ []) vs)) → (Member x (new_vars known vs) → is_known known x.name ≡ false) → (Member x (new_vars (known ++ v.name ∷ []) vs) → is_known (known ++ v.name ∷ []) x.name ≡ false) → is_known known x.name ≡ false
    by true e k one two = one k
    by false e k one two = first_free known v (new_vars (known ++ v.name ∷ []) vs) x e k two
