-- What tests over lists and numbers decide.
use Rattle.std.proofs.Common.{◌≡◌, ℕ, List, [], ◌∷◌, Bool, true, false, not, ◌&&◌, ◌||◌, refl, sym, subst, ◌⊎◌, inl, inr, ◌↔◌}
use Rattle.std.specs.Bool.{Decides}
use Rattle.std.specs.Str.{bytes_eq}
use Rattle.std.proofs.lemmas.Slice.Eq.{bytes_eq-Decides}
use Rattle.std.specs.List.{list_any, list_all}
use Rattle.std.proofs.lemmas.Bool.{or_cases}
use Rattle.std.proofs.lemmas.Bool.Decides.{Decides-or}
use Rattle.sap_formula.specs.Truth.{AnyIn, EachIn}
use Rattle.sap_terms.proofs.PlainLaws.Tests.{and_left, and_right, and_true}
use Rattle.sap_terms.specs.Signature.{same_bool}

-- names are the same both ways round
pub names_turn : (m n : List ℕ) → bytes_eq m n ≡ bytes_eq n m
names_turn m n = at (bytes_eq m n) refl (bytes_eq n m) refl where
  at : (a : Bool) → bytes_eq m n ≡ a → (b : Bool) → bytes_eq n m ≡ b → a ≡ b
  at true d true e = refl
  at false d false e = refl
  at true d false e = let x = (bytes_eq-Decides n m).1 (sym ((bytes_eq-Decides m n).0 d)) in absurd (cc)
  at false d true e = let x = (bytes_eq-Decides m n).1 (sym ((bytes_eq-Decides n m).0 e)) in absurd (cc)

-- the connectives
pub decides_implies : (a b : Bool) (A B : Type 0) → Decides a A → Decides b B → Decides (not a || b) (A → B)
decides_implies true b A B d e = (λ h x. e.0 h, λ f. e.1 (f (d.0 refl)))
decides_implies false b A B d e = (λ h x. let k = d.1 x in absurd (cc), λ f. refl)

pub decides_iff : (a b : Bool) (A B : Type 0) → Decides a A → Decides b B → Decides (same_bool a b) (A ↔ B)
decides_iff true b A B d e = (λ h. (λ x. e.0 h, λ x. d.0 refl), λ f. e.1 (f.0 (d.0 refl)))
decides_iff false true A B d e = (λ h. absurd (cc), λ f. let k = d.1 (f.1 (e.0 refl)) in absurd (cc))
decides_iff false false A B d e = (λ h. (λ x. let k = d.1 x in absurd (cc), λ x. let k = e.1 x in absurd (cc)), λ f. refl)

-- lists
abbrev pub IsIn : {X : Type 0} → List X → X → Type 0
IsIn xs x = AnyIn (λ y. y ≡ x) xs

pub decides_all : {X : Type 0} (p : X → Bool) (xs : List X) → Decides (list_all p xs) ((x : X) → IsIn xs x → p x ≡ true)
decides_all p [] = (λ h x i. absurd i, λ h. refl)
decides_all p (y ∷ ys) =
    let d = decides_all p ys in (
      λ h x i. elim i [ inl e ↦ subst (λ z. p z ≡ true) e (and_left (p y) (list_all p ys) h) | inr j ↦ d.0 (and_right (p y) (list_all p ys) h) x j ],
      λ h. and_true (p y) (list_all p ys) (h y (inl refl)) (d.1 (λ x i. h x (inr i))),
    )

or_left : (a b : Bool) → a ≡ true → (a || b) ≡ true
or_left true b h = refl
or_left false b h = cc

or_right : (a b : Bool) → b ≡ true → (a || b) ≡ true
or_right true b h = refl
or_right false b h = h

pub decides_any : {X : Type 0} (p : X → Bool) (xs : List X) → Decides (list_any p xs) ((x : X) × IsIn xs x × (p x ≡ true))
decides_any {X} p [] = (λ h. absurd (cc), λ h. absurd h.1)
decides_any {X} p (y ∷ ys) =
    let d = decides_any p ys in (
      λ h. elim (or_cases (p y) (list_any p ys) h) [ inl e ↦ (y, inl refl, e) | inr r ↦ let q = d.0 r in (q.0, inr q.1, q.2) ],
      λ h. from h.0 h.1 h.2 d.1,
    ) where
      from : (x : X) → IsIn (y ∷ ys) x → p x ≡ true → (((x : X) × IsIn ys x × (p x ≡ true)) → list_any p ys ≡ true) → (p y || list_any p ys) ≡ true
      from x (inl e) h d = or_left (p y) (list_any p ys) (subst (λ z. p z ≡ true) (sym e) h)
      from x (inr i) h d = or_right (p y) (list_any p ys) (d (x, i, h))

-- an any of facts that are each decided
pub decides_each_any : {X : Type 0} (p : X → Bool) (P : X → Type 0) (xs : List X) → EachIn (λ x. Decides (p x) (P x)) xs → Decides (list_any p xs) (AnyIn P xs)
decides_each_any p P [] e = (λ h. absurd (cc), λ h. absurd h)
decides_each_any p P (x ∷ xs) e = Decides-or (p x) (list_any p xs) e.0 (decides_each_any p P xs e.1)
