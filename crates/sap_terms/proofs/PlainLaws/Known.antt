-- Names that are one, and names that stand in lists of names.
use Rattle.std.proofs.Common.{◌≡◌, ◌||◌, ◌⊎◌, inl, inr, ℕ, Bool, true, false, List, ◌∷◌, refl, sym, ap, ◌∙◌, ⊎_elim}
use Rattle.std.proofs.lemmas.Bool.{cases_Bool, true≢false}
use Rattle.std.proofs.lemmas.Slice.Eq.{bytes_eq-Decides}
use Rattle.std.specs.Str.{bytes_eq}
use Rattle.sap_terms.specs.Variables.{is_known}

pub one_name : (x y : List ℕ) → bytes_eq x y ≡ true → x ≡ y
one_name x y h = (bytes_eq-Decides x y).0 h

pub own_name : (x : List ℕ) → bytes_eq x x ≡ true
own_name x = (bytes_eq-Decides x x).1 refl

-- one of both can't be
pub clash : {A : Type 0} (b : Bool) → b ≡ true → b ≡ false → A
clash b e f = absurd (true≢false (sym e ∙ f))

pub two_names : (x y : List ℕ) → bytes_eq x y ≡ false → ¬ (x ≡ y)
two_names x y h e = clash (bytes_eq x y) ((bytes_eq-Decides x y).1 e) h

pub apart : (x y : List ℕ) → ¬ (x ≡ y) → bytes_eq x y ≡ false
apart x y h = ⊎_elim (λ e. absurd (h (one_name x y e))) (λ e. e) (cases_Bool (bytes_eq x y))

or_right : (b c : Bool) → c ≡ true → (b || c) ≡ true
or_right true c h = refl
or_right false c h = h

or_none : (b c : Bool) → (b || c) ≡ false → (b ≡ false) × (c ≡ false)
or_none true c h = absurd (true≢false h)
or_none false c h = (refl, h)

or_cases : (b c : Bool) → (b || c) ≡ true → (b ≡ true) ⊎ (c ≡ true)
or_cases true c h = inl refl
or_cases false c h = inr h

pub in_head : (x : List ℕ) (ys : List (List ℕ)) → is_known (x ∷ ys) x ≡ true
in_head x ys = ap (λ b. b || is_known ys x) (own_name x)

pub in_tail : (x y : List ℕ) (ys : List (List ℕ)) → is_known ys x ≡ true → is_known (y ∷ ys) x ≡ true
in_tail x y ys h = or_right (bytes_eq y x) (is_known ys x) h

pub in_cases : (x y : List ℕ) (ys : List (List ℕ)) → is_known (y ∷ ys) x ≡ true → (y ≡ x) ⊎ (is_known ys x ≡ true)
in_cases x y ys h = ⊎_elim (λ e. inl (one_name y x e)) (λ e. inr e) (or_cases (bytes_eq y x) (is_known ys x) h)

pub not_in : (x y : List ℕ) (ys : List (List ℕ)) → is_known (y ∷ ys) x ≡ false → (bytes_eq y x ≡ false) × (is_known ys x ≡ false)
not_in x y ys h = or_none (bytes_eq y x) (is_known ys x) h

pub out_of : (x y : List ℕ) (ys : List (List ℕ)) → bytes_eq y x ≡ false → is_known ys x ≡ false → is_known (y ∷ ys) x ≡ false
out_of x y ys e h = ap (λ b. b || is_known ys x) e ∙ h
