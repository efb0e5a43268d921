-- The text of kinds, one by one.
use Rattle.std.proofs.Common.{◌≡◌, ◌<◌, ◌+◌, ℕ, zero, suc, Bool, true, false, List, [], ◌∷◌, ◌++◌, append_assoc, refl, sym, ◌∙◌, ap, subst, arith, length, get_or, drop}
use Rattle.std.specs.Prelude.{codes, map}
use Rattle.sap_expect.specs.Kinds.{kind_of}
use Rattle.sap_expect.specs.KindText.{between, is_none, kind_text, others_text, wanted_text}
use Rattle.sap_expect.specs.declared.kind.WordKind as code
use Rattle.sap_expect.proofs.KindRows.{next_item}

-- what is put, with what is left, is all
abbrev pub IsPut : List ℕ → List ℕ → List code.WordKind → List code.WordKind → Type 0
IsPut before text all rest = text ++ others_text (map kind_of rest) ≡ before ++ others_text (map kind_of all)

is_last : (k : ℕ) (ks : List code.WordKind) → k < length ks → (b : Bool) → (b ≡ true → k + 1 ≡ length ks) → (b ≡ false → k + 1 ≡ length ks → ⊥) → b ≡ is_none (map kind_of (drop (k + 1) ks))
is_last k [] lt b e f = absurd (omega (arith, lt))
is_last zero (x ∷ []) lt true e f = refl
is_last zero (x ∷ []) lt false e f = absurd (f refl refl)
is_last zero (x ∷ y ∷ ks) lt true e f = let g = e refl in absurd (omega (arith, g))
is_last zero (x ∷ y ∷ ks) lt false e f = refl
is_last (suc k) (x ∷ ks) lt b e f =
    let i : suc (k + 1) ≡ suc k + 1 = omega arith in
    subst (λ (j : ℕ). b ≡ is_none (map kind_of (drop j (x ∷ ks)))) i
    (is_last k ks (omega (arith, lt)) b (λ g. let h = e g in omega (arith, h)) (λ g h. f g (omega (arith, h))))

pub one_put : (before old new : List ℕ) (all : List code.WordKind) (k : ℕ) (d : code.WordKind) (b : Bool) → k < length all → (b ≡ true → k + 1 ≡ length all) → (b ≡ false → k + 1 ≡ length all → ⊥)
    → IsPut before old all (drop k all) → new ≡ old ++ (between b ++ kind_text (kind_of (get_or all k d))) → IsPut before new all (drop (k + 1) all)
one_put before old new all k d b lt e f h n =
    let rest : List ℕ = others_text (map kind_of (drop (k + 1) all)) in
    let this : List ℕ = kind_text (kind_of (get_or all k d)) in
    let put : new ++ rest ≡ (old ++ (between b ++ this)) ++ rest = ap (λ (x : List ℕ). x ++ rest) n in
    let moved : (old ++ (between b ++ this)) ++ rest ≡ old ++ (between b ++ (this ++ rest)) =
    append_assoc old (between b ++ this) rest ∙ ap (λ (x : List ℕ). old ++ x) (append_assoc (between b) this rest) in
    let last : old ++ (between b ++ (this ++ rest)) ≡ old ++ (between (is_none (map kind_of (drop (k + 1) all))) ++ (this ++ rest)) =
    ap (λ (c : Bool). old ++ (between c ++ (this ++ rest))) (is_last k all lt b e f) in
    let whole : old ++ (between (is_none (map kind_of (drop (k + 1) all))) ++ (this ++ rest)) ≡ old ++ others_text (map kind_of (drop k all)) =
    ap (λ (ks : List code.WordKind). old ++ others_text (map kind_of ks)) (sym (next_item k all d lt)) in
    put ∙ (moved ∙ (last ∙ (whole ∙ h)))

pub three_put : (before first second third a b c : List ℕ) → first ≡ before ++ a → second ≡ first ++ b → third ≡ second ++ c → third ≡ before ++ (a ++ (b ++ c))
three_put before first second third a b c e f g =
    g ∙ (ap (λ (x : List ℕ). x ++ c) (f ∙ ap (λ (x : List ℕ). x ++ b) e) ∙ (append_assoc (before ++ a) b c ∙ append_assoc before a (b ++ c)))

pub whole_put : (before after : List ℕ) (ks others : List code.WordKind) (k : code.WordKind) → ks ≡ k ∷ others
    → after ≡ before ++ (codes "Here may stand: " ++ (kind_text (kind_of k) ++ others_text (map kind_of others))) → after ≡ before ++ wanted_text (map kind_of ks)
whole_put before after ks others k e f = f ∙ ap (λ (xs : List code.WordKind). before ++ wanted_text (map kind_of xs)) (sym e)
