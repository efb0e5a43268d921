-- Texts that stand for no bytes, tried by hand.
use Rattle.std.proofs.Common.{◌≡◌, ℕ, true, false, codes, List, [], ◌∷◌, ◌++◌, ◌==◌, get_or, refl, ap}
use Rattle.sap_tell.specs.Escaped.{has_meaning, IsWrittenByte, itself, quotation, ampersand, apostrophe, less, greater, StandsFor, nothing, further}
use Rattle.sap_tell.proofs.WrittenBytes.{after}

-- a byte that is written as it is has no meaning
not_itself : (x b : ℕ) (t s : List ℕ) → has_meaning x ≡ false → has_meaning b ≡ true → x ∷ t ≡ b ∷ s → ⊥
not_itself x b t s h m e =
    let same : x ≡ b = cc in
    let no : has_meaning b ≡ false = rw same at h in
    absurd (cc)

-- text that is written for a byte begins with no other byte that has a meaning than `&`
no_mark_first : {p : List ℕ} {x : ℕ} → IsWrittenByte p x → (t s : List ℕ) (b : ℕ) → has_meaning b ≡ true → ¬ (b ≡ 38) → p ++ t ≡ b ∷ s → ⊥
no_mark_first (itself x h) t s b m n e = not_itself x b t s h m e
no_mark_first quotation t s b m n e = let same : b ≡ 38 = cc in n same
no_mark_first ampersand t s b m n e = let same : b ≡ 38 = cc in n same
no_mark_first apostrophe t s b m n e = let same : b ≡ 38 = cc in n same
no_mark_first less t s b m n e = let same : b ≡ 38 = cc in n same
no_mark_first greater t s b m n e = let same : b ≡ 38 = cc in n same

no_text_with_mark : {s z : List ℕ} → StandsFor s z → (b : ℕ) (t : List ℕ) → has_meaning b ≡ true → ¬ (b ≡ 38) → s ≡ b ∷ t → ⊥
no_text_with_mark nothing b t m n e = absurd (cc)
no_text_with_mark (further {t = u} p x w h) b t m n e = no_mark_first w u t b m n e

pub no_mark : (z : List ℕ) → ¬ StandsFor (codes "a<b") z
no_mark z h =
    let rest = after h (97 ∷ []) 97 (codes "<b") (itself 97 refl) refl in
    no_text_with_mark rest.2 60 (codes "b") refl (λ e. absurd (cc)) refl

pub no_quotation : (z : List ℕ) → ¬ StandsFor (codes "\"") z
no_quotation z h = no_text_with_mark h 34 [] refl (λ e. absurd (cc)) refl

-- no reference begins with `& `
no_blank : {p : List ℕ} {x : ℕ} → IsWrittenByte p x → (t s : List ℕ) → p ++ t ≡ 38 ∷ 32 ∷ s → ⊥
no_blank (itself x h) t s e = not_itself x 38 t (32 ∷ s) h refl e
no_blank quotation t s e = let no : false ≡ true = ap (λ z. get_or z 1 0 == 32) e in absurd (cc)
no_blank ampersand t s e = let no : false ≡ true = ap (λ z. get_or z 1 0 == 32) e in absurd (cc)
no_blank apostrophe t s e = let no : false ≡ true = ap (λ z. get_or z 1 0 == 32) e in absurd (cc)
no_blank less t s e = let no : false ≡ true = ap (λ z. get_or z 1 0 == 32) e in absurd (cc)
no_blank greater t s e = let no : false ≡ true = ap (λ z. get_or z 1 0 == 32) e in absurd (cc)

no_blank_text : {s z : List ℕ} → StandsFor s z → (t : List ℕ) → s ≡ 38 ∷ 32 ∷ t → ⊥
no_blank_text nothing t e = absurd (cc)
no_blank_text (further {t = u} p x w h) t e = no_blank w u t e

pub no_lone_ampersand : (z : List ℕ) → ¬ StandsFor (codes "a & b") z
no_lone_ampersand z h =
    let rest = after h (97 ∷ []) 97 (codes " & b") (itself 97 refl) refl in
    let last = after rest.2 (32 ∷ []) 32 (codes "& b") (itself 32 refl) refl in
    no_blank_text last.2 (codes "b") refl

-- none ends behind its letters
no_open : {p : List ℕ} {x : ℕ} → IsWrittenByte p x → (t : List ℕ) → p ++ t ≡ 38 ∷ 108 ∷ 116 ∷ [] → ⊥
no_open (itself x h) t e = not_itself x 38 t (108 ∷ 116 ∷ []) h refl e
no_open quotation t e = absurd (cc)
no_open ampersand t e = absurd (cc)
no_open apostrophe t e = absurd (cc)
no_open less t e = absurd (cc)
no_open greater t e = absurd (cc)

no_open_text : {s z : List ℕ} → StandsFor s z → s ≡ 38 ∷ 108 ∷ 116 ∷ [] → ⊥
no_open_text nothing e = absurd (cc)
no_open_text (further {t = u} p x w h) e = no_open w u e

pub no_open_reference : (z : List ℕ) → ¬ StandsFor (codes "&lt") z
no_open_reference z h = no_open_text h refl
