-- Chains of formulas, the list of them, and their text.
use Rattle.std.proofs.Common.{◌≡◌, ◌≤◌, ◌<◌, ◌+◌, ◌-◌, ◌*◌, ℕ, zero, suc, List, [], ◌∷◌, ◌++◌, drop, Some, refl, sym, ap, ◌∙◌, append_assoc, append-nil, add-one, arith}
use Rattle.std.specs.Prelude.{codes, slice_get}
use Rattle.sap_formula.specs.Form.{Form, both}
use Rattle.sap_formula_text.specs.FormulaText.{formula_text}
use Rattle.sap_formula_text.specs.code.Chains.{chained, behind_text}
use Rattle.sap_formula_text.proofs.Sizes.{form_size}

-- the first of a chain is a chain itself
chained_more : (f g : Form) (gs : List Form) → chained (both f g) gs ≡ chained f (gs ++ g ∷ [])
chained_more f g [] = refl
chained_more f g (h ∷ gs) = ap (λ (k : Form). both k h) (chained_more f g gs)

-- one step down to the first
pub chained_down : (h f l r : Form) (gs : List Form) → h ≡ chained f gs → f ≡ both l r → h ≡ chained l (gs ++ r ∷ [])
chained_down h f l r gs e both_is = e ∙ (ap (λ (k : Form). chained k gs) both_is ∙ chained_more l r gs)

-- the text of a chain
pub chained_text : (f : Form) (gs : List Form) → formula_text 4 (chained f gs) ≡ formula_text 4 f ++ behind_text gs
chained_text f [] = sym (append-nil (formula_text 4 f))
chained_text f (g ∷ gs) =
    ap (λ z. z ++ (codes " & " ++ formula_text 5 g)) (chained_text f gs) ∙ append_assoc (formula_text 4 f) (behind_text gs) (codes " & " ++ formula_text 5 g)

-- the text of one more, behind those that were put earlier
behind_text-next : (text : List ℕ) (gs : List Form) (k : ℕ) (g : Form) → slice_get gs k ≡ Some g
    → (text ++ behind_text (drop (k + 1) gs)) ++ (codes " & " ++ formula_text 5 g) ≡ text ++ behind_text (drop k gs)
behind_text-next text [] k g h = cc
behind_text-next text (h ∷ gs) zero g e = let same : h ≡ g = cc in append_assoc text (behind_text gs) (codes " & " ++ formula_text 5 g) ∙ ap (λ z. text ++ (behind_text gs ++ (codes " & " ++ formula_text 5 z))) (sym same)
behind_text-next text (h ∷ gs) (suc k) g e = let more = rw (add-one k) at (behind_text-next text gs k g e) in rw (add-one (suc k)) more

-- how large formulas are together, with one connective each
abbrev pub forms_size : List Form → ℕ
forms_size [] = 0
forms_size (g ∷ gs) = forms_size gs + form_size g + 1

pub chained_size : (f : Form) (gs : List Form) → form_size (chained f gs) ≡ form_size f + forms_size gs
chained_size f [] = omega arith
chained_size f (g ∷ gs) = let rest = chained_size f gs in omega (arith, rest)

pub size_within : (gs : List Form) (k : ℕ) (g : Form) → slice_get gs k ≡ Some g → form_size g + 1 ≤ forms_size gs
size_within [] k g h = cc
size_within (h ∷ gs) zero g e = let same : h ≡ g = cc in rw same (omega arith)
size_within (h ∷ gs) (suc k) g e = let rest = size_within gs k g e in omega (arith, rest)

-- the same, where the one is that before this index
pub behind_text-before : (text : List ℕ) (gs : List Form) (left : ℕ) (g : Form) → 0 < left → slice_get gs (left - 1) ≡ Some g
    → (text ++ behind_text (drop left gs)) ++ (codes " & " ++ formula_text 5 g) ≡ text ++ behind_text (drop (left - 1) gs)
behind_text-before text gs left g some e =
    let again : (left - 1) + 1 ≡ left = omega (arith, some) in
    rw again at (behind_text-next text gs (left - 1) g e)

-- the first of a chain is no larger, and the others are together
pub first_within : (f : Form) (gs : List Form) (h : Form) → h ≡ chained f gs → 5 * form_size f + 2 < 5 * form_size h + 3
first_within f gs h e = let size = chained_size f gs in rw e (omega (arith, size))

pub behind_within : (f : Form) (gs : List Form) (h : Form) → h ≡ chained f gs → 5 * forms_size gs < 5 * form_size h + 3
behind_within f gs h e = let size = chained_size f gs in rw e (omega (arith, size))

pub one_within : (gs : List Form) (k : ℕ) (g : Form) → slice_get gs k ≡ Some g → 5 * form_size g + 2 < 5 * forms_size gs
one_within gs k g e = let size = size_within gs k g e in omega (arith, size)
