-- The header of a file, and its last line.
use Rattle.std.proofs.Common.{◌≡◌, ◌-◌, ℕ, suc, Bool, true, false, ◌&&◌, List, [], ◌∷◌, drop, length, refl, sym, ap, subst, ◌∙◌, arith, Some, None, Option}
use Rattle.std.proofs.lemmas.Slice.Eq.{bytes_eq-Decides}
use Rattle.std.specs.Prelude.{codes, if◌then◌else◌, slice_get}
use Rattle.sap_text.specs.declared.token.Token.{Token}
use Rattle.sap_grammar.specs.Words.{Word, mark, name, number, quoted, is_mark, word_of, words_of}
use Rattle.sap_grammar.specs.Reading.{as_name}
use Rattle.sap_grammar.specs.Cut.{Placed, placed, words, IsHeader, last_line}
use Rattle.sap_grammar.specs.ItemReading.{header_of}
use Rattle.sap_grammar.proofs.ReadingLaws.Tokens.{words_placed}

mark_is : (m : List ℕ) (w : Word) → is_mark m w ≡ true → w ≡ mark m
mark_is m (mark s) e = ap mark ((bytes_eq-Decides s m).0 e)
mark_is m (name s) e = cc
mark_is m (number s) e = cc
mark_is m (quoted s) e = cc

name_is : (w : Word) (x : List ℕ) → as_name w ≡ Some x → w ≡ name x
name_is (mark s) x e = cc
name_is (name s) x e = cc
name_is (number s) x e = cc
name_is (quoted s) x e = cc

both : (a b : Bool) (o : Option (List ℕ)) (x : List ℕ) → (if a && b then o else None) ≡ Some x → (a ≡ true) × (b ≡ true) × (o ≡ Some x)
both true true o x e = (refl, refl, e)
both true false o x e = cc
both false b o x e = cc

not_true : false ≡ true → ⊥
not_true e = absurd (cc)

-- where a header is found, it stands there
pub header_is : (z : List ℕ) (ts : List Token) (x : List ℕ) → header_of (words_of z ts) ≡ Some x → IsHeader x (placed z ts) (placed z (drop 3 ts))
header_is z [] x e = absurd (cc)
header_is z (t ∷ []) x e = let p = both _ _ _ _ e in absurd (not_true p.1)
header_is z (t ∷ u ∷ []) x e = let p = both _ _ _ _ e in absurd (not_true p.1)
header_is z (t ∷ u ∷ v ∷ ts) x e =
    let p = both _ _ _ _ e in
    let first = mark_is (codes "theory") (word_of z t) p.0 in
    let second = name_is (word_of z u) x p.2 in
    let third = mark_is (codes "begin") (word_of z v) p.1 in
    record {
      theory_line = t.line;
      name_line = u.line;
      begin_line = v.line;
      spelled = λ i. record { word = first i; line = t.line } ∷ record { word = second i; line = u.line } ∷ record { word = third i; line = v.line } ∷ placed z ts;
    }

-- a header that stands there is found
header_found : (z : List ℕ) (ts : List Token) (x : List ℕ) (rest : List Placed) → IsHeader x (placed z ts) rest → header_of (words_of z ts) ≡ Some x
header_found z ts x rest h =
    subst (λ (ws : List Word). header_of ws ≡ Some x) (words_placed z ts)
    (subst (λ (ps : List Placed). header_of (words ps) ≡ Some x) (sym h.spelled) refl)

pub header_none : (z : List ℕ) (ts : List Token) → header_of (words_of z ts) ≡ None → (x : List ℕ) (rest : List Placed) → IsHeader x (placed z ts) rest → ⊥
header_none z ts e x rest h =
    let clash : ◌≡◌ {A = Option (List ℕ)} None (Some x) = sym e ∙ header_found z ts x rest h in
    absurd (cc)

-- the line of the last token
pub last_is : (z : List ℕ) (ts : List Token) (t : Token) → Some t ≡ slice_get ts (length ts - 1) → t.line ≡ last_line (placed z ts)
last_is z [] t e = cc
last_is z (u ∷ []) t e = let same : t ≡ u = cc in ap (λ (q : Token). q.line) same
last_is z (u ∷ v ∷ ts) t e =
    let n : length (u ∷ v ∷ ts) - 1 ≡ suc (length (v ∷ ts) - 1) = omega arith in
    last_is z (v ∷ ts) t (subst (λ k. Some t ≡ slice_get (u ∷ v ∷ ts) k) n e)

pub no_last : (z : List ℕ) (ts : List Token) → None ≡ slice_get ts (length ts - 1) → 1 ≡ last_line (placed z ts)
no_last z [] e = refl
no_last z (u ∷ []) e = cc
no_last z (u ∷ v ∷ ts) e =
    let n : length (u ∷ v ∷ ts) - 1 ≡ suc (length (v ∷ ts) - 1) = omega arith in
    no_last z (v ∷ ts) (subst (λ k. None ≡ slice_get (u ∷ v ∷ ts) k) n e)

pub ruleset last_lines = (last_is, no_last)
