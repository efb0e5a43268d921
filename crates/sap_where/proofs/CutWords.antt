-- The tokens of the pieces into which a file is cut.
use Rattle.std.proofs.Common.{◌≡◌, ◌+◌, ℕ, zero, suc, List, [], ◌∷◌, ◌++◌, length, drop, refl, sym, ap, ◌∙◌, arith}
use Rattle.std.proofs.Math.Seq.{drop-append_seam, drop-nil}
use Rattle.std.proofs.lemmas.List.{map-append}
use Rattle.sap_text.specs.declared.token.Token.{Token}
use Rattle.sap_grammar.specs.Words.{Word, words_of}
use Rattle.sap_grammar.specs.Cut.{IsHeader, Placed, placed, words}
use Rattle.sap_grammar.specs.Items.{items_end, items_more}
use Rattle.sap_terms.specs.Signature.{Sig}
use Rattle.sap_read.specs.Item.{Standing}
use Rattle.sap_read.specs.ItemGrammar.{AreItems}
use Rattle.sap_grammar.proofs.ReadingLaws.Tokens.{words-drop, words_placed}

-- the first few and some more
dropped_more : {A : Type 0} (k n : ℕ) (xs : List A) → drop (k + n) xs ≡ drop n (drop k xs)
dropped_more zero n xs = ap (λ (m : ℕ). drop m xs) none
  where
    none : 0 + n ≡ n
    none = omega arith
dropped_more (suc k) n [] = drop-nil (suc k + n) ∙ sym (drop-nil n)
dropped_more (suc k) n (x ∷ xs) = ap (λ (m : ℕ). drop m (x ∷ xs)) shift ∙ dropped_more k n xs
  where
    shift : suc k + n ≡ suc (k + n)
    shift = omega arith

pub words_behind : (z : List ℕ) (ts : List Token) (k n : ℕ) (ws : List Word) → words_of z (drop k ts) ≡ ws → words_of z (drop (k + n) ts) ≡ drop n ws
words_behind z ts k n ws e =
    ap (λ (us : List Token). words_of z us) (dropped_more k n ts) ∙ words-drop z n (drop k ts) ∙ ap (λ (vs : List Word). drop n vs) e

placed_behind : (z : List ℕ) (n : ℕ) (ts : List Token) → placed z (drop n ts) ≡ drop n (placed z ts)
placed_behind z zero ts = refl
placed_behind z (suc n) [] = refl
placed_behind z (suc n) (t ∷ ts) = placed_behind z n ts

pub words-append : (ps qs : List Placed) → words (ps ++ qs) ≡ words ps ++ words qs
words-append ps qs = map-append (λ (p : Placed). p.word) ps qs

pub no_items : {g : Sig} {cut : List (List Placed)} {is : List Standing} → AreItems g cut is → ◌≡◌ {A = List (List Placed)} cut [] → ⊥
no_items (items_end e) same = absurd (cc)
no_items (items_more s q) same = absurd (cc)

-- the words of a piece, and those behind it
pub piece_words : (z : List ℕ) (ts : List Token) (k : ℕ) (ps rest : List Placed) → placed z (drop k ts) ≡ ps ++ rest
    → words_of z (drop k ts) ≡ words ps ++ words rest
piece_words z ts k ps rest e = sym (words_placed z (drop k ts)) ∙ ap words e ∙ words-append ps rest

-- the next piece begins behind the tokens of this one
pub next_piece : (z : List ℕ) (ts : List Token) (k : ℕ) (ps rest : List Placed) → placed z (drop k ts) ≡ ps ++ rest
    → placed z (drop (k + length ps) ts) ≡ rest
next_piece z ts k ps rest e =
    ap (λ (us : List Token). placed z us) (dropped_more k (length ps) ts) ∙ placed_behind z (length ps) (drop k ts)
    ∙ ap (λ (qs : List Placed). drop (length ps) qs) e ∙ drop-append_seam ps rest

-- behind the header are the tokens from the fourth on
pub behind_header : (z : List ℕ) (ts : List Token) {x : List ℕ} {rest : List Placed} → IsHeader x (placed z ts) rest → placed z (drop 3 ts) ≡ rest
behind_header z ts h = placed_behind z 3 ts ∙ ap (λ (qs : List Placed). drop 3 qs) h.spelled
