-- A printed term, and a printed line, is spelled.
use Rattle.std.proofs.Common.{◌≡◌, ℕ, Bool, true, false, List, [], ◌∷◌, ◌++◌, append_assoc, append-nil, refl, sym, ap, subst, ◌∙◌}
use Rattle.std.specs.Prelude.{codes}
use Rattle.std.specs.Str.{bytes_eq}
use Rattle.std.proofs.lemmas.Slice.Eq.{bytes_eq-Decides}
use Rattle.sap_terms.specs.Tree.{Tree, variable, public, fresh, apply, Trees, none, more}
use Rattle.sap_terms.specs.Equations.{pair_name}
use Rattle.sap_grammar.specs.Pieces.{joined}
use Rattle.sap_grammar.specs.TermText.{variable_text, applied, term_text, term_texts, tree_text}
use Rattle.sap_run_lines.specs.RunTerms.{IsRunName, IsRunTerm, IsRunRest, AreRunTerms, term_public, term_fresh, term_constant, term_symbol, term_tuple, rest_last, rest_more, terms_last, terms_more}
use Rattle.sap_run_lines.specs.LineWords.{LineWord, identifier, number, fresh_name, public_name, bound, IsLineWord, word_identifier, word_number, word_fresh, word_public, word_bound, AreLineWords, words_last, words_more}
use Rattle.sap_run_lines.specs.LineText.{word_text, words_text}
use Rattle.sap_run_lines.specs.Spellable.{IsWritable, AreWritable, IsWritableWord, AreWritableWords}

-- the bytes of a term, rewritten
from : {t : Tree} {x y k : List ℕ} → IsRunTerm t x k → y ≡ x → IsRunTerm t y k
from {t = t} {k = k} r e = subst (λ (y : List ℕ). IsRunTerm t y k) (sym e) r

rest_from : {t : Tree} {x y k : List ℕ} → IsRunRest t x k → y ≡ x → IsRunRest t y k
rest_from {t = t} {k = k} r e = subst (λ (y : List ℕ). IsRunRest t y k) (sym e) r

terms_from : {ts : Trees} {x y k : List ℕ} → AreRunTerms ts x k → y ≡ x → AreRunTerms ts y k
terms_from {ts = ts} {k = k} r e = subst (λ (y : List ℕ). AreRunTerms ts y k) (sym e) r

pair_is : (f : List ℕ) → bytes_eq f (codes "pair") ≡ true → pair_name ≡ f
pair_is f e = sym ((bytes_eq-Decides f (codes "pair")).0 e)

-- a comma between two texts
between : (x y k : List ℕ) → (x ++ (codes "," ++ y)) ++ k ≡ x ++ (44 ∷ (y ++ k))
between x y k = append_assoc x (codes "," ++ y) k

-- a symbol on terms with these texts
applied_from : {f : List ℕ} {ts : Trees} {k : List ℕ} (text : List ℕ) (texts : List (List ℕ)) → IsRunName f → AreRunTerms ts (joined (codes ",") (text ∷ texts) ++ (41 ∷ k)) k
    → IsRunTerm (apply f ts) (applied f (text ∷ texts) ++ k) k
applied_from {f = f} {k = k} text texts n r =
    from (term_symbol n r)
    (append_assoc f (codes "(" ++ (joined (codes ",") (text ∷ texts) ++ codes ")")) k ∙ ap (λ y. f ++ (40 ∷ y)) (append_assoc (joined (codes ",") (text ∷ texts)) (codes ")") k))

mutual
  pub term_printed : (t : Tree) → IsWritable t → (k : List ℕ) → IsRunTerm t (term_text false t ++ k) k
  term_printed (variable v) h k = absurd h
  term_printed (public s) h k = from (term_public h) (ap (λ y. 39 ∷ y) (append_assoc s (codes "'") k))
  term_printed (fresh n) h k = term_fresh h
  term_printed (apply f none) h k = term_constant (h.0 refl)
  term_printed (apply f (more t none)) h k = applied_from (term_text false t) [] (h.0 refl) (listed_printed none tt k t (λ l. term_printed t h.1.0 l))
  term_printed (apply f (more t (more u none))) h k =
      by_pair (bytes_eq f (codes "pair")) refl (term_printed t h.1.0 (44 ∷ (term_text true u ++ (62 ∷ k)))) (rest_printed u h.1.1.0 k) (listed_printed (more u none) h.1.1 k t (λ l. term_printed t h.1.0 l))
    where
      by_pair : (c : Bool) → bytes_eq f (codes "pair") ≡ c
          → IsRunTerm t (term_text false t ++ (44 ∷ (term_text true u ++ (62 ∷ k)))) (44 ∷ (term_text true u ++ (62 ∷ k)))
          → IsRunRest u (term_text true u ++ (62 ∷ k)) k
          → AreRunTerms (more t (more u none)) (joined (codes ",") (term_texts (more t (more u none))) ++ (41 ∷ k)) k
          → IsRunTerm (apply f (more t (more u none))) (term_text false (apply f (more t (more u none))) ++ k) k
      by_pair true e one rest all =
          rw e (subst (λ (x : List ℕ). IsRunTerm (apply x (more t (more u none))) (60 ∷ (((term_text false t ++ (codes "," ++ term_text true u)) ++ codes ">") ++ k)) k) (pair_is f e)
          (from (term_tuple one rest) (ap (λ y. 60 ∷ y) (append_assoc (term_text false t ++ (codes "," ++ term_text true u)) (codes ">") k ∙ between (term_text false t) (term_text true u) (62 ∷ k)))))
      by_pair false e one rest all = rw e (applied_from (term_text false t) (term_text false u ∷ []) (h.0 e) all)
  term_printed (apply f (more t (more u (more w ts)))) h k =
      applied_from (term_text false t) (term_text false u ∷ term_text false w ∷ term_texts ts) (h.0 refl) (listed_printed (more u (more w ts)) h.1.1 k t (λ l. term_printed t h.1.0 l))

  rest_printed : (t : Tree) → IsWritable t → (k : List ℕ) → IsRunRest t (term_text true t ++ (62 ∷ k)) k
  rest_printed (variable v) h k = absurd h
  rest_printed (public s) h k = rest_last (from (term_public h) (ap (λ y. 39 ∷ y) (append_assoc s (codes "'") (62 ∷ k))))
  rest_printed (fresh n) h k = rest_last (term_fresh h)
  rest_printed (apply f none) h k = rest_last (term_constant (h.0 refl))
  rest_printed (apply f (more t none)) h k = rest_last (applied_from (term_text false t) [] (h.0 refl) (listed_printed none tt (62 ∷ k) t (λ l. term_printed t h.1.0 l)))
  rest_printed (apply f (more t (more u none))) h k =
      by_pair (bytes_eq f (codes "pair")) refl (term_printed t h.1.0 (44 ∷ (term_text true u ++ (62 ∷ k)))) (rest_printed u h.1.1.0 k) (listed_printed (more u none) h.1.1 (62 ∷ k) t (λ l. term_printed t h.1.0 l))
    where
      by_pair : (c : Bool) → bytes_eq f (codes "pair") ≡ c
          → IsRunTerm t (term_text false t ++ (44 ∷ (term_text true u ++ (62 ∷ k)))) (44 ∷ (term_text true u ++ (62 ∷ k)))
          → IsRunRest u (term_text true u ++ (62 ∷ k)) k
          → AreRunTerms (more t (more u none)) (joined (codes ",") (term_texts (more t (more u none))) ++ (41 ∷ 62 ∷ k)) (62 ∷ k)
          → IsRunRest (apply f (more t (more u none))) (term_text true (apply f (more t (more u none))) ++ (62 ∷ k)) k
      by_pair true e one rest all =
          rw e (subst (λ (x : List ℕ). IsRunRest (apply x (more t (more u none))) ((term_text false t ++ (codes "," ++ term_text true u)) ++ (62 ∷ k)) k) (pair_is f e)
          (rest_from (rest_more one rest) (between (term_text false t) (term_text true u) (62 ∷ k))))
      by_pair false e one rest all = rw e (rest_last (applied_from (term_text false t) (term_text false u ∷ []) (h.0 e) all))
  rest_printed (apply f (more t (more u (more w ts)))) h k =
      rest_last (applied_from (term_text false t) (term_text false u ∷ term_text false w ∷ term_texts ts) (h.0 refl) (listed_printed (more u (more w ts)) h.1.1 (62 ∷ k) t (λ l. term_printed t h.1.0 l)))

  -- further terms behind the first, with commas between them
  listed_printed : (ts : Trees) → AreWritable ts → (k : List ℕ) (t : Tree) → ((l : List ℕ) → IsRunTerm t (term_text false t ++ l) l)
      → AreRunTerms (more t ts) (joined (codes ",") (term_texts (more t ts)) ++ (41 ∷ k)) k
  listed_printed none h k t one = terms_last (one (41 ∷ k))
  listed_printed (more u ts) h k t one =
      terms_from (terms_more (one (44 ∷ (joined (codes ",") (term_texts (more u ts)) ++ (41 ∷ k)))) (listed_printed ts h.1 k u (λ l. term_printed u h.0 l)))
      (between (term_text false t) (joined (codes ",") (term_texts (more u ts))) (41 ∷ k))

pub word_printed : (w : LineWord) → IsWritableWord w → (k : List ℕ) → IsLineWord w (word_text w ++ k) k
word_printed (identifier x) h k = word_identifier h
word_printed (number n) h k = word_number h
word_printed (fresh_name n) h k = word_fresh h
word_printed (public_name s) h k = subst (λ (y : List ℕ). IsLineWord (public_name s) (39 ∷ y) k) (sym (append_assoc s (codes "'") k)) (word_public h)
word_printed (bound v t) h k =
    subst (λ (y : List ℕ). IsLineWord (bound v t) y k) (sym (append_assoc (variable_text v) (codes "=" ++ tree_text t) k)) (word_bound h.0 (term_printed t h.1 k) h.2)

pub words_printed : (w : LineWord) (ws : List LineWord) → AreWritableWords (w ∷ ws) → AreLineWords (w ∷ ws) (words_text (w ∷ ws))
words_printed w [] h = words_last (subst (λ (y : List ℕ). IsLineWord w y []) (append-nil (word_text w)) (word_printed w h.0 []))
words_printed w (v ∷ ws) h = words_more (word_printed w h.0 (32 ∷ words_text (v ∷ ws))) (words_printed v ws h.1)
