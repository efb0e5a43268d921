-- However words spell a formula, its parts have the same words.
use Rattle.std.proofs.Common.{◌≡◌, ℕ, zero, suc, List, [], ◌∷◌, length, Some, refl, sym, ap, subst, ◌∙◌, arith}
use Rattle.std.specs.Prelude.{slice_get}
use Rattle.sap_terms.specs.Signature.{Sig}
use Rattle.sap_formula.specs.Form.{Form}
use Rattle.sap_grammar.specs.Words.{Word}
use Rattle.sap_formula_grammar.specs.FormulaGrammar.{Reach, IsIff}
use Rattle.sap_node_words.specs.NodeWords.{nodes}
use Rattle.sap_formula_words.specs.PartWords.{of_parts, part_words}
use Rattle.sap_formula_words.specs.code.Walk.{Spot, at_word, in_term, Walk, form_walk}
use Rattle.sap_formula_words.specs.code.NodeLaws.{NodeLaws}
use Rattle.sap_formula_words.proofs.Counts.{part_counts}
use Rattle.sap_formula_words.proofs.Reaches.{Tells, Reaches, iff_goes}

same_items : (ns ms : List ℕ) → ((k : ℕ) → slice_get ns k ≡ slice_get ms k) → ns ≡ ms
same_items [] [] h = refl
same_items [] (m ∷ ms) h = absurd (let e = h 0 in cc (e))
same_items (n ∷ ns) [] h = absurd (let e = h 0 in cc (e))
same_items (n ∷ ns) (m ∷ ms) h =
    let first = h 0 in
    let is : n ≡ m = cc (first) in
    let others = same_items ns ms (λ k. h (suc k)) in
    cc (is, others)

module _ (laws : NodeLaws) where
  -- one spot has one word
  one_word : (s : Spot) (n m : ℕ) → Tells s n → Tells s m → n ≡ m
  one_word (at_word k) n m h i = sym h ∙ i
  one_word (in_term t ws k) n m h i =
      let same = laws.same h.0 i.0 t ws h.1 i.1 h.2 i.2 in
      let both : Some n ≡ Some m = sym h.3 ∙ (ap (λ ks. slice_get (of_parts (nodes t) ks) k) same ∙ i.3) in
      cc (both)

  agree : (w : Walk) (ns ms : List ℕ) (k : ℕ) (b c : List Word) → length ns ≡ length ms → Reaches w ns k b → Reaches w ms k c → slice_get ns k ≡ slice_get ms k
  agree w [] [] k b c e h i = refl
  agree w [] (m ∷ ms) k b c e h i = absurd (omega (arith, e))
  agree w (n ∷ ns) [] k b c e h i = absurd (omega (arith, e))
  agree w (n ∷ ns) (m ∷ ms) zero b c e h i =
      let both = sym h.1 ∙ i.1 in
      let spot : h.0 ≡ i.0 = cc (both) in
      ap Some (one_word i.0 n m (subst (λ s. Tells s n) spot h.2) i.2)
  agree w (n ∷ ns) (m ∷ ms) (suc k) b c e h i = agree w ns ms k b c (omega (arith, e)) h i

  pub same_parts : {g h : Sig} {d e : Reach} {f : Form} {n k : ℕ} {a b c : List Word} (r : IsIff g d f n a b) (s : IsIff h e f k a c) → part_words r ≡ part_words s
  same_parts {f = f} {a = a} r s =
      same_items (part_words r) (part_words s)
      (λ i. agree (form_walk f i a) (part_words r) (part_words s) i (iff_goes laws r).0 (iff_goes laws s).0 (part_counts laws [] r ∙ sym (part_counts laws [] s)) ((iff_goes laws r).1 i) ((iff_goes laws s).1 i))

  pub one_numbers : {g h : Sig} {d e : Reach} {f i : Form} {n k : ℕ} {a b c : List Word} (r : IsIff g d f n a b) (s : IsIff h e i k a c) → f ≡ i → part_words r ≡ part_words s
  one_numbers {h = h} {e = e} {k = k} {a = a} {c = c} r s same = subst (λ z. (s : IsIff h e z k a c) → part_words r ≡ part_words s) same (λ s. same_parts r s) s
