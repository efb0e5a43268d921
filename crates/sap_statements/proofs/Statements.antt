-- What is read is a statement, and each statement is read.
use Rattle.std.proofs.Common.{◌≡◌, ◌≤◌, ℕ, zero, suc, Bool, true, false, List, [], ◌∷◌, length, drop, Some, None, ◌⊎◌, inl, inr, refl, sym, ap, subst, ◌∙◌, arith}
use Rattle.std.specs.Prelude.{codes, ◌||◌, ◌&&◌}
use Rattle.std.proofs.lemmas.List.{drop-drop}
use Rattle.sap_terms.specs.Signature.{Sig}
use Rattle.sap_formula.specs.Form.{Form}
use Rattle.sap_formula.specs.declared.lemma.Mode.{Mode}
use Rattle.sap_grammar.specs.declared.limits.Limits.{Limits}
use Rattle.sap_grammar.specs.Words.{Word, mark, name, starts}
use Rattle.sap_grammar.specs.Reading.{Read, after, bare, given, names, list_of, past}
use Rattle.sap_grammar.specs.TermLaws.{AreSpelled}
use Rattle.sap_formula_grammar.specs.FormulaGrammar.{IsShortFormula, EndsFormula}
use Rattle.sap_formula_grammar.specs.FormulaReading.{short_formula}
use Rattle.sap_statements.specs.Statements.{Statement, lemma, IsAttribute, is_reuse, is_use_induction, is_sources, AreAttributes, attributes_last, attributes_more, HasAttributes, without_attributes, with_attributes, IsMode, mode_missing, mode_all, mode_exists, IsQuoted, IsStatement, is_restriction, is_lemma}
use Rattle.sap_statements.specs.code.FormulaLaws.{FormulaLaws}
use Rattle.sap_statements.specs.code.StatementReading.{starts_attribute, attribute, some_attributes, attributes, dashed, mode, quotation, claimed, a_restriction, a_lemma, statement}
use Rattle.sap_grammar.proofs.ReadingLaws.OnRead.{Says, OnRead, on_all, on_read, after_on, bare_sound, behind_on, if_on, past_on, starts_is, named_is}
use Rattle.sap_statements.proofs.Signatures.{statement_too}

-- What is written so is read.
attribute_read : {x : List ℕ} → IsAttribute x → (a : List Word) → attribute (name x ∷ a) ≡ Some (x, a)
unfolding given
attribute_read is_reuse a = refl
attribute_read is_use_induction a = refl
attribute_read is_sources a = refl

attributes_long : {xs : List (List ℕ)} {a b : List Word} → AreAttributes xs a b → 1 ≤ length a
attributes_long (attributes_last i) = omega arith
attributes_long (attributes_more i r) = omega arith

attributes_read : {xs : List (List ℕ)} {a b : List Word} → AreAttributes xs a b → (n : ℕ) → length a ≤ n → list_of (codes "]") attribute n a ≡ Some (xs, b)
unfolding after
attributes_read r zero le = absurd (omega (arith, le, attributes_long r))
attributes_read (attributes_last {a = a} i) (suc n) le = rw (attribute_read i (mark (codes "]") ∷ a)) refl
attributes_read (attributes_more {a = a} i r) (suc n) le = rw (attribute_read i (mark (codes ",") ∷ a), attributes_read r n (omega (arith, le))) refl

has_read : {xs : List (List ℕ)} {a b : List Word} → HasAttributes xs a (mark (codes ":") ∷ b) → attributes a ≡ Some (xs, mark (codes ":") ∷ b)
has_read without_attributes = refl
has_read (with_attributes {a = a} r) = attributes_read r (length a) (omega arith)

mode_read : {d : Mode} {a b : List Word} → IsMode d a (mark (codes "\"") ∷ b) → mode a ≡ (d, mark (codes "\"") ∷ b)
mode_read mode_missing = refl
mode_read mode_all = refl
mode_read mode_exists = refl

module _ (laws : FormulaLaws) (g : Sig) (m : Limits) where
  quotation_read : {f : Form} {a : List Word} → IsQuoted g m f a → quotation g m (mark (codes "\"") ∷ a) ≡ Some (f, [])
  unfolding after past
  quotation_read {f = f} {a = a} r =
      let ends : EndsFormula (mark (codes "\"") ∷ []) = record { no_parenthesis = refl; no_and = refl; no_or = refl; no_imp = refl; no_iff = refl } in
      rw (laws.read g m f a (mark (codes "\"") ∷ []) r ends) refl

  claimed_read : (x : List ℕ) (xs : List (List ℕ)) {d : Mode} {f : Form} {b c : List Word} → IsMode d b (mark (codes "\"") ∷ c) → IsQuoted g m f c
      → claimed g m x xs (mark (codes ":") ∷ b) ≡ Some (lemma (record { name = x; attributes = xs; mode = d; formula = f }), [])
  unfolding after past
  claimed_read x xs i r = rw (mode_read i, quotation_read r) refl

  pub statement_read : {s : Statement} {a : List Word} → IsStatement g m s a → statement g m a ≡ Some (s, [])
  unfolding after given past
  statement_read (is_restriction r) = rw (quotation_read r) refl
  statement_read (is_lemma {x = x} {xs = xs} h i r) = rw (has_read h, claimed_read x xs i r) refl

-- What is read is written so.
attribute_sound : (ws : List Word) → OnRead (λ x b. IsAttribute x × (ws ≡ name x ∷ b)) (attribute ws)
unfolding given
attribute_sound ws = if_on (λ x b. IsAttribute x × (ws ≡ name x ∷ b)) (starts_attribute ws) _ _ (λ e. by (names (codes "reuse") ws) (names (codes "use_induction") ws) (names (codes "sources") ws) refl refl refl e) (λ _. tt)
  where
    one : (x : List ℕ) → IsAttribute x → names x ws ≡ true → OnRead (λ x b. IsAttribute x × (ws ≡ name x ∷ b)) (bare ws)
    one x i h = rw (named_is x ws h) (i, refl)

    by : (p q r : Bool) → names (codes "reuse") ws ≡ p → names (codes "use_induction") ws ≡ q → names (codes "sources") ws ≡ r
        → (p || (q || r)) ≡ true → OnRead (λ x b. IsAttribute x × (ws ≡ name x ∷ b)) (bare ws)
    by true q r h k l e = one (codes "reuse") is_reuse h
    by false true r h k l e = one (codes "use_induction") is_use_induction k
    by false false true h k l e = one (codes "sources") is_sources l
    by false false false h k l e = absurd (cc (e))

attributes_from : {xs : List (List ℕ)} {a b c : List Word} → AreAttributes xs a b → c ≡ a → AreAttributes xs c b
attributes_from {xs = xs} {b = b} r e = subst (λ (y : List Word). AreAttributes xs y b) (sym e) r

list_sound : (n : ℕ) (ws : List Word) → OnRead (λ xs b. AreAttributes xs ws b) (list_of (codes "]") attribute n ws)
list_sound zero ws = tt
list_sound (suc n) ws =
    let Q : Says (List (List ℕ)) = λ xs b. AreAttributes xs ws b in
    after_on (λ x b. IsAttribute x × (ws ≡ name x ∷ b)) Q (attribute ws) _ (attribute_sound ws) (λ x r h.
    if_on Q (starts (codes "]") r) _ _
    (λ e. attributes_from (attributes_last h.0) (h.1 ∙ ap (λ (y : List Word). name x ∷ y) (starts_is (codes "]") r e)))
    (λ _. if_on Q (starts (codes ",") r) _ _
    (λ e. behind_on (λ xs b. AreAttributes xs (drop 1 r) b) Q (x ∷ []) (list_of (codes "]") attribute n (drop 1 r)) (list_sound n (drop 1 r)) (λ xs b k.
    attributes_from (attributes_more h.0 k) (h.1 ∙ ap (λ (y : List Word). name x ∷ y) (starts_is (codes ",") r e))))
    (λ _. tt)))

has_sound : (ws : List Word) → OnRead (λ xs b. HasAttributes xs ws b) (attributes ws)
has_sound ws =
    let Q : Says (List (List ℕ)) = λ xs b. HasAttributes xs ws b in
    if_on Q (starts (codes "[") ws) _ _
    (λ e. subst (λ (y : List Word). OnRead (λ xs b. HasAttributes xs y b) (some_attributes (drop 1 ws))) (sym (starts_is (codes "[") ws e))
    (bracketed (drop 1 ws) (some_attributes (drop 1 ws)) (list_sound (length (drop 1 ws)) (drop 1 ws))))
    (λ e. without_attributes)
  where
    bracketed : (a : List Word) (r : Read (List (List ℕ))) → OnRead (λ xs b. AreAttributes xs a b) r → OnRead (λ xs b. HasAttributes xs (mark (codes "[") ∷ a) b) r
    bracketed a None h = tt
    bracketed a (Some p) h = with_attributes h

dashed_is : (x y : List ℕ) (ws : List Word) → dashed x y ws ≡ true → ws ≡ name x ∷ mark (codes "-") ∷ name y ∷ drop 3 ws
dashed_is x y ws e = by (names x ws) (starts (codes "-") (drop 1 ws)) (names y (drop 2 ws)) refl refl refl e
  where
    by : (p q r : Bool) → names x ws ≡ p → starts (codes "-") (drop 1 ws) ≡ q → names y (drop 2 ws) ≡ r → (p && (q && r)) ≡ true
        → ws ≡ name x ∷ mark (codes "-") ∷ name y ∷ drop 3 ws
    by true true true h k l e =
        named_is x ws h ∙ ap (λ (q : List Word). name x ∷ q) (starts_is (codes "-") (drop 1 ws) k ∙ ap (λ (q : List Word). mark (codes "-") ∷ q)
        (drop-drop 1 1 ws ∙ (named_is y (drop 2 ws) l ∙ ap (λ (q : List Word). name y ∷ q) (drop-drop 1 2 ws))))
    by true true false h k l e = absurd (cc (e))
    by true false r h k l e = absurd (cc (e))
    by false q r h k l e = absurd (cc (e))

mode_from : {d : Mode} {a b c : List Word} → IsMode d a b → c ≡ a → IsMode d c b
mode_from {d = d} {b = b} r e = subst (λ (y : List Word). IsMode d y b) (sym e) r

mode_sound : (ws : List Word) → IsMode (mode ws).0 ws (mode ws).1
mode_sound ws = by (dashed (codes "all") (codes "traces") ws) (dashed (codes "exists") (codes "trace") ws) refl refl
  where
    by : (p q : Bool) → dashed (codes "all") (codes "traces") ws ≡ p → dashed (codes "exists") (codes "trace") ws ≡ q → IsMode (mode ws).0 ws (mode ws).1
    by true q e f = rw e (mode_from mode_all (dashed_is (codes "all") (codes "traces") ws e))
    by false true e f = rw (e, f) (mode_from mode_exists (dashed_is (codes "exists") (codes "trace") ws f))
    by false false e f = rw (e, f) mode_missing

-- all of the words between quotation marks
abbrev Between : Sig → Limits → List Word → Says Form
Between g m ws f b = (a : List Word) × (ws ≡ mark (codes "\"") ∷ a) × (b ≡ [] → IsQuoted g m f a)

-- all of the words
abbrev Whole : Sig → Limits → List Word → Says Statement
Whole g m ws s b = b ≡ [] → IsStatement g m s ws

module _ (laws : FormulaLaws) (g : Sig) (m : Limits) where
  quotation_sound : (ws : List Word) → OnRead (Between g m ws) (quotation g m ws)
  quotation_sound ws =
      let Q : Says Form = Between g m ws in
      let a : List Word = drop 1 ws in
      past_on Q (codes "\"") ws _ (λ e.
      let P : Says Form = λ f b. IsShortFormula g m f a b in
      after_on P Q (short_formula g m a) _ (on_all P (short_formula g m a) (λ f b r. laws.is g m f a b r)) (λ f z h.
      past_on Q (codes "\"") z _ (λ q.
      (a, e, λ none. subst (λ (y : List Word). IsShortFormula g m f a y) (q ∙ ap (λ (y : List Word). mark (codes "\"") ∷ y) none) h))))

  statement_from : {s : Statement} {a c : List Word} → IsStatement g m s a → c ≡ a → IsStatement g m s c
  statement_from {s = s} r e = subst (λ (y : List Word). IsStatement g m s y) (sym e) r

  restriction_sound : (ws : List Word) → OnRead (Whole g m (mark (codes "restriction") ∷ ws)) (a_restriction g m ws)
  restriction_sound ws =
      let Q : Says Statement = Whole g m (mark (codes "restriction") ∷ ws) in
      after_on (λ x b. ws ≡ name x ∷ b) Q (bare ws) _ (bare_sound ws) (λ x r e.
      past_on Q (codes ":") r _ (λ c.
      after_on (Between g m (drop 1 r)) Q (quotation g m (drop 1 r)) _ (quotation_sound (drop 1 r)) (λ f z h none.
      statement_from (is_restriction (h.2 none)) (ap (λ (y : List Word). mark (codes "restriction") ∷ y)
      (e ∙ ap (λ (y : List Word). name x ∷ y) (c ∙ ap (λ (y : List Word). mark (codes ":") ∷ y) h.1))))))

  lemma_sound : (ws : List Word) → OnRead (Whole g m (mark (codes "lemma") ∷ ws)) (a_lemma g m ws)
  lemma_sound ws =
      let Q : Says Statement = Whole g m (mark (codes "lemma") ∷ ws) in
      after_on (λ x b. ws ≡ name x ∷ b) Q (bare ws) _ (bare_sound ws) (λ x y e.
      after_on (λ xs b. HasAttributes xs y b) Q (attributes y) _ (has_sound y) (λ xs r h.
      past_on Q (codes ":") r _ (λ c.
      let b : List Word = drop 1 r in
      after_on (Between g m (mode b).1) Q (quotation g m (mode b).1) _ (quotation_sound (mode b).1) (λ f z k none.
      statement_from (is_lemma (subst (λ (q : List Word). HasAttributes xs y q) c h)
      (subst (λ (q : List Word). IsMode (mode b).0 b q) k.1 (mode_sound b)) (k.2 none)) (ap (λ (q : List Word). mark (codes "lemma") ∷ q) e)))))

  statement_sound : (ws : List Word) → OnRead (Whole g m ws) (statement g m ws)
  statement_sound ws =
      let Q : Says Statement = Whole g m ws in
      if_on Q (starts (codes "restriction") ws) _ _
      (λ e. subst (λ (y : List Word). OnRead (Whole g m y) (a_restriction g m (drop 1 ws))) (sym (starts_is (codes "restriction") ws e)) (restriction_sound (drop 1 ws)))
      (λ _. if_on Q (starts (codes "lemma") ws) _ _
      (λ e. subst (λ (y : List Word). OnRead (Whole g m y) (a_lemma g m (drop 1 ws))) (sym (starts_is (codes "lemma") ws e)) (lemma_sound (drop 1 ws)))
      (λ _. tt))

  pub statement_is : (s : Statement) (ws : List Word) → statement g m ws ≡ Some (s, []) → IsStatement g m s ws
  statement_is s ws e = on_read (Whole g m ws) s [] e (statement_sound ws) refl

  -- all of the words are one statement at most
  pub one_statement : (s t : Statement) (a : List Word) → IsStatement g m s a → IsStatement g m t a → s ≡ t
  one_statement s t a r k =
      let same : ◌≡◌ {A = Read Statement} (Some (s, [])) (Some (t, [])) = sym (statement_read laws g m r) ∙ statement_read laws g m k in
      let both : ◌≡◌ {A = Statement × List Word} (s, []) (t, []) = cc in
      ap (λ (x : Statement × List Word). x.0) both

  -- and some or none
  pub some_statement : (a : List Word) → ((s : Statement) × IsStatement g m s a) ⊎ ((s : Statement) → IsStatement g m s a → ⊥)
  some_statement a = by (statement g m a) refl
    where
      by : (o : Read Statement) → statement g m a ≡ o → ((s : Statement) × IsStatement g m s a) ⊎ ((s : Statement) → IsStatement g m s a → ⊥)
      by None e = inr (λ s r. let clash : ◌≡◌ {A = Read Statement} None (Some (s, [])) = sym e ∙ statement_read laws g m r in absurd (cc))
      by (Some (s, [])) e = inl (s, statement_is s a e)
      by (Some (s, w ∷ b)) e = inr (λ t r. let clash : ◌≡◌ {A = Read Statement} (Some (s, w ∷ b)) (Some (t, [])) = sym e ∙ statement_read laws g m r in
          let both : ◌≡◌ {A = Statement × List Word} (s, w ∷ b) (t, []) = cc in
          let rest : w ∷ b ≡ [] = ap (λ (x : Statement × List Word). x.1) both in
          absurd (cc))

-- what reading says of each signature
module _ (read : FormulaLaws) (spelled : AreSpelled) (g : Sig) (m : Limits) (ws : List Word) where
  nowhere : ((s : Statement) → IsStatement g m s ws → ⊥) → (h : Sig) (s : Statement) → IsStatement h m s ws → ⊥
  nowhere none h s r = let t = statement_too spelled h g m r in none t.0 t.1

  pub no_statement : statement g m ws ≡ None → (h : Sig) (s : Statement) → IsStatement h m s ws → ⊥
  no_statement e = nowhere (λ s r. let clash : ◌≡◌ {A = Read Statement} None (Some (s, [])) = sym e ∙ statement_read read g m r in absurd (cc))

  pub no_other_statement : (v : Statement) (b : List Word) → statement g m ws ≡ Some (v, b) → (b ≡ [] → ⊥) → (h : Sig) (s : Statement) → IsStatement h m s ws → ⊥
  no_other_statement v b e more =
      nowhere (λ s r.
      let same : ◌≡◌ {A = Read Statement} (Some (v, b)) (Some (s, [])) = sym e ∙ statement_read read g m r in
      let both : ◌≡◌ {A = Statement × List Word} (v, b) (s, []) = cc in
      more (ap (λ (x : Statement × List Word). x.1) both))
