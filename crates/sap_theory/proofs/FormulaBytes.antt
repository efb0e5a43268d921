-- The bytes that are printed of a formula are the words that are printed.
use Rattle.std.proofs.Common.{◌≡◌, ◌≤◌, ℕ, Bool, true, false, List, [], ◌∷◌, ◌++◌, append_assoc, length, refl, sym, ap, subst, ◌∙◌, arith}
use Rattle.std.specs.Prelude.{codes, nat_lt}
use Rattle.sap_text.specs.declared.token.Kind.TheVariants as kind
use Rattle.sap_text.specs.Tokens.{IsToken, ident}
use Rattle.sap_terms.specs.declared.var.Var.{Var}
use Rattle.sap_terms.specs.Tree.{variable}
use Rattle.sap_formula.specs.Form.{Form, truth, falsity, action, equal, same_time, earlier, negation, both, either, implies, equivalent, every, exists}
use Rattle.sap_formula.specs.declared.binder.Binder.{Binder}
use Rattle.sap_formula.specs.declared.binder.Binder.TheVariants.{Message, Time}
use Rattle.sap_grammar.specs.Words.{Word, mark, name, is_grammar_word}
use Rattle.sap_grammar.specs.TermText.{variable_text, tree_text}
use Rattle.sap_grammar.specs.FactText.{fact_text}
use Rattle.sap_grammar.specs.ByteWords.{AreWords, IsName, Ends, AreWritten}
use Rattle.sap_grammar.specs.Printed.{ArePrinted}
use Rattle.sap_grammar.specs.PrintedWords.{Before, variable_words, term_words, fact_words}
use Rattle.sap_statements.specs.Printable.{BinderHasName, BindersHaveNames, FormHasNames}
use Rattle.sap_formula_text.specs.FormulaText.{strength, in_place, binder_text, binders_text, places_text, formula_text}
use Rattle.sap_theory.proofs.FormulaWords.{binder_words, binders_words, placed_words, form_words}
use Rattle.sap_theory.proofs.Added.{add_name, add_word, add_symbol, add_blank}
use Rattle.sap_theory.proofs.Alone.{alone_open, alone_close, alone_dot, alone_at, alone_hash, alone_less, alone_equals, alone_bar, alone_and, arrow_implies, arrow_both}

module _ (printed : ArePrinted) (most : ℕ) (written : AreWritten most) where
  -- this text is these words, before other text and words
  abbrev pub Writes : List ℕ → Before → Type 0
  Writes text words = (z : List ℕ) (k : List Word) → Ends z → AreWords most z k → AreWords most (text ++ z) (words k)

  open_mark : (z : List ℕ) (k : List Word) → AreWords most z k → AreWords most (40 ∷ z) (mark (codes "(") ∷ k)
  open_mark z k r = add_symbol most written 40 [] z k (alone_open z) r

  close_mark : (z : List ℕ) (k : List Word) → AreWords most z k → AreWords most (41 ∷ z) (mark (codes ")") ∷ k)
  close_mark z k r = add_symbol most written 41 [] z k (alone_close z) r

  variable_writes : (v : Var) → IsName most v.name → Writes (variable_text v) (variable_words v.sort v.name)
  variable_writes v h z k e r = printed.term_bytes most (variable v) h z k e r

  time_writes : (i z : List ℕ) (k : List Word) → IsName most i → Ends z → AreWords most z k → AreWords most (35 ∷ (i ++ z)) (mark (codes "#") ∷ name i ∷ k)
  time_writes i z k h e r = add_symbol most written 35 [] (i ++ z) (name i ∷ k) (alone_hash (i ++ z)) (add_name most written i z k h e r)

  binder_writes : (b : Binder) → BinderHasName most b → Writes (binder_text b) (binder_words b)
  binder_writes (Message v) h = variable_writes v h
  binder_writes (Time i) h = λ z k e r. time_writes i z k h e r

  binders_end : (bs : List Binder) (z : List ℕ) → Ends z → Ends (binders_text bs ++ z)
  binders_end [] z e = e
  binders_end (b ∷ bs) z e = refl

  binders_write : (bs : List Binder) → BindersHaveNames most bs → Writes (binders_text bs) (binders_words bs)
  binders_write [] h = λ z k e r. r
  binders_write (b ∷ bs) h = λ z k e r.
      subst (λ (x : List ℕ). AreWords most x (binder_words b (binders_words bs k))) (sym (append_assoc (codes " " ++ binder_text b) (binders_text bs) z))
      (add_blank most written _ _ (binder_writes b h.0 (binders_text bs ++ z) (binders_words bs k) (binders_end bs z e) (binders_write bs h.1 z k e r)))

  -- in parentheses where its place asks for more strength than it has
  in_place_writes : (asked : ℕ) (f : Form) (text : List ℕ) (words : Before) → Writes text words → Writes (in_place asked f text) (placed_words asked f words)
  in_place_writes asked f text words w z k ends r = by_strength (nat_lt (strength f) asked) refl
    where
      by_strength : (c : Bool) → nat_lt (strength f) asked ≡ c → AreWords most (in_place asked f text ++ z) (placed_words asked f words k)
      by_strength true e =
          rw e (subst (λ (x : List ℕ). AreWords most (40 ∷ x) (mark (codes "(") ∷ words (mark (codes ")") ∷ k))) (sym (append_assoc text (codes ")") z))
          (open_mark _ _ (w (41 ∷ z) (mark (codes ")") ∷ k) refl (close_mark z k r))))
      by_strength false e = rw e (w z k ends r)

  -- two texts with a connective between them
  joined_writes : (left sign right : List ℕ) (words others : Before) (m : List ℕ) → Writes left words → Writes right others
      → ((z : List ℕ) (k : List Word) → AreWords most z k → AreWords most (sign ++ (32 ∷ z)) (mark m ∷ k))
      → Writes (left ++ ((32 ∷ (sign ++ codes " ")) ++ right)) (λ k. words (mark m ∷ others k))
  joined_writes left sign right words others m w v s z k e r =
      let inside : (sign ++ codes " ") ++ (right ++ z) ≡ sign ++ (32 ∷ (right ++ z)) = append_assoc sign (codes " ") (right ++ z) in
      let all : (left ++ ((32 ∷ (sign ++ codes " ")) ++ right)) ++ z ≡ left ++ (32 ∷ (sign ++ (32 ∷ (right ++ z)))) =
      append_assoc left ((32 ∷ (sign ++ codes " ")) ++ right) z ∙ ap (λ (x : List ℕ). left ++ (32 ∷ x)) (append_assoc (sign ++ codes " ") right z ∙ inside) in
      subst (λ (x : List ℕ). AreWords most x (words (mark m ∷ others k))) (sym all)
      (w (32 ∷ (sign ++ (32 ∷ (right ++ z)))) (mark m ∷ others k) refl (add_blank most written _ _ (s (right ++ z) (others k) (v z k e r))))

  and_sign : (z : List ℕ) (k : List Word) → AreWords most z k → AreWords most (38 ∷ 32 ∷ z) (mark (codes "&") ∷ k)
  and_sign z k r = add_symbol most written 38 [] (32 ∷ z) k (alone_and z) (add_blank most written z k r)

  or_sign : (z : List ℕ) (k : List Word) → AreWords most z k → AreWords most (124 ∷ 32 ∷ z) (mark (codes "|") ∷ k)
  or_sign z k r = add_symbol most written 124 [] (32 ∷ z) k (alone_bar z) (add_blank most written z k r)

  imp_sign : (z : List ℕ) (k : List Word) → AreWords most z k → AreWords most (codes "==>" ++ (32 ∷ z)) (mark (codes "==>") ∷ k)
  imp_sign z k r = add_symbol most written 61 (61 ∷ 62 ∷ []) (32 ∷ z) k (arrow_implies (32 ∷ z)) (add_blank most written z k r)

  iff_sign : (z : List ℕ) (k : List Word) → AreWords most z k → AreWords most (codes "<=>" ++ (32 ∷ z)) (mark (codes "<=>") ∷ k)
  iff_sign z k r = add_symbol most written 60 (61 ∷ 62 ∷ []) (32 ∷ z) k (arrow_both (32 ∷ z)) (add_blank most written z k r)

  equals_sign : (z : List ℕ) (k : List Word) → AreWords most z k → AreWords most (61 ∷ 32 ∷ z) (mark (codes "=") ∷ k)
  equals_sign z k r = add_symbol most written 61 [] (32 ∷ z) k (alone_equals z) (add_blank most written z k r)

  less_sign : (z : List ℕ) (k : List Word) → AreWords most z k → AreWords most (60 ∷ 32 ∷ z) (mark (codes "<") ∷ k)
  less_sign z k r = add_symbol most written 60 [] (32 ∷ z) k (alone_less z) (add_blank most written z k r)

  quantifier_writes : (word : List ℕ) (bs : List Binder) (text : List ℕ) (words : Before) → ((z : List ℕ) (k : List Word) → Ends z → AreWords most z k → AreWords most (word ++ z) (mark word ∷ k))
      → BindersHaveNames most bs → Writes text words → Writes (word ++ (binders_text bs ++ (codes ". " ++ text))) (λ k. mark word ∷ binders_words bs (mark (codes ".") ∷ words k))
  quantifier_writes word bs text words w h v z k e r =
      let all : (word ++ (binders_text bs ++ (codes ". " ++ text))) ++ z ≡ word ++ (binders_text bs ++ (46 ∷ 32 ∷ (text ++ z))) =
      append_assoc word (binders_text bs ++ (codes ". " ++ text)) z ∙ ap (λ (x : List ℕ). word ++ x) (append_assoc (binders_text bs) (codes ". " ++ text) z) in
      subst (λ (x : List ℕ). AreWords most x (mark word ∷ binders_words bs (mark (codes ".") ∷ words k))) (sym all)
      (w _ _ (binders_end bs (46 ∷ 32 ∷ (text ++ z)) refl)
      (binders_write bs h (46 ∷ 32 ∷ (text ++ z)) (mark (codes ".") ∷ words k) refl
      (add_symbol most written 46 [] (32 ∷ (text ++ z)) (words k) (alone_dot (32 ∷ (text ++ z))) (add_blank most written _ _ (v z k e r)))))

  module _ (three : 3 ≤ most) where
    all_word : (z : List ℕ) (k : List Word) → Ends z → AreWords most z k → AreWords most (codes "All" ++ z) (mark (codes "All") ∷ k)
    all_word z k e r = add_word most written (codes "All") z k (ident refl refl) refl (omega (arith, three)) e r

    ex_word : (z : List ℕ) (k : List Word) → Ends z → AreWords most z k → AreWords most (codes "Ex" ++ z) (mark (codes "Ex") ∷ k)
    ex_word z k e r = add_word most written (codes "Ex") z k (ident refl refl) refl (omega (arith, three)) e r

    truth_name : (x : List ℕ) → IsToken kind.Ident x → is_grammar_word x ≡ false → length x ≤ 1 → IsName most x
    truth_name x t e le = record { is = t; no_grammar_word = e; short = omega (arith, le, three) }

    pub formula_writes : (f : Form) → FormHasNames most f → (asked : ℕ) → Writes (formula_text asked f) (form_words asked f)
    formula_writes truth h asked = in_place_writes asked truth (codes "T") _ (λ z k e r. add_name most written (codes "T") z k (truth_name (codes "T") (ident refl refl) refl (omega arith)) e r)
    formula_writes falsity h asked = in_place_writes asked falsity (codes "F") _ (λ z k e r. add_name most written (codes "F") z k (truth_name (codes "F") (ident refl refl) refl (omega arith)) e r)
    formula_writes (action f i) h asked = in_place_writes asked (action f i) _ _ (λ z k e r.
        subst (λ (x : List ℕ). AreWords most x (fact_words f (mark (codes "@") ∷ name i ∷ k))) (sym (append_assoc (fact_text f) (codes "@" ++ i) z))
        (printed.fact_bytes most f h.0 _ _ (add_symbol most written 64 [] (i ++ z) (name i ∷ k) (alone_at (i ++ z)) (add_name most written i z k h.1 e r))))
    formula_writes (equal t u) h asked =
        in_place_writes asked (equal t u) _ _ (joined_writes (tree_text t) (codes "=") (tree_text u) (term_words false t) (term_words false u) (codes "=") (printed.term_bytes most t h.0) (printed.term_bytes most u h.1) equals_sign)
    formula_writes (same_time i j) h asked = in_place_writes asked (same_time i j) (places_text i (codes " = ") j) _
        (joined_writes (codes "#" ++ i) (codes "=") (codes "#" ++ j) (λ k. mark (codes "#") ∷ name i ∷ k) (λ k. mark (codes "#") ∷ name j ∷ k) (codes "=") (λ z k e r. time_writes i z k h.0 e r) (λ z k e r. time_writes j z k h.1 e r) equals_sign)
    formula_writes (earlier i j) h asked = in_place_writes asked (earlier i j) (places_text i (codes " < ") j) _
        (joined_writes (codes "#" ++ i) (codes "<") (codes "#" ++ j) (λ k. mark (codes "#") ∷ name i ∷ k) (λ k. mark (codes "#") ∷ name j ∷ k) (codes "<") (λ z k e r. time_writes i z k h.0 e r) (λ z k e r. time_writes j z k h.1 e r) less_sign)
    formula_writes (negation f) h asked = in_place_writes asked (negation f) (codes "not " ++ formula_text 6 f) _ (λ z k e r.
        add_word most written (codes "not") (32 ∷ (formula_text 6 f ++ z)) _ (ident refl refl) refl (omega (arith, three)) refl (add_blank most written _ _ (formula_writes f h 6 z k e r)))
    formula_writes (both f g) h asked =
        in_place_writes asked (both f g) _ _ (joined_writes (formula_text 4 f) (codes "&") (formula_text 5 g) (form_words 4 f) (form_words 5 g) (codes "&") (formula_writes f h.0 4) (formula_writes g h.1 5) and_sign)
    formula_writes (either f g) h asked =
        in_place_writes asked (either f g) _ _ (joined_writes (formula_text 3 f) (codes "|") (formula_text 4 g) (form_words 3 f) (form_words 4 g) (codes "|") (formula_writes f h.0 3) (formula_writes g h.1 4) or_sign)
    formula_writes (implies f g) h asked =
        in_place_writes asked (implies f g) _ _ (joined_writes (formula_text 3 f) (codes "==>") (formula_text 2 g) (form_words 3 f) (form_words 2 g) (codes "==>") (formula_writes f h.0 3) (formula_writes g h.1 2) imp_sign)
    formula_writes (equivalent f g) h asked =
        in_place_writes asked (equivalent f g) _ _ (joined_writes (formula_text 2 f) (codes "<=>") (formula_text 2 g) (form_words 2 f) (form_words 2 g) (codes "<=>") (formula_writes f h.0 2) (formula_writes g h.1 2) iff_sign)
    formula_writes (every bs f) h asked =
        in_place_writes asked (every bs f) (codes "All" ++ (binders_text bs ++ (codes ". " ++ formula_text 0 f))) _ (quantifier_writes (codes "All") bs (formula_text 0 f) (form_words 0 f) all_word h.0 (formula_writes f h.1 0))
    formula_writes (exists bs f) h asked =
        in_place_writes asked (exists bs f) (codes "Ex" ++ (binders_text bs ++ (codes ". " ++ formula_text 0 f))) _ (quantifier_writes (codes "Ex") bs (formula_text 0 f) (form_words 0 f) ex_word h.0 (formula_writes f h.1 0))
