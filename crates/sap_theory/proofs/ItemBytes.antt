-- The bytes of a printed theory are the words of its items.
use Rattle.std.proofs.Common.{◌≡◌, ◌≤◌, ◌<◌, ◌+◌, ◌/◌, ◌%◌, ℕ, Bool, true, false, List, [], ◌∷◌, ◌++◌, append_assoc, length, refl, sym, ap, subst, ◌∙◌, arith, rules}
use Rattle.std.specs.Prelude.{codes, decimal, if◌then◌else◌, map, nat_lt}
use Rattle.std.specs.List.{list_all}
use Rattle.std.specs.Char.{is_ascii_digit}
use Rattle.std.proofs.lemmas.Fmt.{decimal_digit, decimal_step}
use Rattle.sap_text.specs.declared.token.Kind.TheVariants as kind
use Rattle.sap_text.specs.Tokens.{IsToken, ident, number}
use Rattle.sap_terms.specs.declared.fact.Fact.{Fact}
use Rattle.sap_terms.specs.declared.signature.Symbol.{Symbol}
use Rattle.sap_terms.specs.declared.signature.Builtin.{Builtin}
use Rattle.sap_terms.specs.declared.signature.Builtin.TheVariants.{Hashing, Symmetric, Asymmetric, Signing, RevealingSigning}
use Rattle.sap_formula.specs.Form.{Form, RestrictionForm, LemmaForm}
use Rattle.sap_formula.specs.declared.lemma.Mode.{Mode}
use Rattle.sap_formula.specs.declared.lemma.Mode.TheVariants.{AllTraces, ExistsTrace}
use Rattle.sap_rule.specs.declared.rule.Rule.{Rule}
use Rattle.sap_rule.specs.declared.theory.Theory.{Theory}
use Rattle.sap_grammar.specs.Words as word
use Rattle.sap_grammar.specs.Words.{Word, mark, name, is_grammar_word}
use Rattle.sap_grammar.specs.Declarations.{value}
use Rattle.sap_grammar.specs.Pieces.{joined}
use Rattle.sap_grammar.specs.FactText.{fact_text, fact_list, facts_text, arrow_text}
use Rattle.sap_grammar.specs.ByteWords.{AreWords, words_end, IsName, Ends, AreWritten}
use Rattle.sap_grammar.specs.Printable.{FactHasNames}
use Rattle.sap_grammar.specs.Printed.{ArePrinted}
use Rattle.sap_grammar.specs.PrintedWords.{Before, fact_words}
use Rattle.sap_statements.specs.Statements.{IsAttribute, is_reuse, is_use_induction, is_sources}
use Rattle.sap_statements.specs.Printable.{FormHasNames}
use Rattle.sap_theory.specs.Pieces.{line_of}
use Rattle.sap_theory.specs.RuleText.{rule_text, rules_text}
use Rattle.sap_formula_text.specs.FormulaText.{formula_text}
use Rattle.sap_theory.specs.StatementText.{quoted, restriction_text, restrictions_text, attributes_text, mode_text, lemma_text, lemmas_text}
use Rattle.sap_theory.specs.SignatureText.{spelling, builtins_of, functions_of, symbol_text, builtins_text, functions_text}
use Rattle.sap_theory.specs.TheoryText.{items_text, theory_text}
use Rattle.sap_theory.specs.TheoryGrammar.{TheoryItem, builtins, functions, rule}
use Rattle.sap_theory.proofs.Added.{add_name, add_word, add_symbol, add_blank, add_feed}
use Rattle.sap_theory.proofs.Alone.{Alone, alone_comma, alone_quotation, alone_colon, alone_square, square_blank, square_feed, square_comma, square_colon, hyphen_e, hyphen_s, hyphen_t, slash_number, arrow_silent, arrow_opens, arrow_closes}
use Rattle.sap_theory.proofs.FormulaWords.{form_words}
use Rattle.sap_theory.proofs.FormulaBytes.{formula_writes}
use Rattle.sap_theory.proofs.ItemWords.{further_facts, facts_words, arrow_words, builtin_words, symbol_words, further, further_names, attributes_words, mode_words, quoted_words, item_words, items_words, item_of, as_restriction, as_lemma, printed_items}
use Rattle.sap_theory.proofs.PrintedItems.{AreAllAttributes}

-- an arity is written so that it is read back
pub record IsArity (n : ℕ) : Type 0 where
  pub is : IsToken kind.Number (decimal n)
  pub reads : value (decimal n) ≡ n
  pub short : length (decimal n) ≤ 2

pub arity_text : (n : ℕ) → n ≤ 64 → IsArity n
arity_text n le = by_size (nat_lt n 10) refl
  where
    less : (m n : ℕ) → nat_lt m n ≡ true → m < n
    less m n e = search rules

    not_less : (m n : ℕ) → nat_lt m n ≡ false → n ≤ m
    not_less m n e = search rules

    digit : (d : ℕ) → d < 10 → is_ascii_digit (48 + d) ≡ true
    digit d lt = grind arith

    both : (a b : Bool) → a ≡ true → b ≡ true → list_all (λ (x : Bool). x) (a ∷ b ∷ []) ≡ true
    both a b e f = rw (e, f) refl

    one : (a : ℕ) → is_ascii_digit a ≡ true → list_all is_ascii_digit (a ∷ []) ≡ true
    one a e = rw e refl

    by_size : (c : Bool) → nat_lt n 10 ≡ c → IsArity n
    by_size true e =
        let text : decimal n ≡ (48 + n) ∷ [] = decimal_digit n (less n 10 e) in
        record {
          is = subst (λ (x : List ℕ). IsToken kind.Number x) (sym text) (number (digit n (less n 10 e)) refl);
          reads = ap value text ∙ omega arith;
          short = subst (λ (x : List ℕ). length x ≤ 2) (sym text) (omega arith);
        }
    by_size false e =
        let high : n / 10 < 10 = omega (arith, le) in
        let low : n % 10 < 10 = omega arith in
        let step : decimal n ≡ decimal (n / 10) ++ (48 + n % 10) ∷ [] = decimal_step n (not_less n 10 e) (omega (arith, le)) in
        let text : decimal n ≡ (48 + n / 10) ∷ (48 + n % 10) ∷ [] = step ∙ ap (λ (x : List ℕ). x ++ (48 + n % 10) ∷ []) (decimal_digit (n / 10) high) in
        record {
          is = subst (λ (x : List ℕ). IsToken kind.Number x) (sym text) (number (digit (n / 10) high) (one (48 + n % 10) (digit (n % 10) low)));
          reads = ap value text ∙ omega arith;
          short = subst (λ (x : List ℕ). length x ≤ 2) (sym text) (omega arith);
        }

-- Names.
abbrev pub Each : {A : Type 0} → (A → Type 0) → List A → Type 0
Each P [] = Unit {0}
Each P (x ∷ xs) = P x × Each P xs

abbrev pub RuleHasNames : ℕ → Rule → Type 0
RuleHasNames most r = IsName most r.name × Each (FactHasNames most) r.left × Each (FactHasNames most) r.acts × Each (FactHasNames most) r.right

abbrev pub RestrictionHasNames : ℕ → RestrictionForm → Type 0
RestrictionHasNames most r = IsName most r.name × FormHasNames most r.formula

abbrev pub LemmaHasNames : ℕ → LemmaForm → Type 0
LemmaHasNames most l = IsName most l.name × AreAllAttributes l.attributes × FormHasNames most l.formula

-- a symbol's name, and an arity that is read back
abbrev pub SymbolHasName : ℕ → Symbol → Type 0
SymbolHasName most s = IsName most s.name × IsArity s.arity

-- what is written as a name in a theory is one
pub record TheoryHasNames (most : ℕ) (t : Theory) : Type 0 where
  pub name : IsName most t.name
  pub symbols : Each (SymbolHasName most) (functions_of t.signature)
  pub rules : Each (RuleHasNames most) t.rules
  pub restrictions : Each (RestrictionHasNames most) t.restrictions
  pub lemmas : Each (LemmaHasNames most) t.lemmas

module _ (printed : ArePrinted) (most : ℕ) (written : AreWritten most) where
  -- this text is these words, before any text and its words
  pub record Puts (text : List ℕ) (words : Before) : Type 0 where
    pub put : (z : List ℕ) (k : List Word) → AreWords most z k → AreWords most (text ++ z) (words k)

  -- no name goes on into this text
  abbrev Parts : List ℕ → Type 0
  Parts text = (z : List ℕ) → Ends (text ++ z)

  blank_puts : {b : List ℕ} {w : Before} → Puts b w → Puts (32 ∷ b) w
  blank_puts p = record { put = λ z k r. add_blank most written _ _ (p.put z k r) }

  feed_puts : {b : List ℕ} {w : Before} → Puts b w → Puts (10 ∷ b) w
  feed_puts p = record { put = λ z k r. add_feed most written _ _ (p.put z k r) }

  nothing_puts : Puts [] (λ k. k)
  nothing_puts = record { put = λ z k r. r }

  mark_puts : (c : ℕ) (b : List ℕ) {w : Before} → ((z : List ℕ) → Alone c (b ++ z)) → Puts b w → Puts (c ∷ b) (λ k. mark (c ∷ []) ∷ w k)
  mark_puts c b a p = record { put = λ z k r. add_symbol most written c [] (b ++ z) _ (a z) (p.put z k r) }

  name_puts : (x b : List ℕ) {w : Before} → IsName most x → Parts b → Puts b w → Puts (x ++ b) (λ k. name x ∷ w k)
  name_puts x b {w = w} h e p = record {
    put = λ z k r.
        subst (λ (y : List ℕ). AreWords most y (name x ∷ w k)) (sym (append_assoc x b z)) (add_name most written x (b ++ z) (w k) h (e z) (p.put z k r));
  }

  word_puts : (x b : List ℕ) {w : Before} → IsToken kind.Ident x → is_grammar_word x ≡ true → length x ≤ most → Parts b → Puts b w → Puts (x ++ b) (λ k. mark x ∷ w k)
  word_puts x b {w = w} t g le e p = record {
    put = λ z k r.
        subst (λ (y : List ℕ). AreWords most y (mark x ∷ w k)) (sym (append_assoc x b z)) (add_word most written x (b ++ z) (w k) t g le (e z) (p.put z k r));
  }

  number_puts : (p b : List ℕ) {w : Before} → IsToken kind.Number p → length p ≤ most → Parts b → Puts b w → Puts (p ++ b) (λ k. word.number p ∷ w k)
  number_puts p b {w = w} t le e q = record {
    put = λ z k r.
        subst (λ (y : List ℕ). AreWords most y (word.number p ∷ w k)) (sym (append_assoc p b z))
        (written.numbers p (b ++ z) (w k) t le (e z) (q.put z k r));
  }

  -- a text of which the words are known, and one behind it
  then_puts : (a b : List ℕ) {v w : Before} → Puts a v → Puts b w → Puts (a ++ b) (λ k. v (w k))
  then_puts a b {v = v} {w = w} p q = record { put = λ z k r. subst (λ (y : List ℕ). AreWords most y (v (w k))) (sym (append_assoc a b z)) (p.put (b ++ z) (w k) (q.put z k r)) }

  -- Facts.
  list_puts : (fs : List Fact) → Each (FactHasNames most) fs → (f : Fact) → FactHasNames most f → Puts (joined (codes ", ") (map fact_text (f ∷ fs))) (λ k. fact_words f (further_facts fs k))
  list_puts [] hs f h = record { put = λ z k r. printed.fact_bytes most f h z k r }
  list_puts (e ∷ fs) hs f h =
      then_puts (fact_text f) (44 ∷ 32 ∷ joined (codes ", ") (map fact_text (e ∷ fs))) (record { put = λ z k r. printed.fact_bytes most f h z k r })
      (mark_puts 44 (32 ∷ joined (codes ", ") (map fact_text (e ∷ fs))) (λ z. alone_comma _) (blank_puts (list_puts fs hs.1 e hs.0)))

  side_puts : (fs : List Fact) → Each (FactHasNames most) fs → (b : List ℕ) {w : Before} → ((z : List ℕ) → Alone 93 (b ++ z)) → Puts b w
      → Puts (facts_text fs ++ b) (λ k. mark (codes "[") ∷ facts_words (codes "]") fs (w k))
  side_puts [] h b a p = mark_puts 91 (32 ∷ 93 ∷ b) (λ z. alone_square _) (blank_puts (mark_puts 93 b a p))
  side_puts (f ∷ fs) h b {w = w} a p =
      let inner : (fact_list (f ∷ fs) ++ codes " ]") ++ b ≡ fact_list (f ∷ fs) ++ (32 ∷ 93 ∷ b) = append_assoc (fact_list (f ∷ fs)) (codes " ]") b in
      subst (λ (y : List ℕ). Puts (91 ∷ 32 ∷ y) (λ k. mark (codes "[") ∷ facts_words (codes "]") (f ∷ fs) (w k))) (sym inner)
      (mark_puts 91 (32 ∷ (fact_list (f ∷ fs) ++ (32 ∷ 93 ∷ b))) (λ z. alone_square _)
      (blank_puts (then_puts (fact_list (f ∷ fs)) (32 ∷ 93 ∷ b) (list_puts fs h.1 f h.0) (blank_puts (mark_puts 93 b a p)))))

  arrow_puts : (fs : List Fact) → Each (FactHasNames most) fs → (b : List ℕ) {w : Before} → Puts b w → Puts (arrow_text fs ++ b) (λ k. arrow_words fs (w k))
  arrow_puts [] h b p = blank_puts (record { put = λ z k r. add_symbol most written 45 (45 ∷ 62 ∷ []) (32 ∷ (b ++ z)) _ (arrow_silent _) (add_blank most written _ _ (p.put z k r)) })
  arrow_puts (f ∷ fs) h b {w = w} p =
      let inner : (fact_list (f ∷ fs) ++ codes " ]-> ") ++ b ≡ fact_list (f ∷ fs) ++ (codes " ]-> " ++ b) = append_assoc (fact_list (f ∷ fs)) (codes " ]-> ") b in
      let closing : Puts (codes "]-> " ++ b) (λ k. mark (codes "]->") ∷ w k) =
      record { put = λ z k r. add_symbol most written 93 (45 ∷ 62 ∷ []) (32 ∷ (b ++ z)) (w k) (arrow_closes _) (add_blank most written _ _ (p.put z k r)) } in
      let content : Puts (fact_list (f ∷ fs) ++ (codes " ]-> " ++ b)) (λ k. facts_words (codes "]->") (f ∷ fs) (w k)) =
      then_puts (fact_list (f ∷ fs)) (codes " ]-> " ++ b) (list_puts fs h.1 f h.0) (blank_puts closing) in
      subst (λ (y : List ℕ). Puts (codes " --[ " ++ y) (λ k. arrow_words (f ∷ fs) (w k))) (sym inner)
      (blank_puts (record { put = λ z k r. add_symbol most written 45 (45 ∷ 91 ∷ []) (32 ∷ ((fact_list (f ∷ fs) ++ (codes " ]-> " ++ b)) ++ z)) _ (arrow_opens _) (add_blank most written _ _ (content.put z k r)) }))

  -- Items.
  module _ (room : 13 ≤ most) where
    small : {n : ℕ} → n ≤ 13 → n ≤ most
    small le = omega (arith, le, room)

    arrow_parts : (fs : List Fact) (b z : List ℕ) → Alone 93 ((arrow_text fs ++ b) ++ z)
    arrow_parts [] b z = square_blank _
    arrow_parts (f ∷ fs) b z = square_blank _

    rule_puts : (r : Rule) → RuleHasNames most r → Puts (rule_text r) (item_words (rule r))
    rule_puts r h =
        feed_puts (word_puts (codes "rule") (32 ∷ (r.name ++ (codes ":\n  " ++ (facts_text r.left ++ (arrow_text r.acts ++ (facts_text r.right ++ codes "\n"))))))
        (ident refl refl) refl (small (omega arith)) (λ z. refl)
        (blank_puts (name_puts r.name (codes ":\n  " ++ (facts_text r.left ++ (arrow_text r.acts ++ (facts_text r.right ++ codes "\n")))) h.0 (λ z. refl)
        (mark_puts 58 (codes "\n  " ++ (facts_text r.left ++ (arrow_text r.acts ++ (facts_text r.right ++ codes "\n")))) (λ z. alone_colon _)
        (feed_puts (blank_puts (blank_puts
        (side_puts r.left h.1 (arrow_text r.acts ++ (facts_text r.right ++ codes "\n")) (arrow_parts r.acts (facts_text r.right ++ codes "\n"))
        (arrow_puts r.acts h.2 (facts_text r.right ++ codes "\n")
        (side_puts r.right h.3 (codes "\n") (λ z. square_feed z) (feed_puts nothing_puts)))))))))))

    quoted_puts : (f : Form) → FormHasNames most f → Puts (quoted f) (quoted_words f)
    quoted_puts f h =
        blank_puts (blank_puts (mark_puts 34 (formula_text 0 f ++ codes "\"\n") (λ z. alone_quotation _) (record {
          put = λ z k r.
              subst (λ (y : List ℕ). AreWords most y (form_words 0 f (mark (codes "\"") ∷ k))) (sym (append_assoc (formula_text 0 f) (codes "\"\n") z))
              (formula_writes printed most written (small (omega arith)) f h 0 (34 ∷ 10 ∷ z) (mark (codes "\"") ∷ k) refl
              (add_symbol most written 34 [] (10 ∷ z) k (alone_quotation _) (add_feed most written _ _ r)));
        })))

    restriction_puts : (r : RestrictionForm) → RestrictionHasNames most r → Puts (restriction_text r) (item_words (as_restriction r))
    restriction_puts r h =
        feed_puts (word_puts (codes "restriction") (32 ∷ (r.name ++ (codes ":\n" ++ quoted r.formula))) (ident refl refl) refl (small (omega arith)) (λ z. refl)
        (blank_puts (name_puts r.name (codes ":\n" ++ quoted r.formula) h.0 (λ z. refl)
        (mark_puts 58 (codes "\n" ++ quoted r.formula) (λ z. alone_colon _) (feed_puts (quoted_puts r.formula h.1))))))

    attribute_name : {x : List ℕ} → IsAttribute x → IsName most x
    attribute_name is_reuse = record { is = ident refl refl; no_grammar_word = refl; short = small (omega arith) }
    attribute_name is_use_induction = record { is = ident refl refl; no_grammar_word = refl; short = small (omega arith) }
    attribute_name is_sources = record { is = ident refl refl; no_grammar_word = refl; short = small (omega arith) }

    names_puts : (x : List ℕ) (xs : List (List ℕ)) → IsAttribute x → AreAllAttributes xs → (b : List ℕ) {w : Before} → ((z : List ℕ) → Alone 93 (b ++ z)) → Puts b w
        → Puts (joined (codes ", ") (x ∷ xs) ++ (93 ∷ b)) (λ k. name x ∷ further_names xs (w k))
    names_puts x [] i is b a p = name_puts x (93 ∷ b) (attribute_name i) (λ z. refl) (mark_puts 93 b a p)
    names_puts x (y ∷ xs) i is b {w = w} a p =
        let inner : joined (codes ", ") (x ∷ y ∷ xs) ++ (93 ∷ b) ≡ x ++ (44 ∷ 32 ∷ (joined (codes ", ") (y ∷ xs) ++ (93 ∷ b))) =
        append_assoc x (44 ∷ 32 ∷ joined (codes ", ") (y ∷ xs)) (93 ∷ b) in
        subst (λ (t : List ℕ). Puts t (λ k. name x ∷ further_names (y ∷ xs) (w k))) (sym inner)
        (name_puts x (44 ∷ 32 ∷ (joined (codes ", ") (y ∷ xs) ++ (93 ∷ b))) (attribute_name i) (λ z. refl)
        (mark_puts 44 (32 ∷ (joined (codes ", ") (y ∷ xs) ++ (93 ∷ b))) (λ z. alone_comma _) (blank_puts (names_puts y xs is.0 is.1 b a p))))

    attributes_puts : (xs : List (List ℕ)) → AreAllAttributes xs → (b : List ℕ) {w : Before} → ((z : List ℕ) → Alone 93 (b ++ z)) → Puts b w
        → Puts (attributes_text xs ++ b) (λ k. attributes_words xs (w k))
    attributes_puts [] is b a p = p
    attributes_puts (x ∷ xs) is b {w = w} a p =
        let inner : (joined (codes ", ") (x ∷ xs) ++ codes "]") ++ b ≡ joined (codes ", ") (x ∷ xs) ++ (93 ∷ b) = append_assoc (joined (codes ", ") (x ∷ xs)) (codes "]") b in
        subst (λ (t : List ℕ). Puts (32 ∷ 91 ∷ t) (λ k. attributes_words (x ∷ xs) (w k))) (sym inner)
        (blank_puts (mark_puts 91 (joined (codes ", ") (x ∷ xs) ++ (93 ∷ b)) (λ z. alone_square _) (names_puts x xs is.0 is.1 b a p)))

    attributes_parts : (xs : List (List ℕ)) (b : List ℕ) → Parts b → Parts (attributes_text xs ++ b)
    attributes_parts [] b e = e
    attributes_parts (x ∷ xs) b e = λ z. refl

    plain_name : (x : List ℕ) → IsToken kind.Ident x → is_grammar_word x ≡ false → length x ≤ 13 → IsName most x
    plain_name x t e le = record { is = t; no_grammar_word = e; short = small le }

    mode_puts : (m : Mode) (b : List ℕ) {w : Before} → Parts b → Puts b w → Puts (mode_text m ++ b) (λ k. mode_words m (w k))
    mode_puts AllTraces b e p =
        name_puts (codes "all") (codes "-traces" ++ b) (plain_name (codes "all") (ident refl refl) refl (omega arith)) (λ z. refl)
        (mark_puts 45 (codes "traces" ++ b) (λ z. hyphen_t _) (name_puts (codes "traces") b (plain_name (codes "traces") (ident refl refl) refl (omega arith)) e p))
    mode_puts ExistsTrace b e p =
        name_puts (codes "exists") (codes "-trace" ++ b) (plain_name (codes "exists") (ident refl refl) refl (omega arith)) (λ z. refl)
        (mark_puts 45 (codes "trace" ++ b) (λ z. hyphen_t _) (name_puts (codes "trace") b (plain_name (codes "trace") (ident refl refl) refl (omega arith)) e p))

    lemma_puts : (l : LemmaForm) → LemmaHasNames most l → Puts (lemma_text l) (item_words (as_lemma l))
    lemma_puts l h =
        let last : List ℕ = codes "\n" ++ quoted l.formula in
        let next : List ℕ = codes ":\n  " ++ (mode_text l.mode ++ last) in
        feed_puts (word_puts (codes "lemma") (32 ∷ (l.name ++ (attributes_text l.attributes ++ next))) (ident refl refl) refl (small (omega arith)) (λ z. refl)
        (blank_puts (name_puts l.name (attributes_text l.attributes ++ next) h.0 (attributes_parts l.attributes next (λ z. refl))
        (attributes_puts l.attributes h.1 next (λ z. square_colon _)
        (mark_puts 58 (codes "\n  " ++ (mode_text l.mode ++ last)) (λ z. alone_colon _)
        (feed_puts (blank_puts (blank_puts (mode_puts l.mode last (λ z. refl) (feed_puts (quoted_puts l.formula h.2)))))))))))

    -- Declarations.
    builtin_puts : (x : Builtin) (b : List ℕ) {w : Before} → Parts b → Puts b w → Puts (spelling x ++ b) (λ k. builtin_words x (w k))
    builtin_puts Hashing b e p = name_puts (codes "hashing") b (plain_name (codes "hashing") (ident refl refl) refl (omega arith)) e p
    builtin_puts Symmetric b e p =
        name_puts (codes "symmetric") (codes "-encryption" ++ b) (plain_name (codes "symmetric") (ident refl refl) refl (omega arith)) (λ z. refl)
        (mark_puts 45 (codes "encryption" ++ b) (λ z. hyphen_e _) (name_puts (codes "encryption") b (plain_name (codes "encryption") (ident refl refl) refl (omega arith)) e p))
    builtin_puts Asymmetric b e p =
        name_puts (codes "asymmetric") (codes "-encryption" ++ b) (plain_name (codes "asymmetric") (ident refl refl) refl (omega arith)) (λ z. refl)
        (mark_puts 45 (codes "encryption" ++ b) (λ z. hyphen_e _) (name_puts (codes "encryption") b (plain_name (codes "encryption") (ident refl refl) refl (omega arith)) e p))
    builtin_puts Signing b e p = name_puts (codes "signing") b (plain_name (codes "signing") (ident refl refl) refl (omega arith)) e p
    builtin_puts RevealingSigning b e p =
        name_puts (codes "revealing") (codes "-signing" ++ b) (plain_name (codes "revealing") (ident refl refl) refl (omega arith)) (λ z. refl)
        (mark_puts 45 (codes "signing" ++ b) (λ z. hyphen_s _) (name_puts (codes "signing") b (plain_name (codes "signing") (ident refl refl) refl (omega arith)) e p))

    privacy_text : Bool → List ℕ
    privacy_text c = if c then codes " [private]" else []

    privacy_words : Bool → Before
    privacy_words c k = if c then mark (codes "[") ∷ name (codes "private") ∷ mark (codes "]") ∷ k else k

    privacy_puts : (c : Bool) (b : List ℕ) {w : Before} → ((z : List ℕ) → Alone 93 (b ++ z)) → Puts b w → Puts (privacy_text c ++ b) (λ k. privacy_words c (w k))
    unfolding privacy_text privacy_words
    privacy_puts true b a p =
        blank_puts (mark_puts 91 (codes "private]" ++ b) (λ z. alone_square _)
        (name_puts (codes "private") (93 ∷ b) (plain_name (codes "private") (ident refl refl) refl (omega arith)) (λ z. refl) (mark_puts 93 b a p)))
    privacy_puts false b a p = p

    privacy_parts : (c : Bool) (b : List ℕ) → Parts b → Parts (privacy_text c ++ b)
    unfolding privacy_text
    privacy_parts true b e = λ z. refl
    privacy_parts false b e = e

    symbol_puts : (s : Symbol) → SymbolHasName most s → (b : List ℕ) {w : Before} → Parts b → ((z : List ℕ) → Alone 93 (b ++ z)) → Puts b w
        → Puts (symbol_text s ++ b) (λ k. symbol_words s (w k))
    unfolding privacy_text privacy_words
    symbol_puts s h b {w = w} e a p =
        let tail : List ℕ = privacy_text s.private ++ b in
        let inner : (decimal s.arity ++ privacy_text s.private) ++ b ≡ decimal s.arity ++ tail = append_assoc (decimal s.arity) (privacy_text s.private) b in
        let all : symbol_text s ++ b ≡ s.name ++ (47 ∷ (decimal s.arity ++ tail)) =
        append_assoc s.name (codes "/" ++ (decimal s.arity ++ privacy_text s.private)) b ∙ ap (λ (x : List ℕ). s.name ++ (47 ∷ x)) inner in
        subst (λ (x : List ℕ). Puts x (λ k. symbol_words s (w k))) (sym all)
        (name_puts s.name (47 ∷ (decimal s.arity ++ tail)) h.0 (λ z. refl)
        (mark_puts 47 (decimal s.arity ++ tail) (λ z. slash (tail) z)
        (number_puts (decimal s.arity) tail h.1.is (omega (arith, h.1.short, room)) (privacy_parts s.private b e) (privacy_puts s.private b a p))))
      where
        slash : (tail z : List ℕ) → Alone 47 ((decimal s.arity ++ tail) ++ z)
        slash tail z = subst (λ (x : List ℕ). Alone 47 x) (sym (append_assoc (decimal s.arity) tail z)) (slash_number (decimal s.arity) (tail ++ z) h.1.is)

    builtins_puts : (x : Builtin) (xs : List Builtin) → Puts (joined (codes ", ") (map spelling (x ∷ xs)) ++ codes "\n") (λ k. builtin_words x (further builtin_words xs k))
    builtins_puts x [] = builtin_puts x (codes "\n") (λ z. refl) (feed_puts nothing_puts)
    builtins_puts x (y ∷ xs) =
        let inner : joined (codes ", ") (map spelling (x ∷ y ∷ xs)) ++ codes "\n" ≡ spelling x ++ (44 ∷ 32 ∷ (joined (codes ", ") (map spelling (y ∷ xs)) ++ codes "\n")) =
        append_assoc (spelling x) (44 ∷ 32 ∷ joined (codes ", ") (map spelling (y ∷ xs))) (codes "\n") in
        subst (λ (t : List ℕ). Puts t (λ k. builtin_words x (further builtin_words (y ∷ xs) k))) (sym inner)
        (builtin_puts x (44 ∷ 32 ∷ (joined (codes ", ") (map spelling (y ∷ xs)) ++ codes "\n")) (λ z. refl)
        (mark_puts 44 (32 ∷ (joined (codes ", ") (map spelling (y ∷ xs)) ++ codes "\n")) (λ z. alone_comma _) (blank_puts (builtins_puts y xs))))

    symbols_puts : (x : Symbol) (xs : List Symbol) → SymbolHasName most x → Each (SymbolHasName most) xs → Puts (joined (codes ", ") (map symbol_text (x ∷ xs)) ++ codes "\n") (λ k. symbol_words x (further symbol_words xs k))
    symbols_puts x [] h hs = symbol_puts x h (codes "\n") (λ z. refl) (λ z. square_feed z) (feed_puts nothing_puts)
    symbols_puts x (y ∷ xs) h hs =
        let inner : joined (codes ", ") (map symbol_text (x ∷ y ∷ xs)) ++ codes "\n" ≡ symbol_text x ++ (44 ∷ 32 ∷ (joined (codes ", ") (map symbol_text (y ∷ xs)) ++ codes "\n")) =
        append_assoc (symbol_text x) (44 ∷ 32 ∷ joined (codes ", ") (map symbol_text (y ∷ xs))) (codes "\n") in
        subst (λ (t : List ℕ). Puts t (λ k. symbol_words x (further symbol_words (y ∷ xs) k))) (sym inner)
        (symbol_puts x h (44 ∷ 32 ∷ (joined (codes ", ") (map symbol_text (y ∷ xs)) ++ codes "\n")) (λ z. refl) (λ z. square_comma _)
        (mark_puts 44 (32 ∷ (joined (codes ", ") (map symbol_text (y ∷ xs)) ++ codes "\n")) (λ z. alone_comma _) (blank_puts (symbols_puts y xs hs.0 hs.1))))

    -- before the words of further items
    abbrev Goes : List ℕ → List TheoryItem → Type 0
    Goes text items = (z : List ℕ) (vs : List TheoryItem) → AreWords most z (items_words vs) → AreWords most (text ++ z) (items_words (items ++ vs))

    builtins_go : (bs : List Builtin) → Goes (line_of (codes "\nbuiltins: ") (map spelling bs)) (item_of builtins bs)
    builtins_go [] z vs r = r
    builtins_go (b ∷ bs) z vs r =
        (feed_puts (word_puts (codes "builtins") (codes ": " ++ (joined (codes ", ") (map spelling (b ∷ bs)) ++ codes "\n")) (ident refl refl) refl (small (omega arith)) (λ z. refl)
        (mark_puts 58 (codes " " ++ (joined (codes ", ") (map spelling (b ∷ bs)) ++ codes "\n")) (λ z. alone_colon _) (blank_puts (builtins_puts b bs))))).put z (items_words vs) r

    functions_go : (ss : List Symbol) → Each (SymbolHasName most) ss → Goes (line_of (codes "\nfunctions: ") (map symbol_text ss)) (item_of functions ss)
    functions_go [] h z vs r = r
    functions_go (s ∷ ss) h z vs r =
        (feed_puts (word_puts (codes "functions") (codes ": " ++ (joined (codes ", ") (map symbol_text (s ∷ ss)) ++ codes "\n")) (ident refl refl) refl (small (omega arith)) (λ z. refl)
        (mark_puts 58 (codes " " ++ (joined (codes ", ") (map symbol_text (s ∷ ss)) ++ codes "\n")) (λ z. alone_colon _) (blank_puts (symbols_puts s ss h.0 h.1))))).put z (items_words vs) r

    rules_go : (rs : List Rule) → Each (RuleHasNames most) rs → Goes (rules_text rs) (map rule rs)
    rules_go [] h z vs r = r
    rules_go (x ∷ xs) h z vs r =
        subst (λ (y : List ℕ). AreWords most y (items_words (map rule (x ∷ xs) ++ vs))) (sym (append_assoc (rule_text x) (rules_text xs) z))
        ((rule_puts x h.0).put (rules_text xs ++ z) (items_words (map rule xs ++ vs)) (rules_go xs h.1 z vs r))

    restrictions_go : (rs : List RestrictionForm) → Each (RestrictionHasNames most) rs → Goes (restrictions_text rs) (map as_restriction rs)
    restrictions_go [] h z vs r = r
    restrictions_go (x ∷ xs) h z vs r =
        subst (λ (y : List ℕ). AreWords most y (items_words (map as_restriction (x ∷ xs) ++ vs))) (sym (append_assoc (restriction_text x) (restrictions_text xs) z))
        ((restriction_puts x h.0).put (restrictions_text xs ++ z) (items_words (map as_restriction xs ++ vs)) (restrictions_go xs h.1 z vs r))

    lemmas_go : (ls : List LemmaForm) → Each (LemmaHasNames most) ls → Goes (lemmas_text ls) (map as_lemma ls)
    lemmas_go [] h z vs r = r
    lemmas_go (x ∷ xs) h z vs r =
        subst (λ (y : List ℕ). AreWords most y (items_words (map as_lemma (x ∷ xs) ++ vs))) (sym (append_assoc (lemma_text x) (lemmas_text xs) z))
        ((lemma_puts x h.0).put (lemmas_text xs ++ z) (items_words (map as_lemma xs ++ vs)) (lemmas_go xs h.1 z vs r))

    then_go : (a b : List ℕ) (xs ys : List TheoryItem) → Goes a xs → Goes b ys → Goes (a ++ b) (xs ++ ys)
    then_go a b xs ys p q z vs r =
        subst (λ (y : List ℕ). AreWords most y (items_words ((xs ++ ys) ++ vs))) (sym (append_assoc a b z))
        (subst (λ (us : List TheoryItem). AreWords most (a ++ (b ++ z)) (items_words us)) (sym (append_assoc xs ys vs)) (p (b ++ z) (ys ++ vs) (q z vs r)))

    items_go : (t : Theory) → TheoryHasNames most t → Goes (items_text t) (printed_items t)
    items_go t h =
        then_go (builtins_text t.signature) _ (item_of builtins (builtins_of t.signature)) _ (builtins_go (builtins_of t.signature))
        (then_go (functions_text t.signature) _ (item_of functions (functions_of t.signature)) _ (functions_go (functions_of t.signature) h.symbols)
        (then_go (rules_text t.rules) _ (map rule t.rules) _ (rules_go t.rules h.rules)
        (then_go (restrictions_text t.restrictions) _ (map as_restriction t.restrictions) _ (restrictions_go t.restrictions h.restrictions) (lemmas_go t.lemmas h.lemmas))))

    end_words : AreWords most (codes "\nend\n") (mark (codes "end") ∷ [])
    end_words = (feed_puts (word_puts (codes "end") (codes "\n") (ident refl refl) refl (small (omega arith)) (λ z. refl) (feed_puts nothing_puts))).put [] [] words_end

    -- the words of a printed theory
    pub theory_words : (t : Theory) → TheoryHasNames most t → AreWords most (theory_text t) (mark (codes "theory") ∷ name t.name ∷ mark (codes "begin") ∷ items_words (printed_items t ++ []))
    theory_words t h =
        let last : List ℕ = items_text t ++ codes "\nend\n" in
        let items : AreWords most last (items_words (printed_items t ++ [])) = items_go t h (codes "\nend\n") [] end_words in
        let begun : AreWords most (codes "begin" ++ (10 ∷ last)) (mark (codes "begin") ∷ items_words (printed_items t ++ [])) =
        add_word most written (codes "begin") (10 ∷ last) _ (ident refl refl) refl (small (omega arith)) refl (add_feed most written _ _ items) in
        add_word most written (codes "theory") (32 ∷ (t.name ++ (10 ∷ (codes "begin" ++ (10 ∷ last))))) _ (ident refl refl) refl (small (omega arith)) refl
        (add_blank most written _ _ (add_name most written t.name (10 ∷ (codes "begin" ++ (10 ∷ last))) _ h.name refl (add_feed most written _ _ begun)))
