-- Bytes are read as one theory, or refused for one cause.
use Rattle.std.proofs.Common.{◌≡◌, ℕ, Bool, true, false, List, Option, Some, None, Ok, Err, refl, sym, ap, subst, ◌∙◌}
use Rattle.std.specs.Prelude.{codes, Result, All}
use Rattle.std.proofs.lemmas.List.Elements.{All-head, All-tail}
use Rattle.sap_text.specs.declared.fault.Lex.{Lex}
use Rattle.sap_text.specs.declared.token.Token.{Token}
use Rattle.sap_text.specs.Tokens.{Lexed, IsLexed}
use Rattle.sap_terms.specs.Signature.{Sig, pairs_alone}
use Rattle.sap_terms.specs.declared.limits.TheConstants.{MOST_THEORY_NAME_BYTES}
use Rattle.sap_formula.specs.declared.fault.FormulaFault.{FormulaFault}
use Rattle.sap_rule.specs.declared.rule.Rule.{Rule}
use Rattle.sap_rule.specs.declared.theory.Theory.{Theory}
use Rattle.sap_rule.specs.WellMade.{IsRuleOver}
use Rattle.sap_grammar.specs.Words.{Word, starts}
use Rattle.sap_grammar.specs.Cut.{Placed, placed, words, IsCut, IsHeader, last_line}
use Rattle.sap_grammar.specs.Items.{Standing, IsEnd, items_end, items_more, no_end, bad_item, later_item}
use Rattle.sap_grammar.specs.Signatures.{clash_from}
use Rattle.sap_statements.specs.declared.statement.Statement.{Statement}
use Rattle.sap_statements.specs.Statements.{is_restriction, is_lemma}
use Rattle.sap_theory.specs.declared.fault.TheoryFault.{TheoryFault}
use Rattle.sap_theory.specs.declared.fault.TheoryFault.TheVariants.{Lex as LexFault, Header, Syntax, BadFunction, BadRule, Formula}
use Rattle.sap_theory.specs.TheoryGrammar.{TheoryItem, IsWrittenItem, item_builtins, item_functions, item_rule, item_statement, declarations, signature_of, items_of, rules_in, statements_in}
use Rattle.sap_theory.specs.declared.limits.TheConstants.{THEORY_LIMITS}
use Rattle.sap_theory.specs.WrittenItems.{AreWrittenItems, IsFaultyTheory}
use Rattle.sap_statements.specs.Stated.{AreFaultless, IsFirstFaulty}
use Rattle.sap_theory.specs.TheoryCauses.{IsPlainRule, IsFirstWrong, this_rule, later_rule, IsRefused, of_names, of_clash, of_symbols, of_shapes, of_formulas, AreAccepted}
use Rattle.sap_theory.specs.ReadTheory.{AreTokens, IsParted, theory_of, IsTheoryRead, no_tokens, no_header, no_item, refused, accepted}
use Rattle.sap_theory.proofs.DeclaredItems.{item_declares}
use Rattle.sap_theory.proofs.OneTheory.{one_item_by, one_own_list}
use Rattle.sap_theory.proofs.ReadLaws.{ReadLaws}

-- The first rule that is wrong.
one_wrong : (Is : Rule → Type 0) (fault : List ℕ → TheoryFault) (rs : List Rule) (e d : TheoryFault) → IsFirstWrong Is fault rs e → IsFirstWrong Is fault rs d → e ≡ d
one_wrong Is fault _ _ _ (this_rule w) (this_rule v) = refl
one_wrong Is fault _ _ d (this_rule w) (later_rule i q) = absurd (w i)
one_wrong Is fault _ e _ (later_rule i p) (this_rule v) = absurd (v i)
one_wrong Is fault _ e d (later_rule {rs = rs} i p) (later_rule j q) = one_wrong Is fault rs e d p q

pub never_wrong : (Is : Rule → Type 0) (fault : List ℕ → TheoryFault) (rs : List Rule) (e : TheoryFault) → IsFirstWrong Is fault rs e → All Is rs → ⊥
never_wrong Is fault _ _ (this_rule {r = r} {rs = rs} w) a = w (All-head Is r rs a)
never_wrong Is fault _ e (later_rule {r = r} {rs = rs} i p) a = never_wrong Is fault rs e p (All-tail Is r rs a)

-- restrictions and lemmas have one first fault
abbrev pub OneFaultyLaw : Type 0
OneFaultyLaw = (g : Sig) (r : Bool) (ss : List Statement) (x y : List ℕ) (f h : FormulaFault) → IsFirstFaulty g r ss x f → IsFirstFaulty g r ss y h → (x ≡ y) × (f ≡ h)

-- and then they aren't without fault
abbrev pub NoFaultyLaw : Type 0
NoFaultyLaw = (g : Sig) (r : Bool) (ss : List Statement) (x : List ℕ) (f : FormulaFault) → IsFirstFaulty g r ss x f → AreFaultless g r ss → ⊥

module _ (one : OneFaultyLaw) (none : NoFaultyLaw) where
  -- The cause that counts.
  module _ (g : Sig) (clash : Option (List ℕ)) (rs : List Rule) (ss : List Statement) where
    one_cause : (e d : TheoryFault) → IsRefused g clash rs ss e → IsRefused g clash rs ss d → e ≡ d
    one_cause _ _ (of_names {x = x} p) (of_names {x = y} q) = let same : Some x ≡ Some y = sym p ∙ q in cc
    one_cause _ _ (of_names {x = x} p) (of_clash q c) = let no : Some x ≡ None = sym p ∙ q in absurd (cc)
    one_cause _ d (of_names {x = x} p) (of_symbols q c w) = let no : Some x ≡ None = sym p ∙ q in absurd (cc)
    one_cause _ d (of_names {x = x} p) (of_shapes q c o w) = let no : Some x ≡ None = sym p ∙ q in absurd (cc)
    one_cause _ _ (of_names {x = x} p) (of_formulas q c o i w) = let no : Some x ≡ None = sym p ∙ q in absurd (cc)
    one_cause _ _ (of_clash p b) (of_names {x = y} q) = let no : Some y ≡ None = sym q ∙ p in absurd (cc)
    one_cause _ _ (of_clash {x = x} p b) (of_clash {x = y} q c) = let same : Some x ≡ Some y = sym b ∙ c in cc
    one_cause _ d (of_clash {x = x} p b) (of_symbols q c w) = let no : Some x ≡ None = sym b ∙ c in absurd (cc)
    one_cause _ d (of_clash {x = x} p b) (of_shapes q c o w) = let no : Some x ≡ None = sym b ∙ c in absurd (cc)
    one_cause _ _ (of_clash {x = x} p b) (of_formulas q c o i w) = let no : Some x ≡ None = sym b ∙ c in absurd (cc)
    one_cause e _ (of_symbols p b v) (of_names {x = y} q) = let no : Some y ≡ None = sym q ∙ p in absurd (cc)
    one_cause e _ (of_symbols p b v) (of_clash {x = y} q c) = let no : Some y ≡ None = sym c ∙ b in absurd (cc)
    one_cause e d (of_symbols p b v) (of_symbols q c w) = one_wrong (IsRuleOver g) BadFunction rs e d v w
    one_cause e d (of_symbols p b v) (of_shapes q c o w) = absurd (never_wrong (IsRuleOver g) BadFunction rs e v o)
    one_cause e _ (of_symbols p b v) (of_formulas q c o i w) = absurd (never_wrong (IsRuleOver g) BadFunction rs e v o)
    one_cause e _ (of_shapes p b o v) (of_names {x = y} q) = let no : Some y ≡ None = sym q ∙ p in absurd (cc)
    one_cause e _ (of_shapes p b o v) (of_clash {x = y} q c) = let no : Some y ≡ None = sym c ∙ b in absurd (cc)
    one_cause e d (of_shapes p b o v) (of_symbols q c w) = absurd (never_wrong (IsRuleOver g) BadFunction rs d w o)
    one_cause e d (of_shapes p b o v) (of_shapes q c u w) = one_wrong IsPlainRule BadRule rs e d v w
    one_cause e _ (of_shapes p b o v) (of_formulas q c u i w) = absurd (never_wrong IsPlainRule BadRule rs e v i)
    one_cause _ _ (of_formulas p b o i v) (of_names {x = y} q) = let no : Some y ≡ None = sym q ∙ p in absurd (cc)
    one_cause _ _ (of_formulas p b o i v) (of_clash {x = y} q c) = let no : Some y ≡ None = sym c ∙ b in absurd (cc)
    one_cause _ d (of_formulas p b o i v) (of_symbols q c w) = absurd (never_wrong (IsRuleOver g) BadFunction rs d w o)
    one_cause _ d (of_formulas p b o i v) (of_shapes q c u w) = absurd (never_wrong IsPlainRule BadRule rs d w i)
    one_cause _ _ (of_formulas {x = x} {f = f} p b o i v) (of_formulas {x = y} {f = h} q c u j w) =
        let same = one g false ss x y f h v w in
        λ k. Formula (same.0 k) (same.1 k)

    never_both : (e : TheoryFault) → IsRefused g clash rs ss e → AreAccepted g clash rs ss → ⊥
    never_both _ (of_names {x = x} p) a = let no : Some x ≡ None = sym p ∙ a.names in cc
    never_both _ (of_clash {x = x} p c) a = let no : Some x ≡ None = sym c ∙ a.no_clash in cc
    never_both e (of_symbols p c w) a = never_wrong (IsRuleOver g) BadFunction rs e w a.over
    never_both e (of_shapes p c o w) a = never_wrong IsPlainRule BadRule rs e w a.plain
    never_both _ (of_formulas {x = x} {f = f} p c o i w) a = none g false ss x f w a.faultless

-- Items and their faults.
not_end : {g : Sig} {v : TheoryItem} {a : List Word} → IsWrittenItem g THEORY_LIMITS v a → starts (codes "end") a ≡ false
not_end (item_builtins r) = refl
not_end (item_functions r) = refl
not_end (item_rule r) = refl
not_end (item_statement (is_restriction r)) = refl
not_end (item_statement (is_lemma a d r)) = refl

never_end : {A : Type 0} (g : Sig) (i : List Placed) (v : TheoryItem) → IsEnd i → IsWrittenItem g THEORY_LIMITS v (words i) → A
never_end g i v e s =
    let no : true ≡ false = not_end (subst (λ (w : List Word). IsWrittenItem g THEORY_LIMITS v w) e s) in
    absurd (cc)

good_or_faulty : (g : Sig) (last n : ℕ) (cut : List (List Placed)) (is : List (Standing TheoryItem)) → AreWrittenItems g cut is → IsFaultyTheory last cut n → ⊥
good_or_faulty g last n cut is (items_end e) (bad_item a b) = b e refl
good_or_faulty g last n cut is (items_end {i = i} e) (later_item s r) = never_end s.sig i s.item e s.is
good_or_faulty g last n cut is (items_more {v = v} s r) (bad_item a b) = a (record { sig = g; item = v; is = s })
good_or_faulty g last n cut is (items_more {is = more} {vs = vs} s r) (later_item t k) = good_or_faulty g last n more vs r k

one_fault : (last n k : ℕ) (cut : List (List Placed)) → IsFaultyTheory last cut n → IsFaultyTheory last cut k → n ≡ k
one_fault last n k cut no_end no_end = refl
one_fault last n k cut (bad_item a b) (bad_item c d) = refl
one_fault last n k cut (bad_item a b) (later_item s r) = absurd (a s)
one_fault last n k cut (later_item s r) (bad_item a b) = absurd (a s)
one_fault last n k cut (later_item {is = is} s r) (later_item t q) = one_fault last n k is r q

abbrev Answer : Type 0
Answer = Result Theory TheoryFault

-- what items make of a theory
data AfterItems (x : List ℕ) (is : List (Standing TheoryItem)) : Answer → Type 0 where
  is_bad : (e : TheoryFault) → IsRefused (signature_of is) (clash_from pairs_alone (declarations is)) (rules_in (items_of is)) (statements_in (items_of is)) e → AfterItems x is (Err e)
  is_good : AreAccepted (signature_of is) (clash_from pairs_alone (declarations is)) (rules_in (items_of is)) (statements_in (items_of is)) → AfterItems x is (Ok (theory_of x is))

-- what its parts make of it
data AfterParts (x : List ℕ) (last : ℕ) (cut : List (List Placed)) : Answer → Type 0 where
  is_faulty : (line : ℕ) → IsFaultyTheory last cut line → AfterParts x last cut (Err (Syntax line))
  has_items : {o : Answer} (is : List (Standing TheoryItem)) → AreWrittenItems (signature_of is) cut is → AfterItems x is o → AfterParts x last cut o

-- what its tokens make of it
data AfterTokens (z : List ℕ) (ts : List Token) : Answer → Type 0 where
  has_none : ((x : List ℕ) (rest : List Placed) → IsHeader x (placed z ts) rest → ⊥) → AfterTokens z ts (Err Header)
  has_parts : {o : Answer} (x : List ℕ) (cut : List (List Placed)) → IsParted z ts x cut → AfterParts x (last_line (placed z ts)) cut o → AfterTokens z ts o

-- what the lexer makes of it
data AfterLexer (z : List ℕ) : Answer → Type 0 where
  has_fault : (f : Lex) → IsLexed MOST_THEORY_NAME_BYTES 0 1 z (Err f) → AfterLexer z (Err (LexFault f))
  has_tokens : {o : Answer} (ts : List Token) → AreTokens z ts → AfterTokens z ts o → AfterLexer z o

in_steps : {z : List ℕ} {o : Answer} → IsTheoryRead z o → AfterLexer z o
in_steps (no_tokens {f = f} l) = has_fault f l
in_steps (no_header {ts = ts} t h) = has_tokens ts t (has_none h)
in_steps (no_item {ts = ts} {x = x} {cut = cut} {line = line} p f) = has_tokens ts p.tokens (has_parts x cut p (is_faulty line f))
in_steps (refused {ts = ts} {x = x} {cut = cut} {is = is} {e = e} p i c) = has_tokens ts p.tokens (has_parts x cut p (has_items is i (is_bad e c)))
in_steps (accepted {ts = ts} {x = x} {cut = cut} {is = is} p i a) = has_tokens ts p.tokens (has_parts x cut p (has_items is i (is_good a)))

module _ (laws : ReadLaws) (one_fault_law : OneFaultyLaw) (no_fault_law : NoFaultyLaw) where
  same_items : (cut : List (List Placed)) (is js : List (Standing TheoryItem)) → AreWrittenItems (signature_of is) cut is → AreWrittenItems (signature_of js) cut js → is ≡ js
  same_items = one_own_list {Spells = λ g. IsWrittenItem g THEORY_LIMITS} (λ g v u a p q. one_item_by laws g (λ s. s) p q) (λ g v a p. item_declares laws.declared p)

  after_items : (x : List ℕ) (is : List (Standing TheoryItem)) (o u : Answer) → AfterItems x is o → AfterItems x is u → o ≡ u
  after_items x is _ _ (is_bad e c) (is_bad d b) =
      ap (λ (q : TheoryFault). Err q) (one_cause one_fault_law no_fault_law (signature_of is) (clash_from pairs_alone (declarations is)) (rules_in (items_of is)) (statements_in (items_of is)) e d c b)
  after_items x is _ _ (is_bad e c) (is_good a) =
      absurd (never_both one_fault_law no_fault_law (signature_of is) (clash_from pairs_alone (declarations is)) (rules_in (items_of is)) (statements_in (items_of is)) e c a)
  after_items x is _ _ (is_good a) (is_bad e c) =
      absurd (never_both one_fault_law no_fault_law (signature_of is) (clash_from pairs_alone (declarations is)) (rules_in (items_of is)) (statements_in (items_of is)) e c a)
  after_items x is _ _ (is_good a) (is_good b) = refl

  after_parts : (x : List ℕ) (last : ℕ) (cut : List (List Placed)) (o u : Answer) → AfterParts x last cut o → AfterParts x last cut u → o ≡ u
  after_parts x last cut _ _ (is_faulty n f) (is_faulty k h) = ap (λ m. Err (Syntax m)) (one_fault last n k cut f h)
  after_parts x last cut _ u (is_faulty n f) (has_items is i a) = absurd (good_or_faulty (signature_of is) last n cut is i f)
  after_parts x last cut o _ (has_items is i a) (is_faulty n f) = absurd (good_or_faulty (signature_of is) last n cut is i f)
  after_parts x last cut o u (has_items is i a) (has_items js j b) =
      after_items x js o u (subst (λ (ks : List (Standing TheoryItem)). AfterItems x ks o) (same_items cut is js i j) a) b

  after_tokens : (z : List ℕ) (ts : List Token) (o u : Answer) → AfterTokens z ts o → AfterTokens z ts u → o ≡ u
  after_tokens z ts _ _ (has_none f) (has_none h) = refl
  after_tokens z ts _ u (has_none f) (has_parts x cut p a) = absurd (f x p.rest p.header)
  after_tokens z ts o _ (has_parts x cut p a) (has_none f) = absurd (f x p.rest p.header)
  after_tokens z ts o u (has_parts x cut p a) (has_parts y dut q b) =
      let heads = laws.one_header x y (placed z ts) p.rest q.rest p.header q.header in
      let cuts = laws.one_cut q.rest cut dut (subst (λ (r : List Placed). IsCut r cut) heads.1 p.items) q.items in
      let last = last_line (placed z ts) in
      after_parts y last dut o u
      (subst (λ (w : List ℕ). AfterParts w last dut o) heads.0 (subst (λ (c : List (List Placed)). AfterParts x last c o) cuts a)) b

  pub one_answer_of_theories : (z : List ℕ) (o u : Answer) → IsTheoryRead z o → IsTheoryRead z u → o ≡ u
  one_answer_of_theories z o u r s = go o u (in_steps r) (in_steps s)
    where
      go : (o u : Answer) → AfterLexer z o → AfterLexer z u → o ≡ u
      go _ _ (has_fault f l) (has_fault h k) =
          let same : ◌≡◌ {A = Lexed} (Err f) (Err h) = laws.one_answer MOST_THEORY_NAME_BYTES z (Err f) (Err h) l k in
          let faults : f ≡ h = cc in
          ap (λ (e : Lex). Err (LexFault e)) faults
      go _ u (has_fault f l) (has_tokens ts t a) =
          let clash : ◌≡◌ {A = Lexed} (Err f) (Ok ts) = laws.one_answer MOST_THEORY_NAME_BYTES z (Err f) (Ok ts) l t in absurd (cc)
      go o _ (has_tokens ts t a) (has_fault f l) =
          let clash : ◌≡◌ {A = Lexed} (Err f) (Ok ts) = laws.one_answer MOST_THEORY_NAME_BYTES z (Err f) (Ok ts) l t in absurd (cc)
      go o u (has_tokens ts t a) (has_tokens us v b) =
          let same : ◌≡◌ {A = Lexed} (Ok ts) (Ok us) = laws.one_answer MOST_THEORY_NAME_BYTES z (Ok ts) (Ok us) t v in
          let tokens : ts ≡ us = cc in
          after_tokens z us o u (subst (λ (ws : List Token). AfterTokens z ws o) tokens a) b
