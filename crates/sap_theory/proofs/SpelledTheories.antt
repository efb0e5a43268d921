-- A theory that some bytes spell, over its signature, can be printed.
use Rattle.std.proofs.Common.{◌≡◌, ◌≤◌, ℕ, Bool, true, false, List, [], ◌∷◌, ◌++◌, Option, Some, refl, sym, ap, subst, ◌∙◌}
use Rattle.std.specs.Prelude.{not, ◌||◌, All, map, filter, option_map, if◌then◌else◌}
use Rattle.std.specs.Str.{bytes_eq}
use Rattle.std.proofs.lemmas.List.Elements.{All-nil, All-cons, All-head, All-tail, All-weaker}
use Rattle.std.proofs.lemmas.Slice.Eq.{bytes_eq-Decides}
use Rattle.sap_terms.specs.declared.fact.Fact.{Fact}
use Rattle.sap_terms.specs.declared.signature.Symbol.{Symbol}
use Rattle.sap_terms.specs.declared.signature.Builtin.{Builtin}
use Rattle.sap_terms.specs.declared.signature.Builtin.TheVariants.{Hashing, Symmetric, Asymmetric, Signing, RevealingSigning}
use Rattle.sap_terms.specs.Tree.{Tree, variable, public, fresh, apply, Trees, none, more, trees_of}
use Rattle.sap_terms.specs.Signature.{Sig, arity_of, find_symbol, has_builtin, pairs_alone, HoldsSymbols}
use Rattle.sap_terms.specs.declared.builtins.Builtins.{Builtins}
use Rattle.sap_terms.specs.Message.{IsOver, AreOver, IsFactOver}
use Rattle.sap_formula.specs.Form.{Form, RestrictionForm, LemmaForm, truth, falsity, action, equal, same_time, earlier, negation, both, either, implies, equivalent, every, exists}
use Rattle.sap_formula.specs.declared.lemma.Mode.{Mode}
use Rattle.sap_rule.specs.declared.rule.Rule.{Rule}
use Rattle.sap_rule.specs.declared.theory.Theory.{Theory}
use Rattle.sap_rule.specs.WellMade.{IsRuleOver}
use Rattle.sap_grammar.specs.declared.limits.Limits.{Limits}
use Rattle.sap_grammar.specs.Words.{Word, words_of}
use Rattle.sap_grammar.specs.FactGrammar.{AreSomeFacts, AreFacts, facts_last, facts_more, facts_none, facts_some}
use Rattle.sap_grammar.specs.Cut.{Placed, words, placed, IsCut, cut_none, cut_one}
use Rattle.sap_grammar.specs.Declarations.{Declaration, of_builtin, of_symbol, IsSymbol, spells_public, spells_private, AreSymbols, symbols_last, symbols_more}
use Rattle.sap_grammar.specs.Items.{Standing, AreItems, items_end, items_more}
use Rattle.sap_grammar.specs.ByteWords.{IsName, AreTokenWords}
use Rattle.sap_grammar.specs.Printable.{IsPrintableFact}
use Rattle.sap_grammar.specs.Printed.{ArePrinted}
use Rattle.sap_formula_grammar.specs.FormulaGrammar.{Reach, IsIff}
use Rattle.sap_statements.specs.declared.statement.Statement.TheVariants.{Restriction as restriction, Lemma as lemma}
use Rattle.sap_statements.specs.Statements.{IsAttribute, AreAttributes, attributes_last, attributes_more, HasAttributes, without_attributes, with_attributes, IsMode, mode_missing, mode_all, mode_exists, IsQuoted, is_restriction, is_lemma}
use Rattle.sap_statements.specs.Sorted.{plainly_sorted}
use Rattle.sap_statements.specs.Printable.{IsTidyForm, IsFormOver, FormHasNames, IsPrintableForm}
use Rattle.sap_theory.specs.SignatureText.{is_among, is_brought}
use Rattle.sap_theory.specs.TheoryOver.{IsTheoryOver}
use Rattle.sap_theory.specs.TheoryGrammar.{TheoryItem, builtins, functions, rule, statement, IsRuleBody, body_silent, body_acts, IsTheoryItem, item_builtins, item_functions, item_rule, item_statement, IsAnyTheoryItem, items_of, rules_in, restrictions_in, lemmas_in, declarations, signature_of, SpellsTheory}
use Rattle.sap_theory.specs.PrintableTheory.{IsPrintableRule, IsPrintableRestriction, IsPrintableLemma, IsPrintableSymbol, IsPrintable}
use Rattle.sap_theory.proofs.PrintableTheories.{words_placed}
use Rattle.sap_theory.proofs.Declared.{map_holds}
use Rattle.sap_theory.proofs.Origins.{signature_keeps, OfSymbols, origin, builtin_brings}
use Rattle.sap_theory.proofs.Moved.{fact_moves, form_moves, all_declared, declared_are}

-- what the laws of formulas say
pub record FormLaws : Type 0 where
  pub tidy : (g : Sig) (e : Reach) (f : Form) (n : ℕ) (a b : List Word) → IsIff g e f n a b → IsFormOver g f → IsTidyForm g f
  pub names : (most : ℕ) (g : Sig) (e : Reach) (f : Form) (n : ℕ) (a b : List Word) → IsIff g e f n a b → AreTokenWords most a → FormHasNames most f × AreTokenWords most b
  pub twice : (f : Form) → plainly_sorted [] (plainly_sorted [] f) ≡ plainly_sorted [] f
  pub tidy_kept : (g : Sig) (f : Form) → IsTidyForm g f → IsTidyForm g (plainly_sorted [] f)
  pub over_before : (g : Sig) (f : Form) → IsFormOver g (plainly_sorted [] f) → IsFormOver g f
  pub names_kept : (most : ℕ) (f : Form) → FormHasNames most f → FormHasNames most (plainly_sorted [] f)

-- Over the signature.
abbrev IsOverItem : Sig → TheoryItem → Type 0
IsOverItem g (builtins bs) = Unit {0}
IsOverItem g (functions ss) = Unit {0}
IsOverItem g (rule r) = IsRuleOver g r
IsOverItem g (statement (restriction r)) = IsFormOver g r.formula
IsOverItem g (statement (lemma l)) = IsFormOver g l.formula

abbrev AllOver : Sig → List TheoryItem → Type 0
AllOver g [] = Unit {0}
AllOver g (v ∷ vs) = IsOverItem g v × AllOver g vs

module _ (printed : ArePrinted) (forms : FormLaws) (m : ℕ) (g : Sig) where
  -- Facts.
  some_parts : {k : Limits} {s : Bool} {w : List ℕ} {fs : List Fact} {a b : List Word} → AreSomeFacts g k s w fs a b → AreTokenWords m a → All (IsFactOver g) fs
      → All (IsPrintableFact m g) fs × AreTokenWords m b
  some_parts (facts_last {f = f} r) h o =
      let n = printed.fact_names m g f _ _ r.spelled h in
      (All-cons (IsPrintableFact m g) f [] (record { tidy = printed.fact_tidy g f _ _ r.spelled (All-head (IsFactOver g) f [] o); names = n.0 }) (All-nil (IsPrintableFact m g)), n.1.1)
  some_parts (facts_more {f = f} {fs = fs} r rs) h o =
      let n = printed.fact_names m g f _ _ r.spelled h in
      let more = some_parts rs n.1.1 (All-tail (IsFactOver g) f fs o) in
      (All-cons (IsPrintableFact m g) f fs (record { tidy = printed.fact_tidy g f _ _ r.spelled (All-head (IsFactOver g) f fs o); names = n.0 }) more.0, more.1)

  fact_parts : {k : Limits} {s : Bool} {w : List ℕ} {fs : List Fact} {a b : List Word} → AreFacts g k s w fs a b → AreTokenWords m a → All (IsFactOver g) fs
      → All (IsPrintableFact m g) fs × AreTokenWords m b
  fact_parts facts_none h o = (All-nil (IsPrintableFact m g), h.1)
  fact_parts (facts_some r) h o = some_parts r h o

  record BodyParts (l e r : List Fact) : Type 0 where
    left : All (IsPrintableFact m g) l
    acts : All (IsPrintableFact m g) e
    right : All (IsPrintableFact m g) r

  body_parts : {k : Limits} {l e r : List Fact} {a : List Word} → IsRuleBody g k l e r a → AreTokenWords m a → All (IsFactOver g) l → All (IsFactOver g) e → All (IsFactOver g) r → BodyParts l e r
  body_parts (body_silent x y) h o p q =
      let u = fact_parts x h.1 o in
      let w = fact_parts y u.1.1.1 q in
      record { left = u.0; acts = All-nil (IsPrintableFact m g); right = w.0 }
  body_parts (body_acts x y z) h o p q =
      let u = fact_parts x h.1 o in
      let v = fact_parts y u.1.1 p in
      let w = fact_parts z v.1.1 q in
      record { left = u.0; acts = v.0; right = w.0 }

  -- Statements.
  quoted_parts : (k : Limits) (f : Form) (a : List Word) → IsQuoted g k f a → AreTokenWords m a → IsFormOver g (plainly_sorted [] f) → IsPrintableForm m g (plainly_sorted [] f)
  quoted_parts k f a r h over = record {
    tidy = forms.tidy_kept g f (forms.tidy g r.reach f r.levels _ _ r.spelled (forms.over_before g f over));
    names = forms.names_kept m f (forms.names m g r.reach f r.levels _ _ r.spelled h).0;
    sorted = sym (forms.twice f);
  }

  attributes_parts : {xs : List (List ℕ)} {a b : List Word} → AreAttributes xs a b → AreTokenWords m a → All IsAttribute xs × AreTokenWords m b
  attributes_parts (attributes_last {x = x} i) h = (All-cons IsAttribute x [] i (All-nil IsAttribute), h.1.1)
  attributes_parts (attributes_more {x = x} {xs = xs} i r) h = let more = attributes_parts r h.1.1 in (All-cons IsAttribute x xs i more.0, more.1)

  has_parts : {xs : List (List ℕ)} {a b : List Word} → HasAttributes xs a b → AreTokenWords m a → All IsAttribute xs × AreTokenWords m b
  has_parts without_attributes h = (All-nil IsAttribute, h)
  has_parts (with_attributes r) h = attributes_parts r h.1

  mode_parts : {x : Mode} {a b : List Word} → IsMode x a b → AreTokenWords m a → AreTokenWords m b
  mode_parts mode_missing h = h
  mode_parts mode_all h = h.1.1.1
  mode_parts mode_exists h = h.1.1.1

  -- Declarations.
  symbol_parts : {s : Symbol} {a b : List Word} → IsSymbol s a b → AreTokenWords m a → IsPrintableSymbol m s × AreTokenWords m b
  symbol_parts (spells_public low le) h = (record { lower = low; few = le; name = h.0 }, h.1.1.1)
  symbol_parts (spells_private low le) h = (record { lower = low; few = le; name = h.0 }, h.1.1.1.1.1.1)

  symbols_parts : {ss : List Symbol} {a : List Word} → AreSymbols ss a → AreTokenWords m a → All (IsPrintableSymbol m) ss
  symbols_parts (symbols_last {s = s} r) h = All-cons (IsPrintableSymbol m) s [] (symbol_parts r h).0 (All-nil (IsPrintableSymbol m))
  symbols_parts (symbols_more {s = s} {ss = ss} r rs) h = let p = symbol_parts r h in All-cons (IsPrintableSymbol m) s ss p.0 (symbols_parts rs p.1.1)

  -- Items.
  abbrev ItemParts : TheoryItem → Type 0
  ItemParts (builtins bs) = Unit {0}
  ItemParts (functions ss) = All (IsPrintableSymbol m) ss
  ItemParts (rule r) = IsPrintableRule m g r
  ItemParts (statement (restriction r)) = IsPrintableRestriction m g r
  ItemParts (statement (lemma l)) = IsPrintableLemma m g l

  item_parts : {k : Limits} {v : TheoryItem} {a : List Word} → IsTheoryItem g k v a → AreTokenWords m a → IsOverItem g v → ItemParts v
  item_parts (item_builtins r) h o = tt
  item_parts (item_functions r) h o = symbols_parts r h.1.1
  item_parts (item_rule r) h o =
      let p = body_parts r h.1.1.1 o.left o.acts o.right in
      record { name = h.1.0; left = p.left; acts = p.acts; right = p.right }
  item_parts {k = k} (item_statement (is_restriction {f = f} {a = a} r)) h o =
      record { name = h.1.0; formula = quoted_parts k f a r h.1.1.1.1 o }
  item_parts {k = k} (item_statement (is_lemma {f = f} {c = c} r s t)) h o =
      let x = has_parts r h.1.1 in
      record { name = h.1.0; attributes = x.0; formula = quoted_parts k f c t (mode_parts s x.1.1).1 o }

  abbrev AllParts : List TheoryItem → Type 0
  AllParts [] = Unit {0}
  AllParts (v ∷ vs) = ItemParts v × AllParts vs

  abbrev PiecesOfTokens : List (List Placed) → Type 0
  PiecesOfTokens [] = Unit {0}
  PiecesOfTokens (i ∷ is) = AreTokenWords m (words i) × PiecesOfTokens is

  all_parts : {pieces : List (List Placed)} {is : List (Standing TheoryItem)} → AreItems (IsAnyTheoryItem g) pieces is → PiecesOfTokens pieces → AllOver g (items_of is) → AllParts (items_of is)
  all_parts (items_end e) h o = tt
  all_parts (items_more r rs) h o = (item_parts r.is h.0 o.0, all_parts rs h.1 o.1)

  front_words : (ps qs : List Placed) → AreTokenWords m (words (ps ++ qs)) → AreTokenWords m (words ps)
  front_words [] qs h = tt
  front_words (p ∷ ps) qs h = (h.0, front_words ps qs h.1)

  back_words : (ps qs : List Placed) → AreTokenWords m (words (ps ++ qs)) → AreTokenWords m (words qs)
  back_words [] qs h = h
  back_words (p ∷ ps) qs h = back_words ps qs h.1

  all_pieces : {ps : List Placed} {pieces : List (List Placed)} → IsCut ps pieces → AreTokenWords m (words ps) → PiecesOfTokens pieces
  all_pieces cut_none h = tt
  all_pieces (cut_one p ps rest free starts r) h = ((h.0, front_words ps rest h.1), all_pieces r (back_words ps rest h.1))

  -- What the parts of a theory are.
  rules_are : (vs : List TheoryItem) → AllParts vs → All (IsPrintableRule m g) (rules_in vs)
  rules_are [] h = All-nil (IsPrintableRule m g)
  rules_are (builtins bs ∷ vs) h = rules_are vs h.1
  rules_are (functions ss ∷ vs) h = rules_are vs h.1
  rules_are (rule r ∷ vs) h = All-cons (IsPrintableRule m g) r (rules_in vs) h.0 (rules_are vs h.1)
  rules_are (statement (restriction r) ∷ vs) h = rules_are vs h.1
  rules_are (statement (lemma l) ∷ vs) h = rules_are vs h.1

  restrictions_are : (vs : List TheoryItem) → AllParts vs → All (IsPrintableRestriction m g) (restrictions_in vs)
  restrictions_are [] h = All-nil (IsPrintableRestriction m g)
  restrictions_are (builtins bs ∷ vs) h = restrictions_are vs h.1
  restrictions_are (functions ss ∷ vs) h = restrictions_are vs h.1
  restrictions_are (rule r ∷ vs) h = restrictions_are vs h.1
  restrictions_are (statement (restriction r) ∷ vs) h = All-cons (IsPrintableRestriction m g) r (restrictions_in vs) h.0 (restrictions_are vs h.1)
  restrictions_are (statement (lemma l) ∷ vs) h = restrictions_are vs h.1

  lemmas_are : (vs : List TheoryItem) → AllParts vs → All (IsPrintableLemma m g) (lemmas_in vs)
  lemmas_are [] h = All-nil (IsPrintableLemma m g)
  lemmas_are (builtins bs ∷ vs) h = lemmas_are vs h.1
  lemmas_are (functions ss ∷ vs) h = lemmas_are vs h.1
  lemmas_are (rule r ∷ vs) h = lemmas_are vs h.1
  lemmas_are (statement (restriction r) ∷ vs) h = lemmas_are vs h.1
  lemmas_are (statement (lemma l) ∷ vs) h = All-cons (IsPrintableLemma m g) l (lemmas_in vs) h.0 (lemmas_are vs h.1)

  builtins_declare : (bs : List Builtin) (ds : List Declaration) → OfSymbols (IsPrintableSymbol m) ds → OfSymbols (IsPrintableSymbol m) (map of_builtin bs ++ ds)
  builtins_declare [] ds h = h
  builtins_declare (b ∷ bs) ds h = builtins_declare bs ds h

  symbols_declare : (ss : List Symbol) (ds : List Declaration) → All (IsPrintableSymbol m) ss → OfSymbols (IsPrintableSymbol m) ds → OfSymbols (IsPrintableSymbol m) (map of_symbol ss ++ ds)
  symbols_declare [] ds a h = h
  symbols_declare (s ∷ ss) ds a h = (All-head (IsPrintableSymbol m) s ss a, symbols_declare ss ds (All-tail (IsPrintableSymbol m) s ss a) h)

  declared_parts : (vs : List TheoryItem) → AllParts vs → OfSymbols (IsPrintableSymbol m) (all_declared vs)
  declared_parts [] h = tt
  declared_parts (builtins bs ∷ vs) h = builtins_declare bs (all_declared vs) (declared_parts vs h.1)
  declared_parts (functions ss ∷ vs) h = symbols_declare ss (all_declared vs) h.0 (declared_parts vs h.1)
  declared_parts (rule r ∷ vs) h = declared_parts vs h.1
  declared_parts (statement (restriction r) ∷ vs) h = declared_parts vs h.1
  declared_parts (statement (lemma l) ∷ vs) h = declared_parts vs h.1

abbrev RestrictionOver : Sig → RestrictionForm → Type 0
RestrictionOver g r = IsFormOver g r.formula

abbrev LemmaOver : Sig → LemmaForm → Type 0
LemmaOver g l = IsFormOver g l.formula

over_items : (g : Sig) (vs : List TheoryItem) → All (IsRuleOver g) (rules_in vs) → All (RestrictionOver g) (restrictions_in vs) → All (LemmaOver g) (lemmas_in vs) → AllOver g vs
over_items g [] r s l = tt
over_items g (builtins bs ∷ vs) r s l = (tt, over_items g vs r s l)
over_items g (functions ss ∷ vs) r s l = (tt, over_items g vs r s l)
over_items g (rule x ∷ vs) r s l = (All-head (IsRuleOver g) x (rules_in vs) r, over_items g vs (All-tail (IsRuleOver g) x (rules_in vs) r) s l)
over_items g (statement (restriction x) ∷ vs) r s l =
    (All-head (RestrictionOver g) x (restrictions_in vs) s, over_items g vs r (All-tail (RestrictionOver g) x (restrictions_in vs) s) l)
over_items g (statement (lemma x) ∷ vs) r s l = (All-head (LemmaOver g) x (lemmas_in vs) l, over_items g vs r s (All-tail (LemmaOver g) x (lemmas_in vs) l))

-- What is over a signature is over one that holds the same, and what can be printed under it can be under that.
module _ (g h : Sig) (same : (x : List ℕ) → arity_of g x ≡ arity_of h x) where
  mutual
    over_moves : (t : Tree) → IsOver g t → IsOver h t
    over_moves (variable v) o = o
    over_moves (public n) o = o
    over_moves (fresh i) o = o
    over_moves (apply f ts) o = (sym (same f) ∙ o.0, trees_move ts o.1)

    trees_move : (ts : Trees) → AreOver g ts → AreOver h ts
    trees_move none o = o
    trees_move (more t ts) o = (over_moves t o.0, trees_move ts o.1)

  form_over_moves : (f : Form) → IsFormOver g f → IsFormOver h f
  form_over_moves truth o = o
  form_over_moves falsity o = o
  form_over_moves (action f i) o = trees_move (trees_of f.args) o
  form_over_moves (equal t u) o = (over_moves t o.0, over_moves u o.1)
  form_over_moves (same_time i j) o = o
  form_over_moves (earlier i j) o = o
  form_over_moves (negation f) o = form_over_moves f o
  form_over_moves (both f k) o = (form_over_moves f o.0, form_over_moves k o.1)
  form_over_moves (either f k) o = (form_over_moves f o.0, form_over_moves k o.1)
  form_over_moves (implies f k) o = (form_over_moves f o.0, form_over_moves k o.1)
  form_over_moves (equivalent f k) o = (form_over_moves f o.0, form_over_moves k o.1)
  form_over_moves (every vs f) o = form_over_moves f o
  form_over_moves (exists vs f) o = form_over_moves f o

  facts_over_move : (fs : List Fact) → All (IsFactOver g) fs → All (IsFactOver h) fs
  facts_over_move fs o = All-weaker (IsFactOver g) (IsFactOver h) (λ f p. trees_move (trees_of f.args) p) fs o

  rule_over_moves : (r : Rule) → IsRuleOver g r → IsRuleOver h r
  rule_over_moves r o = record { left = facts_over_move r.left o.left; acts = facts_over_move r.acts o.acts; right = facts_over_move r.right o.right }

  module _ (m : ℕ) where
    printable_facts : (fs : List Fact) → All (IsPrintableFact m g) fs → All (IsPrintableFact m h) fs
    printable_facts fs p =
        All-weaker (IsPrintableFact m g) (IsPrintableFact m h) (λ f q. record { tidy = fact_moves g h same f q.tidy; names = q.names }) fs p

    printable_form : (f : Form) → IsPrintableForm m g f → IsPrintableForm m h f
    printable_form f q = record { tidy = form_moves g h same f q.tidy; names = q.names; sorted = q.sorted }

    printable_rules : (rs : List Rule) → All (IsPrintableRule m g) rs → All (IsPrintableRule m h) rs
    printable_rules rs p =
        All-weaker (IsPrintableRule m g) (IsPrintableRule m h)
        (λ r q. record { name = q.name; left = printable_facts r.left q.left; acts = printable_facts r.acts q.acts; right = printable_facts r.right q.right }) rs p

    printable_restrictions : (rs : List RestrictionForm) → All (IsPrintableRestriction m g) rs → All (IsPrintableRestriction m h) rs
    printable_restrictions rs p =
        All-weaker (IsPrintableRestriction m g) (IsPrintableRestriction m h) (λ r q. record { name = q.name; formula = printable_form r.formula q.formula }) rs p

    printable_lemmas : (ls : List LemmaForm) → All (IsPrintableLemma m g) ls → All (IsPrintableLemma m h) ls
    printable_lemmas ls p =
        All-weaker (IsPrintableLemma m g) (IsPrintableLemma m h) (λ l q. record { name = q.name; attributes = q.attributes; formula = printable_form l.formula q.formula }) ls p

found_among : (ss : List Symbol) (x : List ℕ) (y : Symbol) → find_symbol ss x ≡ Some y → is_among ss x ≡ true
found_among [] x y e = absurd (cc (e))
found_among (s ∷ ss) x y e = by_name (bytes_eq s.name x) refl e (found_among ss x y)
  where
    or_more : (c : Bool) {d : Bool} → d ≡ true → (c || d) ≡ true
    or_more true e = refl
    or_more false e = e

    by_name : (c : Bool) → bytes_eq s.name x ≡ c → (if c then Some s else find_symbol ss x) ≡ Some y → (find_symbol ss x ≡ Some y → is_among ss x ≡ true) → is_among (s ∷ ss) x ≡ true
    by_name true f e next = let here : bytes_eq x s.name ≡ true = (bytes_eq-Decides x s.name).1 (sym ((bytes_eq-Decides s.name x).0 f)) in rw here refl
    by_name false f e next = or_more (bytes_eq x s.name) (next e)

same_flag : (g h : Sig) → g.builtins ≡ h.builtins → (b : Builtin) → has_builtin h b ≡ true → has_builtin g b ≡ true
same_flag g h e b k = subst (λ (x : Builtins). has_builtin (record { symbols = g.symbols; builtins = x }) b ≡ true) (sym e) (other b k)
  where
    other : (b : Builtin) → has_builtin h b ≡ true → has_builtin (record { symbols = g.symbols; builtins = h.builtins }) b ≡ true
    other b k = by_builtin b k
      where
        by_builtin : (b : Builtin) → has_builtin h b ≡ true → has_builtin (record { symbols = g.symbols; builtins = h.builtins }) b ≡ true
        by_builtin Hashing k = k
        by_builtin Symmetric k = k
        by_builtin Asymmetric k = k
        by_builtin Signing k = k
        by_builtin RevealingSigning k = k

pairs_found : (gs : List Symbol) → ((x : List ℕ) (y : Symbol) → find_symbol pairs_alone.symbols x ≡ Some y → find_symbol gs x ≡ Some y) → HoldsSymbols gs pairs_alone.symbols
pairs_found gs f = (f _ _ refl, (f _ _ refl, (f _ _ refl, tt)))

module _ (printed : ArePrinted) (forms : FormLaws) (m : ℕ) (room : 13 ≤ m) (z : List ℕ) (t : Theory) (r : SpellsTheory z t)
    (token_words : AreTokenWords m (words_of z r.tokens)) (over : IsTheoryOver t) where
  own : Sig
  own = signature_of r.items

  same_arity : (x : List ℕ) → arity_of t.signature x ≡ arity_of own x
  unfolding own
  same_arity x = ap (λ (o : Option Symbol). option_map (λ (s : Symbol). s.arity) o) (r.signature.symbols x)

  all_words : AreTokenWords m (words (placed z r.tokens))
  all_words = subst (λ (ws : List Word). AreTokenWords m ws) (sym (words_placed z r.tokens)) token_words

  header_words : IsName m t.name × AreTokenWords m (words r.rest)
  header_words =
      let all = subst (λ (ps : List Placed). AreTokenWords m (words ps)) r.header.spelled all_words in
      (all.1.0, all.1.1.1)

  parts : AllParts printed forms m own (items_of r.items)
  unfolding own
  parts =
      let rules = subst (λ (rs : List Rule). All (IsRuleOver own) rs) r.rules (All-weaker (IsRuleOver t.signature) (IsRuleOver own) (rule_over_moves t.signature own same_arity) t.rules over.rules) in
      let restrictions = subst (λ (rs : List RestrictionForm). All (RestrictionOver own) rs) r.restrictions
      (All-weaker (RestrictionOver t.signature) (RestrictionOver own) (λ s o. form_over_moves t.signature own same_arity s.formula o) t.restrictions over.restrictions) in
      let lemmas = subst (λ (ls : List LemmaForm). All (LemmaOver own) ls) r.lemmas
      (All-weaker (LemmaOver t.signature) (LemmaOver own) (λ l o. form_over_moves t.signature own same_arity l.formula o) t.lemmas over.lemmas) in
      all_parts printed forms m own r.are (all_pieces printed forms m own r.is_cut header_words.1) (over_items own (items_of r.items) rules restrictions lemmas)

  declared_so : (s : Symbol) → find_symbol t.signature.symbols s.name ≡ Some s → is_brought t.signature s.name ≡ false → IsPrintableSymbol m s
  unfolding own
  declared_so s here free =
      let there : find_symbol own.symbols s.name ≡ Some s = sym (r.signature.symbols s.name) ∙ here in
      let declared = subst (λ (ds : List Declaration). OfSymbols (IsPrintableSymbol m) ds) (sym (declared_are r.items)) (declared_parts printed forms m own (items_of r.items) parts) in
      origin (IsPrintableSymbol m) (IsPrintableSymbol m s) (declarations r.items) pairs_alone s.name s declared there
      (λ k. absurd (let brought : is_brought t.signature s.name ≡ true = rw (found_among pairs_alone.symbols s.name s k) refl in cc (brought, free)))
      (λ b k among. absurd (let has = same_flag t.signature own r.signature.builtins b k in
      let brought : is_brought t.signature s.name ≡ true = second (is_among pairs_alone.symbols s.name) (builtin_brings t.signature b s.name has among) in cc (brought, free)))
      (λ p. p)
    where
      second : (c : Bool) {d : Bool} → d ≡ true → (c || d) ≡ true
      second true e = refl
      second false e = e

  functions_so : (ss : List Symbol) → HoldsSymbols t.signature.symbols ss → All (IsPrintableSymbol m) (filter (λ (s : Symbol). not (is_brought t.signature s.name)) ss)
  functions_so [] h = All-nil (IsPrintableSymbol m)
  functions_so (s ∷ ss) h = by_test (is_brought t.signature s.name) refl (functions_so ss h.1)
    where
      by_test : (c : Bool) → is_brought t.signature s.name ≡ c → All (IsPrintableSymbol m) (filter (λ (s : Symbol). not (is_brought t.signature s.name)) ss)
          → All (IsPrintableSymbol m) (if not c then s ∷ filter (λ (s : Symbol). not (is_brought t.signature s.name)) ss else filter (λ (s : Symbol). not (is_brought t.signature s.name)) ss)
      by_test true e next = next
      by_test false e next = All-cons (IsPrintableSymbol m) s _ (declared_so s h.0 e) next

  -- a theory that some bytes spell, over its signature, can be printed
  pub spelled_is_printable : IsPrintable m t
  unfolding own
  spelled_is_printable =
      let back : (x : List ℕ) → arity_of own x ≡ arity_of t.signature x = λ x. sym (same_arity x) in
      record {
        room = room;
        is_map = over.is_map;
        builtins = over.builtins;
        pairs = pairs_found t.signature.symbols (λ x y e. r.signature.symbols x ∙ signature_keeps (declarations r.items) pairs_alone x y e);
        name = header_words.0;
        symbols = functions_so t.signature.symbols (map_holds t.signature.symbols over.is_map);
        rules = subst (λ (rs : List Rule). All (IsPrintableRule m t.signature) rs) (sym r.rules)
            (printable_rules own t.signature back m (rules_in (items_of r.items)) (rules_are printed forms m own (items_of r.items) parts));
        restrictions = subst (λ (rs : List RestrictionForm). All (IsPrintableRestriction m t.signature) rs) (sym r.restrictions)
            (printable_restrictions own t.signature back m (restrictions_in (items_of r.items)) (restrictions_are printed forms m own (items_of r.items) parts));
        lemmas = subst (λ (ls : List LemmaForm). All (IsPrintableLemma m t.signature) ls) (sym r.lemmas)
            (printable_lemmas own t.signature back m (lemmas_in (items_of r.items)) (lemmas_are printed forms m own (items_of r.items) parts));
      }
