-- The text of a theory that can be printed spells it.
use Rattle.std.proofs.Common.{◌≡◌, ℕ, Bool, true, false, List, [], ◌∷◌, ◌++◌, Option, Some, None, refl, sym, ap, subst, ◌∙◌}
use Rattle.std.specs.Prelude.{codes, map, All, Ok, option_map, if◌then◌else◌}
use Rattle.std.specs.Str.{bytes_eq}
use Rattle.std.proofs.lemmas.List.{append-nil}
use Rattle.std.proofs.lemmas.List.Elements.{All-head, All-tail}
use Rattle.std.proofs.lemmas.Slice.Eq.{bytes_eq-Decides}
use Rattle.sap_text.specs.declared.token.Token.{Token}
use Rattle.sap_text.specs.Tokens.{IsLexed}
use Rattle.sap_terms.specs.declared.fact.Fact.{Fact}
use Rattle.sap_terms.specs.declared.signature.Symbol.{Symbol}
use Rattle.sap_terms.specs.declared.signature.Builtin.{Builtin}
use Rattle.sap_terms.specs.Signature.{Sig, find_symbol, pairs_alone, HoldsSymbols}
use Rattle.sap_formula.specs.Form.{RestrictionForm, LemmaForm}
use Rattle.sap_rule.specs.declared.rule.Rule.{Rule}
use Rattle.sap_rule.specs.declared.theory.Theory.{Theory}
use Rattle.sap_grammar.specs.Words.{Word, mark, name, words_of}
use Rattle.sap_grammar.specs.declared.limits.Limits.{Limits}
use Rattle.sap_grammar.specs.Cut.{Placed, words, placed, IsHeader, IsCut}
use Rattle.sap_grammar.specs.ByteWords.{AreWords, AreWritten}
use Rattle.sap_grammar.specs.Printable.{FactHasNames, IsPrintableFact}
use Rattle.sap_grammar.specs.Printed.{ArePrinted}
use Rattle.sap_grammar.specs.Declarations.{Declaration}
use Rattle.sap_grammar.specs.Items.{Standing, AreItems, items_end, items_more}
use Rattle.sap_grammar.specs.Signatures.{signature_from, clash_from}
use Rattle.sap_statements.specs.Statements.{IsAttribute}
use Rattle.sap_theory.specs.SignatureText.{builtins_of, functions_of}
use Rattle.sap_theory.specs.TheoryText.{theory_text}
use Rattle.sap_theory.specs.TheoryGrammar.{TheoryItem, builtins, functions, rule, IsTheoryItem, IsAnyTheoryItem, items_of, rules_in, restrictions_in, lemmas_in, declarations, signature_of, AreSameSignatures, SpellsTheory}
use Rattle.sap_theory.specs.PrintableTheory.{IsPrintableRule, IsPrintableRestriction, IsPrintableLemma, IsPrintableSymbol, IsPrintable}
use Rattle.sap_theory.proofs.ItemWords.{item_of, items_words, as_restriction, as_lemma, printed_items}
use Rattle.sap_theory.proofs.FreeItems.{FormsAreFree}
use Rattle.sap_theory.proofs.PrintedItems.{AreTidyFacts, AreTidySymbols, AreAllAttributes, AllTidy, AllSpelled, any_spelled, AllSmall, within_spelled, items_cut, header_of}
use Rattle.sap_theory.proofs.ItemBytes.{arity_text, Each, RuleHasNames, RestrictionHasNames, LemmaHasNames, SymbolHasName, TheoryHasNames, theory_words}
use Rattle.sap_theory.proofs.Declared.{IsWithin, printed_fit, same_again}
use Rattle.sap_theory.proofs.Moved.{items_move, all_declared, declared_are, printed_declare}

pub words_placed : (z : List ℕ) (ts : List Token) → words (placed z ts) ≡ words_of z ts
words_placed z [] = refl
words_placed z (t ∷ ts) = ap (λ (ws : List Word). words (placed z (t ∷ [])) ++ ws) (words_placed z ts)

-- Printed items say what the theory says.
skip_builtins : (bs : List Builtin) (vs : List TheoryItem) → (rules_in (item_of builtins bs ++ vs) ≡ rules_in vs) × (restrictions_in (item_of builtins bs ++ vs) ≡ restrictions_in vs) × (lemmas_in (item_of builtins bs ++ vs) ≡ lemmas_in vs)
skip_builtins [] vs = (refl, refl, refl)
skip_builtins (b ∷ bs) vs = (refl, refl, refl)

skip_functions : (ss : List Symbol) (vs : List TheoryItem) → (rules_in (item_of functions ss ++ vs) ≡ rules_in vs) × (restrictions_in (item_of functions ss ++ vs) ≡ restrictions_in vs) × (lemmas_in (item_of functions ss ++ vs) ≡ lemmas_in vs)
skip_functions [] vs = (refl, refl, refl)
skip_functions (s ∷ ss) vs = (refl, refl, refl)

with_rules : (rs : List Rule) (vs : List TheoryItem) → (rules_in (map rule rs ++ vs) ≡ rs ++ rules_in vs) × (restrictions_in (map rule rs ++ vs) ≡ restrictions_in vs) × (lemmas_in (map rule rs ++ vs) ≡ lemmas_in vs)
with_rules [] vs = (refl, refl, refl)
with_rules (r ∷ rs) vs = let h = with_rules rs vs in (ap (λ (x : List Rule). r ∷ x) h.0, h.1, h.2)

with_restrictions : (rs : List RestrictionForm) (vs : List TheoryItem) → (rules_in (map as_restriction rs ++ vs) ≡ rules_in vs) × (restrictions_in (map as_restriction rs ++ vs) ≡ rs ++ restrictions_in vs) × (lemmas_in (map as_restriction rs ++ vs) ≡ lemmas_in vs)
with_restrictions [] vs = (refl, refl, refl)
with_restrictions (r ∷ rs) vs = let h = with_restrictions rs vs in (h.0, ap (λ (x : List RestrictionForm). r ∷ x) h.1, h.2)

with_lemmas : (ls : List LemmaForm) → (rules_in (map as_lemma ls) ≡ []) × (restrictions_in (map as_lemma ls) ≡ []) × (lemmas_in (map as_lemma ls) ≡ ls)
with_lemmas [] = (refl, refl, refl)
with_lemmas (l ∷ ls) = let h = with_lemmas ls in (h.0, h.1, ap (λ (x : List LemmaForm). l ∷ x) h.2)

module _ (t : Theory) where
  says_rules : t.rules ≡ rules_in (printed_items t)
  says_rules =
      let b = skip_builtins (builtins_of t.signature) (item_of functions (functions_of t.signature) ++ (map rule t.rules ++ (map as_restriction t.restrictions ++ map as_lemma t.lemmas))) in
      let f = skip_functions (functions_of t.signature) (map rule t.rules ++ (map as_restriction t.restrictions ++ map as_lemma t.lemmas)) in
      let r = with_rules t.rules (map as_restriction t.restrictions ++ map as_lemma t.lemmas) in
      let s = with_restrictions t.restrictions (map as_lemma t.lemmas) in
      sym (b.0 ∙ (f.0 ∙ (r.0 ∙ (ap (λ (x : List Rule). t.rules ++ x) (s.0 ∙ (with_lemmas t.lemmas).0) ∙ append-nil t.rules))))

  says_restrictions : t.restrictions ≡ restrictions_in (printed_items t)
  says_restrictions =
      let b = skip_builtins (builtins_of t.signature) (item_of functions (functions_of t.signature) ++ (map rule t.rules ++ (map as_restriction t.restrictions ++ map as_lemma t.lemmas))) in
      let f = skip_functions (functions_of t.signature) (map rule t.rules ++ (map as_restriction t.restrictions ++ map as_lemma t.lemmas)) in
      let r = with_rules t.rules (map as_restriction t.restrictions ++ map as_lemma t.lemmas) in
      let s = with_restrictions t.restrictions (map as_lemma t.lemmas) in
      sym (b.1 ∙ (f.1 ∙ (r.1 ∙ (s.1 ∙ (ap (λ (x : List RestrictionForm). t.restrictions ++ x) (with_lemmas t.lemmas).1 ∙ append-nil t.restrictions)))))

  says_lemmas : t.lemmas ≡ lemmas_in (printed_items t)
  says_lemmas =
      let b = skip_builtins (builtins_of t.signature) (item_of functions (functions_of t.signature) ++ (map rule t.rules ++ (map as_restriction t.restrictions ++ map as_lemma t.lemmas))) in
      let f = skip_functions (functions_of t.signature) (map rule t.rules ++ (map as_restriction t.restrictions ++ map as_lemma t.lemmas)) in
      let r = with_rules t.rules (map as_restriction t.restrictions ++ map as_lemma t.lemmas) in
      let s = with_restrictions t.restrictions (map as_lemma t.lemmas) in
      sym (b.2 ∙ (f.2 ∙ (r.2 ∙ (s.2 ∙ (with_lemmas t.lemmas).2))))

-- What the parts of a theory that can be printed say.
module _ (most : ℕ) (g : Sig) where
  facts_tidy : (fs : List Fact) → All (IsPrintableFact most g) fs → AreTidyFacts g fs
  facts_tidy [] h = tt
  facts_tidy (f ∷ fs) h = ((All-head (IsPrintableFact most g) f fs h).tidy, facts_tidy fs (All-tail (IsPrintableFact most g) f fs h))

  facts_named : (fs : List Fact) → All (IsPrintableFact most g) fs → Each (FactHasNames most) fs
  facts_named [] h = tt
  facts_named (f ∷ fs) h = ((All-head (IsPrintableFact most g) f fs h).names, facts_named fs (All-tail (IsPrintableFact most g) f fs h))

  rules_tidy : (rs : List Rule) (vs : List TheoryItem) → All (IsPrintableRule most g) rs → AllTidy g vs → AllTidy g (map rule rs ++ vs)
  rules_tidy [] vs h k = k
  rules_tidy (r ∷ rs) vs h k =
      let p = All-head (IsPrintableRule most g) r rs h in
      ((facts_tidy r.left p.left, facts_tidy r.acts p.acts, facts_tidy r.right p.right), rules_tidy rs vs (All-tail (IsPrintableRule most g) r rs h) k)

  rules_named : (rs : List Rule) → All (IsPrintableRule most g) rs → Each (RuleHasNames most) rs
  rules_named [] h = tt
  rules_named (r ∷ rs) h =
      let p = All-head (IsPrintableRule most g) r rs h in
      ((p.name, facts_named r.left p.left, facts_named r.acts p.acts, facts_named r.right p.right), rules_named rs (All-tail (IsPrintableRule most g) r rs h))

  restrictions_tidy : (rs : List RestrictionForm) (vs : List TheoryItem) → All (IsPrintableRestriction most g) rs → AllTidy g vs → AllTidy g (map as_restriction rs ++ vs)
  restrictions_tidy [] vs h k = k
  restrictions_tidy (r ∷ rs) vs h k =
      let p = (All-head (IsPrintableRestriction most g) r rs h).formula in
      ((p.tidy, p.sorted), restrictions_tidy rs vs (All-tail (IsPrintableRestriction most g) r rs h) k)

  restrictions_named : (rs : List RestrictionForm) → All (IsPrintableRestriction most g) rs → Each (RestrictionHasNames most) rs
  restrictions_named [] h = tt
  restrictions_named (r ∷ rs) h =
      let p = All-head (IsPrintableRestriction most g) r rs h in
      ((p.name, p.formula.names), restrictions_named rs (All-tail (IsPrintableRestriction most g) r rs h))

  attributes : (xs : List (List ℕ)) → All IsAttribute xs → AreAllAttributes xs
  attributes [] h = tt
  attributes (x ∷ xs) h = (All-head IsAttribute x xs h, attributes xs (All-tail IsAttribute x xs h))

  lemmas_tidy : (ls : List LemmaForm) → All (IsPrintableLemma most g) ls → AllTidy g (map as_lemma ls)
  lemmas_tidy [] h = tt
  lemmas_tidy (l ∷ ls) h =
      let p = All-head (IsPrintableLemma most g) l ls h in
      ((attributes l.attributes p.attributes, p.formula.tidy, p.formula.sorted), lemmas_tidy ls (All-tail (IsPrintableLemma most g) l ls h))

  lemmas_named : (ls : List LemmaForm) → All (IsPrintableLemma most g) ls → Each (LemmaHasNames most) ls
  lemmas_named [] h = tt
  lemmas_named (l ∷ ls) h =
      let p = All-head (IsPrintableLemma most g) l ls h in
      ((p.name, attributes l.attributes p.attributes, p.formula.names), lemmas_named ls (All-tail (IsPrintableLemma most g) l ls h))

  symbols_tidy : (ss : List Symbol) → All (IsPrintableSymbol most) ss → AreTidySymbols ss
  symbols_tidy [] h = tt
  symbols_tidy (s ∷ ss) h =
      let p = All-head (IsPrintableSymbol most) s ss h in
      ((p.lower, p.few, (arity_text s.arity p.few).reads), symbols_tidy ss (All-tail (IsPrintableSymbol most) s ss h))

  symbols_named : (ss : List Symbol) → All (IsPrintableSymbol most) ss → Each (SymbolHasName most) ss
  symbols_named [] h = tt
  symbols_named (s ∷ ss) h =
      let p = All-head (IsPrintableSymbol most) s ss h in
      ((p.name, arity_text s.arity p.few), symbols_named ss (All-tail (IsPrintableSymbol most) s ss h))

  builtins_tidy : (bs : List Builtin) (vs : List TheoryItem) → AllTidy g vs → AllTidy g (item_of builtins bs ++ vs)
  builtins_tidy [] vs k = k
  builtins_tidy (b ∷ bs) vs k = (tt, k)

  functions_tidy : (ss : List Symbol) (vs : List TheoryItem) → AreTidySymbols ss → AllTidy g vs → AllTidy g (item_of functions ss ++ vs)
  functions_tidy [] vs h k = k
  functions_tidy (s ∷ ss) vs h k = ((tt, h), k)

-- what is held is found so
pub held_within : (xs gs : List Symbol) → HoldsSymbols gs xs → IsWithin xs gs
held_within [] gs h x y e = absurd (cc (e))
held_within (s ∷ ss) gs h x y e = by_name (bytes_eq s.name x) refl e (held_within ss gs h.1 x y)
  where
    by_name : (c : Bool) → bytes_eq s.name x ≡ c → (if c then Some s else find_symbol ss x) ≡ Some y → (find_symbol ss x ≡ Some y → find_symbol gs x ≡ Some y) → find_symbol gs x ≡ Some y
    by_name true f e next = subst (λ (z : List ℕ). find_symbol gs z ≡ Some y) ((bytes_eq-Decides s.name x).0 f) (h.0 ∙ e)
    by_name false f e next = next e

-- bytes that are words have their tokens
abbrev pub WordsHaveTokens : Type 0
WordsHaveTokens = (most : ℕ) (z : List ℕ) (ws : List Word) → AreWords most z ws → (ts : List Token) × IsLexed most 0 1 z (Ok ts) × (words_of z ts ≡ ws)

module _ (printed : ArePrinted) (form_free : FormsAreFree) (written : (most : ℕ) → AreWritten most) (lexed_words : WordsHaveTokens) (most : ℕ) (t : Theory) (p : IsPrintable most t) where
  own : Sig
  own = signature_from pairs_alone (all_declared (printed_items t))

  within : IsWithin pairs_alone.symbols t.signature.symbols
  within = held_within pairs_alone.symbols t.signature.symbols p.pairs

  same_own : AreSameSignatures t.signature own
  unfolding own
  same_own =
      subst (λ (ds : List Declaration). AreSameSignatures t.signature (signature_from pairs_alone ds)) (sym (printed_declare t)) (same_again t.signature p.is_map p.builtins within)

  fit : clash_from pairs_alone (all_declared (printed_items t)) ≡ None
  fit = ap (λ (ds : List Declaration). clash_from pairs_alone ds) (printed_declare t) ∙ printed_fit t.signature p.is_map p.builtins within

  names : TheoryHasNames most t
  names = record {
    name = p.name;
    symbols = symbols_named most t.signature (functions_of t.signature) p.symbols;
    rules = rules_named most t.signature t.rules p.rules;
    restrictions = restrictions_named most t.signature t.restrictions p.restrictions;
    lemmas = lemmas_named most t.signature t.lemmas p.lemmas;
  }

  tidy : AllTidy t.signature (printed_items t)
  tidy =
      builtins_tidy most t.signature (builtins_of t.signature) _
      (functions_tidy most t.signature (functions_of t.signature) _ (symbols_tidy most t.signature (functions_of t.signature) p.symbols)
      (rules_tidy most t.signature t.rules _ p.rules
      (restrictions_tidy most t.signature t.restrictions _ p.restrictions (lemmas_tidy most t.signature t.lemmas p.lemmas))))

  own_tidy : AllTidy own (printed_items t)
  own_tidy = items_move t.signature own (λ x. ap (λ (o : Option Symbol). option_map (λ (s : Symbol). s.arity) o) (same_own.symbols x)) (printed_items t) tidy

  -- the text is cut into the printed items, where each is spelled so
  record IsTextCut (Spells : TheoryItem → List Word → Type 0) : Type 0 where
    tokens : List Token
    lexed : IsLexed most 0 1 (theory_text t) (Ok tokens)
    rest : List Placed
    header : IsHeader t.name (placed (theory_text t) tokens) rest
    pieces : List (List Placed)
    is_cut : IsCut rest pieces
    items : List (Standing TheoryItem)
    are : AreItems Spells pieces items
    same : items_of items ≡ printed_items t
    own_too : own ≡ signature_of items
    no_clash : clash_from pairs_alone (declarations items) ≡ None

  text_cut : (Spells : TheoryItem → List Word → Type 0) → AllSpelled Spells (printed_items t) → IsTextCut Spells
  unfolding own
  text_cut Spells spelled =
      let w : List Word = mark (codes "theory") ∷ name t.name ∷ mark (codes "begin") ∷ items_words (printed_items t ++ []) in
      let lexed = lexed_words most (theory_text t) w (theory_words printed most (written most) p.room t names) in
      let all = words_placed (theory_text t) lexed.0 ∙ lexed.2 in
      let header = header_of t.name (placed (theory_text t) lexed.0) (items_words (printed_items t ++ [])) all in
      let items = header.2 ∙ ap (λ (vs : List TheoryItem). items_words vs) (append-nil (printed_items t)) in
      let cut = items_cut printed form_free Spells own (printed_items t) own_tidy spelled header.0 items in
      let declared : declarations cut.items ≡ all_declared (printed_items t) = declared_are cut.items ∙ ap all_declared cut.same in
      record {
        tokens = lexed.0;
        lexed = lexed.1;
        rest = header.0;
        header = header.1;
        pieces = cut.pieces;
        is_cut = cut.is_cut;
        items = cut.items;
        are = cut.are;
        same = cut.same;
        own_too = ap (λ (ds : List Declaration). signature_from pairs_alone ds) (sym declared);
        no_clash = ap (λ (ds : List Declaration). clash_from pairs_alone ds) declared ∙ fit;
      }

  -- the text spells the theory
  pub text_spells_theory : SpellsTheory (theory_text t) t
  text_spells_theory =
      let c = text_cut (IsAnyTheoryItem own) (any_spelled printed own (printed_items t) own_tidy) in
      record {
        most = most;
        tokens = c.tokens;
        lexed = c.lexed;
        rest = c.rest;
        header = c.header;
        pieces = c.pieces;
        is_cut = c.is_cut;
        items = c.items;
        are = subst (λ (g : Sig). AreItems (IsAnyTheoryItem g) c.pieces c.items) c.own_too c.are;
        no_clash = c.no_clash;
        signature = subst (λ (g : Sig). AreSameSignatures t.signature g) c.own_too same_own;
        rules = says_rules t ∙ ap rules_in (sym c.same);
        restrictions = says_restrictions t ∙ ap restrictions_in (sym c.same);
        lemmas = says_lemmas t ∙ ap lemmas_in (sym c.same);
      }

  -- and within the limits, where its items are
  within_any : {g : Sig} {m : Limits} {pieces : List (List Placed)} {items : List (Standing TheoryItem)} → AreItems (IsTheoryItem g m) pieces items → AreItems (IsAnyTheoryItem g) pieces items
  within_any (items_end e) = items_end e
  within_any {m = m} (items_more r rs) = items_more (record { limits = m; is = r }) (within_any rs)

  pub record IsTextWithin (m : Limits) : Type 0 where
    pub spelled : SpellsTheory (theory_text t) t
    pub short : spelled.most ≡ most
    pub small : AreItems (IsTheoryItem (signature_of spelled.items) m) spelled.pieces spelled.items

  pub text_within : (m : Limits) → AllSmall m (printed_items t) → IsTextWithin m
  text_within m small =
      let c = text_cut (IsTheoryItem own m) (within_spelled printed own m (printed_items t) own_tidy small) in
      let are : AreItems (IsTheoryItem (signature_of c.items) m) c.pieces c.items = subst (λ (g : Sig). AreItems (IsTheoryItem g m) c.pieces c.items) c.own_too c.are in
      record {
        spelled = record {
          most = most;
          tokens = c.tokens;
          lexed = c.lexed;
          rest = c.rest;
          header = c.header;
          pieces = c.pieces;
          is_cut = c.is_cut;
          items = c.items;
          are = within_any are;
          no_clash = c.no_clash;
          signature = subst (λ (g : Sig). AreSameSignatures t.signature g) c.own_too same_own;
          rules = says_rules t ∙ ap rules_in (sym c.same);
          restrictions = says_restrictions t ∙ ap restrictions_in (sym c.same);
          lemmas = says_lemmas t ∙ ap lemmas_in (sym c.same);
        };
        short = refl;
        small = are;
      }
