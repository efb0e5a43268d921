-- The words of printed items are items, and are cut into them.
use Rattle.std.proofs.Common.{◌≡◌, ◌≤◌, max, ℕ, Bool, true, false, List, [], ◌∷◌, ◌++◌, None, drop, refl, sym, ap, subst, ◌∙◌, arith}
use Rattle.std.specs.Prelude.{codes, decimal, if◌then◌else◌, All}
use Rattle.std.proofs.lemmas.List.Elements.{All-nil, All-cons, All-head, All-tail}
use Rattle.sap_terms.specs.declared.fact.Fact.{Fact}
use Rattle.sap_terms.specs.declared.limits.TheConstants.{MOST_ARITY}
use Rattle.sap_terms.specs.declared.signature.Symbol.{Symbol}
use Rattle.sap_terms.specs.declared.signature.Builtin.{Builtin}
use Rattle.sap_terms.specs.declared.signature.Builtin.TheVariants.{Hashing, Symmetric, Asymmetric, Signing, RevealingSigning}
use Rattle.sap_terms.specs.Tree.{Tree, trees_of, trees_levels, level_count}
use Rattle.sap_terms.specs.Signature.{Sig}
use Rattle.sap_formula.specs.Form.{Form, truth, falsity, action, equal, same_time, earlier, negation, both, either, implies, equivalent, every, exists}
use Rattle.sap_formula.specs.declared.lemma.Mode.{Mode}
use Rattle.sap_formula.specs.declared.lemma.Mode.TheVariants.{AllTraces, ExistsTrace}
use Rattle.sap_grammar.specs.declared.limits.Limits.{Limits}
use Rattle.sap_grammar.specs.Words.{Word, mark, name, number, is_lower}
use Rattle.sap_grammar.specs.Sizes.{IsSmall, AreSmall}
use Rattle.sap_grammar.specs.FactGrammar.{fact_levels, IsShortFact, AreSomeFacts, AreFacts, facts_last, facts_more, facts_none, facts_some}
use Rattle.sap_grammar.specs.Cut.{Placed, words, is_item_word, AreNoItemWords, IsCut, cut_none, cut_one, NoItemWord, StartsItem, IsHeader, first_line}
use Rattle.sap_grammar.specs.Declarations.{value, IsBuiltin, spells_hashing, spells_symmetric, spells_asymmetric, spells_signing, spells_revealing, AreBuiltins, builtins_last, builtins_more, IsSymbol, spells_public, spells_private, AreSymbols, symbols_last, symbols_more}
use Rattle.sap_grammar.specs.Items.{Standing, AreItems, items_end, items_more}
use Rattle.sap_grammar.specs.Printable.{IsTidyFact}
use Rattle.sap_grammar.specs.Printed.{ArePrinted}
use Rattle.sap_grammar.specs.PrintedWords.{Before, fact_words}
use Rattle.sap_formula_grammar.specs.FormulaGrammar.{IsSmallForm}
use Rattle.sap_statements.specs.declared.statement.Statement.TheVariants.{Restriction as restriction, Lemma as lemma}
use Rattle.sap_statements.specs.Statements.{IsAttribute, AreAttributes, attributes_last, attributes_more, HasAttributes, without_attributes, with_attributes, IsMode, mode_all, mode_exists, IsQuoted, is_restriction, is_lemma}
use Rattle.sap_statements.specs.Sorted.{plainly_sorted}
use Rattle.sap_statements.specs.Printable.{IsTidyForm}
use Rattle.sap_theory.specs.TheoryGrammar.{TheoryItem, builtins, functions, rule, statement, IsRuleBody, body_silent, body_acts, IsTheoryItem, item_builtins, item_functions, item_rule, item_statement, IsAnyTheoryItem, items_of}
use Rattle.sap_theory.specs.FormulaLevels.{text_levels}
use Rattle.sap_theory.proofs.FormulaWords.{form_words}
use Rattle.sap_theory.proofs.ItemWords.{further_facts, facts_words, arrow_words, body_words, builtin_words, symbol_words, further, sequence, further_names, attributes_words, mode_words, quoted_words, item_words, items_words, as_restriction, as_lemma}
use Rattle.sap_theory.proofs.PrintedFormulas.{IsFront, form_spelled, form_front}
use Rattle.sap_theory.proofs.FreeItems.{FormsAreFree, item_free}

-- What can be printed.
abbrev pub AreTidyFacts : Sig → List Fact → Type 0
AreTidyFacts g [] = Unit {0}
AreTidyFacts g (f ∷ fs) = IsTidyFact g f × AreTidyFacts g fs

abbrev pub AreTidySymbols : List Symbol → Type 0
AreTidySymbols [] = Unit {0}
AreTidySymbols (s ∷ ss) = ((is_lower s.name ≡ true) × (s.arity ≤ MOST_ARITY) × (value (decimal s.arity) ≡ s.arity)) × AreTidySymbols ss

abbrev pub AreAllAttributes : List (List ℕ) → Type 0
AreAllAttributes [] = Unit {0}
AreAllAttributes (x ∷ xs) = IsAttribute x × AreAllAttributes xs

abbrev pub IsSome : {A : Type 0} → List A → Type 0
IsSome [] = ⊥
IsSome (x ∷ xs) = Unit {0}

abbrev pub IsTidyItem : Sig → TheoryItem → Type 0
IsTidyItem g (builtins bs) = IsSome bs
IsTidyItem g (functions ss) = IsSome ss × AreTidySymbols ss
IsTidyItem g (rule r) = AreTidyFacts g r.left × AreTidyFacts g r.acts × AreTidyFacts g r.right
IsTidyItem g (statement (restriction r)) = IsTidyForm g r.formula × (r.formula ≡ plainly_sorted [] r.formula)
IsTidyItem g (statement (lemma l)) = AreAllAttributes l.attributes × IsTidyForm g l.formula × (l.formula ≡ plainly_sorted [] l.formula)

-- Items.
deep : List Fact → ℕ
deep [] = 0
deep (f ∷ fs) = max (fact_levels f) (deep fs)

-- how deep the deepest term of a formula is
deepest : Form → ℕ
deepest truth = 0
deepest falsity = 0
deepest (action f i) = fact_levels f
deepest (equal t u) = max (level_count t) (level_count u)
deepest (same_time i j) = 0
deepest (earlier i j) = 0
deepest (negation f) = deepest f
deepest (both f h) = max (deepest f) (deepest h)
deepest (either f h) = max (deepest f) (deepest h)
deepest (implies f h) = max (deepest f) (deepest h)
deepest (equivalent f h) = max (deepest f) (deepest h)
deepest (every vs f) = deepest f
deepest (exists vs f) = deepest f

-- terms of so many levels, and formulas of so many
abbrev limits_of : ℕ → ℕ → Limits
limits_of n k = record { name_bytes = 0; term_levels = n; term_nodes = None; formula_levels = k }

terms_small : (n k : ℕ) (ts : List Tree) → trees_levels (trees_of ts) ≤ n → AreSmall (limits_of n k) ts
terms_small n k [] le = All-nil (IsSmall (limits_of n k))
terms_small n k (t ∷ ts) le =
    All-cons (IsSmall (limits_of n k)) t ts (record { few_levels = omega (arith, le); few_nodes = tt }) (terms_small n k ts (omega (arith, le)))

form_small : (n k : ℕ) (f : Form) → deepest f ≤ n → IsSmallForm (limits_of n k) f
unfolding deepest
form_small n k truth le = tt
form_small n k falsity le = tt
form_small n k (action f i) le = terms_small n k f.args le
form_small n k (equal t u) le = (record { few_levels = omega (arith, le); few_nodes = tt }, record { few_levels = omega (arith, le); few_nodes = tt })
form_small n k (same_time i j) le = tt
form_small n k (earlier i j) le = tt
form_small n k (negation f) le = form_small n k f le
form_small n k (both f h) le = (form_small n k f (omega (arith, le)), form_small n k h (omega (arith, le)))
form_small n k (either f h) le = (form_small n k f (omega (arith, le)), form_small n k h (omega (arith, le)))
form_small n k (implies f h) le = (form_small n k f (omega (arith, le)), form_small n k h (omega (arith, le)))
form_small n k (equivalent f h) le = (form_small n k f (omega (arith, le)), form_small n k h (omega (arith, le)))
form_small n k (every vs f) le = form_small n k f le
form_small n k (exists vs f) le = form_small n k f le

-- facts whose terms are within the limits
abbrev pub AreSmallFacts : Limits → List Fact → Type 0
AreSmallFacts m fs = All (λ (f : Fact). AreSmall m f.args) fs

-- an item that is printed within the limits
abbrev pub IsSmallItem : Limits → TheoryItem → Type 0
IsSmallItem m (builtins bs) = Unit {0}
IsSmallItem m (functions ss) = Unit {0}
IsSmallItem m (rule r) = AreSmallFacts m r.left × AreSmallFacts m r.acts × AreSmallFacts m r.right
IsSmallItem m (statement (restriction r)) = IsSmallForm m r.formula × (text_levels 0 r.formula ≤ m.formula_levels)
IsSmallItem m (statement (lemma l)) = IsSmallForm m l.formula × (text_levels 0 l.formula ≤ m.formula_levels)

facts_small : (n k : ℕ) (fs : List Fact) → deep fs ≤ n → AreSmallFacts (limits_of n k) fs
unfolding deep
facts_small n k [] le = All-nil (λ (f : Fact). AreSmall (limits_of n k) f.args)
facts_small n k (f ∷ fs) le = All-cons (λ (f : Fact). AreSmall (limits_of n k) f.args) f fs (terms_small n k f.args (omega (arith, le))) (facts_small n k fs (omega (arith, le)))

module _ (printed : ArePrinted) (g : Sig) (m : Limits) where
  short_fact : (f : Fact) → IsTidyFact g f → AreSmall m f.args → (b : List Word) → IsShortFact g m true f (fact_words f b) b
  short_fact f h small b = record { spelled = printed.fact_spelled g f h b; small = small; sign = λ s. refl }

  first_small : (f : Fact) (fs : List Fact) → AreSmallFacts m (f ∷ fs) → AreSmall m f.args
  first_small f fs h = All-head (λ (f : Fact). AreSmall m f.args) f fs h

  others_small : (f : Fact) (fs : List Fact) → AreSmallFacts m (f ∷ fs) → AreSmallFacts m fs
  others_small f fs h = All-tail (λ (f : Fact). AreSmall m f.args) f fs h

  further_spelled : (closing : List ℕ) (fs : List Fact) → AreTidyFacts g fs → AreSmallFacts m fs → (f : Fact) (k : List Word)
      → ((b : List Word) → IsShortFact g m true f (fact_words f b) b) → AreSomeFacts g m true closing (f ∷ fs) (fact_words f (further_facts fs (mark closing ∷ k))) k
  further_spelled closing [] h small f k r = facts_last (r (mark closing ∷ k))
  further_spelled closing (e ∷ fs) h small f k r =
      facts_more (r (mark (codes ",") ∷ fact_words e (further_facts fs (mark closing ∷ k))))
      (further_spelled closing fs h.1 (others_small e fs small) e k (short_fact e h.0 (first_small e fs small)))

  facts_spelled : (closing : List ℕ) (fs : List Fact) → AreTidyFacts g fs → AreSmallFacts m fs → (k : List Word) → AreFacts g m true closing fs (facts_words closing fs k) k
  facts_spelled closing [] h small k = facts_none
  facts_spelled closing (f ∷ fs) h small k = facts_some (further_spelled closing fs h.1 (others_small f fs small) f k (short_fact f h.0 (first_small f fs small)))

  body_spelled : (l e r : List Fact) → AreTidyFacts g l → AreTidyFacts g e → AreTidyFacts g r → AreSmallFacts m l → AreSmallFacts m e → AreSmallFacts m r
      → IsRuleBody g m l e r (body_words l e r [])
  body_spelled l [] r h i j p q o = body_silent (facts_spelled (codes "]") l h p _) (facts_spelled (codes "]") r j o [])
  body_spelled l (f ∷ e) r h i j p q o = body_acts (facts_spelled (codes "]") l h p _) (facts_spelled (codes "]->") (f ∷ e) i q _) (facts_spelled (codes "]") r j o [])

  quoted_spelled : (f : Form) → IsTidyForm g f → IsSmallForm m f → text_levels 0 f ≤ m.formula_levels → IsQuoted g m f (form_words 0 f (mark (codes "\"") ∷ []))
  quoted_spelled f tidy small le =
      let r = form_spelled printed g f tidy 0 (omega arith) (mark (codes "\"") ∷ []) refl in
      record { reach = r.0; levels = text_levels 0 f; spelled = r.1; few_levels = le; small = small }

  builtin_spelled : (b : Builtin) (k : List Word) → IsBuiltin b (builtin_words b k) k
  builtin_spelled Hashing k = spells_hashing
  builtin_spelled Symmetric k = spells_symmetric
  builtin_spelled Asymmetric k = spells_asymmetric
  builtin_spelled Signing k = spells_signing
  builtin_spelled RevealingSigning k = spells_revealing

  builtins_spelled : (bs : List Builtin) → IsSome bs → AreBuiltins bs (sequence builtin_words bs [])
  builtins_spelled [] h = absurd h
  builtins_spelled (b ∷ []) h = builtins_last (builtin_spelled b [])
  builtins_spelled (b ∷ c ∷ bs) h = builtins_more (builtin_spelled b _) (builtins_spelled (c ∷ bs) tt)

  symbol_spelled : (s : Symbol) → is_lower s.name ≡ true → s.arity ≤ MOST_ARITY → value (decimal s.arity) ≡ s.arity → (k : List Word) → IsSymbol s (symbol_words s k) k
  symbol_spelled s low le same k = by_privacy s.private refl
    where
      few : value (decimal s.arity) ≤ MOST_ARITY
      few = omega (arith, same, le)

      by_privacy : (c : Bool) → s.private ≡ c → IsSymbol s (symbol_words s k) k
      by_privacy true e =
          subst (λ (x : Symbol). IsSymbol x (symbol_words s k) k) (λ i. record { name = s.name; arity = same i; private = sym e i })
          (rw e (spells_private low few))
      by_privacy false e =
          subst (λ (x : Symbol). IsSymbol x (symbol_words s k) k) (λ i. record { name = s.name; arity = same i; private = sym e i })
          (rw e (spells_public low few))

  symbols_spelled : (ss : List Symbol) → IsSome ss → AreTidySymbols ss → AreSymbols ss (sequence symbol_words ss [])
  symbols_spelled [] h t = absurd h
  symbols_spelled (s ∷ []) h t = symbols_last (symbol_spelled s t.0.0 t.0.1 t.0.2 [])
  symbols_spelled (s ∷ u ∷ ss) h t = symbols_more (symbol_spelled s t.0.0 t.0.1 t.0.2 _) (symbols_spelled (u ∷ ss) tt t.1)

  attributes_spelled : (x : List ℕ) (xs : List (List ℕ)) → IsAttribute x → AreAllAttributes xs → (k : List Word) → AreAttributes (x ∷ xs) (name x ∷ further_names xs k) k
  attributes_spelled x [] i is k = attributes_last i
  attributes_spelled x (y ∷ xs) i is k = attributes_more i (attributes_spelled y xs is.0 is.1 k)

  has_spelled : (xs : List (List ℕ)) → AreAllAttributes xs → (k : List Word) → HasAttributes xs (attributes_words xs k) k
  has_spelled [] is k = without_attributes
  has_spelled (x ∷ xs) is k = with_attributes (attributes_spelled x xs is.0 is.1 k)

  mode_spelled : (m : Mode) (k : List Word) → IsMode m (mode_words m k) k
  mode_spelled AllTraces k = mode_all
  mode_spelled ExistsTrace k = mode_exists

  -- within the limits
  pub small_spelled : (v : TheoryItem) → IsTidyItem g v → IsSmallItem m v → IsTheoryItem g m v (item_words v [])
  small_spelled (builtins bs) h small = item_builtins (builtins_spelled bs h)
  small_spelled (functions ss) h small = item_functions (symbols_spelled ss h.0 h.1)
  small_spelled (rule r) h small = item_rule (body_spelled r.left r.acts r.right h.0 h.1 h.2 small.0 small.1 small.2)
  small_spelled (statement (restriction r)) h small =
      let same : as_restriction (record { name = r.name; formula = plainly_sorted [] r.formula }) ≡ as_restriction r =
      ap (λ (f : Form). as_restriction (record { name = r.name; formula = f })) (sym h.1) in
      subst (λ (v : TheoryItem). IsTheoryItem g m v (item_words (as_restriction r) [])) same (item_statement (is_restriction (quoted_spelled r.formula h.0 small.0 small.1)))
  small_spelled (statement (lemma l)) h small =
      let same : as_lemma (record { name = l.name; attributes = l.attributes; mode = l.mode; formula = plainly_sorted [] l.formula }) ≡ as_lemma l =
      ap (λ (f : Form). as_lemma (record { name = l.name; attributes = l.attributes; mode = l.mode; formula = f })) (sym h.2) in
      subst (λ (v : TheoryItem). IsTheoryItem g m v (item_words (as_lemma l) [])) same
      (item_statement (is_lemma (has_spelled l.attributes h.0 _) (mode_spelled l.mode _) (quoted_spelled l.formula h.1 small.0 small.1)))

-- limits that an item keeps to
own_limits : TheoryItem → Limits
own_limits (builtins bs) = limits_of 0 0
own_limits (functions ss) = limits_of 0 0
own_limits (rule r) = limits_of (max (deep r.left) (max (deep r.acts) (deep r.right))) 0
own_limits (statement (restriction r)) = limits_of (deepest r.formula) (text_levels 0 r.formula)
own_limits (statement (lemma l)) = limits_of (deepest l.formula) (text_levels 0 l.formula)

own_small : (v : TheoryItem) → IsSmallItem (own_limits v) v
unfolding own_limits
own_small (builtins bs) = tt
own_small (functions ss) = tt
own_small (rule r) = (facts_small _ 0 r.left (omega arith), facts_small _ 0 r.acts (omega arith), facts_small _ 0 r.right (omega arith))
own_small (statement (restriction r)) = (form_small (deepest r.formula) (text_levels 0 r.formula) r.formula (omega arith), omega arith)
own_small (statement (lemma l)) = (form_small (deepest l.formula) (text_levels 0 l.formula) l.formula (omega arith), omega arith)

pub item_spelled : ArePrinted → (g : Sig) (v : TheoryItem) → IsTidyItem g v → IsAnyTheoryItem g v (item_words v [])
item_spelled printed g v h = record { limits = own_limits v; is = small_spelled printed g (own_limits v) v h (own_small v) }

-- Items stand in front of what follows them.
further_front : {A : Type 0} (words : A → Before) → ((x : A) → IsFront (words x)) → (xs : List A) → IsFront (further words xs)
further_front words w [] k l = refl
further_front words w (x ∷ xs) k l =
    ap (λ (y : List Word). mark (codes ",") ∷ y) (ap (λ (y : List Word). words x y) (further_front words w xs k l) ∙ w x (further words xs k) l)

sequence_front : {A : Type 0} (words : A → Before) → ((x : A) → IsFront (words x)) → (xs : List A) → IsFront (sequence words xs)
sequence_front words w [] k l = refl
sequence_front words w (x ∷ xs) k l = ap (λ (y : List Word). words x y) (further_front words w xs k l) ∙ w x (further words xs k) l

builtin_front : (b : Builtin) → IsFront (builtin_words b)
builtin_front Hashing k l = refl
builtin_front Symmetric k l = refl
builtin_front Asymmetric k l = refl
builtin_front Signing k l = refl
builtin_front RevealingSigning k l = refl

symbol_front : (s : Symbol) → IsFront (symbol_words s)
symbol_front s k l = by_privacy s.private
  where
    by_privacy : (c : Bool)
        → name s.name ∷ mark (codes "/") ∷ number (decimal s.arity) ∷ (if c then mark (codes "[") ∷ name (codes "private") ∷ mark (codes "]") ∷ (k ++ l) else k ++ l)
        ≡ name s.name ∷ mark (codes "/") ∷ number (decimal s.arity) ∷ ((if c then mark (codes "[") ∷ name (codes "private") ∷ mark (codes "]") ∷ k else k) ++ l)
    by_privacy true = refl
    by_privacy false = refl

module _ (printed : ArePrinted) where
  further_facts_front : (fs : List Fact) → IsFront (further_facts fs)
  further_facts_front [] k l = refl
  further_facts_front (f ∷ fs) k l =
      ap (λ (y : List Word). mark (codes ",") ∷ y) (ap (λ (y : List Word). fact_words f y) (further_facts_front fs k l) ∙ printed.fact_front f (further_facts fs k) l)

  facts_front : (closing : List ℕ) (fs : List Fact) → IsFront (facts_words closing fs)
  facts_front closing [] k l = refl
  facts_front closing (f ∷ fs) k l =
      ap (λ (y : List Word). fact_words f y) (further_facts_front fs (mark closing ∷ k) l) ∙ printed.fact_front f (further_facts fs (mark closing ∷ k)) l

  arrow_front : (fs : List Fact) → IsFront (arrow_words fs)
  arrow_front [] k l = refl
  arrow_front (f ∷ fs) k l = ap (λ (y : List Word). mark (codes "--[") ∷ y) (facts_front (codes "]->") (f ∷ fs) k l)

  body_front : (l e r : List Fact) → IsFront (body_words l e r)
  body_front l e r k z =
      ap (λ (y : List Word). mark (codes "[") ∷ facts_words (codes "]") l (arrow_words e (mark (codes "[") ∷ y))) (facts_front (codes "]") r k z)
      ∙ (ap (λ (y : List Word). mark (codes "[") ∷ facts_words (codes "]") l y) (arrow_front e (mark (codes "[") ∷ facts_words (codes "]") r k) z)
      ∙ ap (λ (y : List Word). mark (codes "[") ∷ y) (facts_front (codes "]") l (arrow_words e (mark (codes "[") ∷ facts_words (codes "]") r k)) z))

  names_front : (xs : List (List ℕ)) → IsFront (further_names xs)
  names_front [] k l = refl
  names_front (x ∷ xs) k l = ap (λ (y : List Word). mark (codes ",") ∷ name x ∷ y) (names_front xs k l)

  attributes_front : (xs : List (List ℕ)) → IsFront (attributes_words xs)
  attributes_front [] k l = refl
  attributes_front (x ∷ xs) k l = ap (λ (y : List Word). mark (codes "[") ∷ name x ∷ y) (names_front xs k l)

  mode_front : (m : Mode) → IsFront (mode_words m)
  mode_front AllTraces k l = refl
  mode_front ExistsTrace k l = refl

  quoted_front : (f : Form) → IsFront (quoted_words f)
  quoted_front f k l = ap (λ (y : List Word). mark (codes "\"") ∷ y) (form_front printed 0 f (mark (codes "\"") ∷ k) l)

  item_front : (v : TheoryItem) → IsFront (item_words v)
  item_front (builtins bs) k l = ap (λ (y : List Word). mark (codes "builtins") ∷ mark (codes ":") ∷ y) (sequence_front builtin_words builtin_front bs k l)
  item_front (functions ss) k l = ap (λ (y : List Word). mark (codes "functions") ∷ mark (codes ":") ∷ y) (sequence_front symbol_words symbol_front ss k l)
  item_front (rule r) k l = ap (λ (y : List Word). mark (codes "rule") ∷ name r.name ∷ mark (codes ":") ∷ y) (body_front r.left r.acts r.right k l)
  item_front (statement (restriction r)) k l = ap (λ (y : List Word). mark (codes "restriction") ∷ name r.name ∷ mark (codes ":") ∷ y) (quoted_front r.formula k l)
  item_front (statement (lemma f)) k l =
      ap (λ (y : List Word). mark (codes "lemma") ∷ name f.name ∷ y)
      (ap (λ (y : List Word). attributes_words f.attributes (mark (codes ":") ∷ mode_words f.mode y)) (quoted_front f.formula k l)
      ∙ (ap (λ (y : List Word). attributes_words f.attributes (mark (codes ":") ∷ y)) (mode_front f.mode (quoted_words f.formula k) l)
      ∙ attributes_front f.attributes (mark (codes ":") ∷ mode_words f.mode (quoted_words f.formula k)) l))

-- Cutting.
first_word : TheoryItem → List ℕ
first_word (builtins bs) = codes "builtins"
first_word (functions ss) = codes "functions"
first_word (rule r) = codes "rule"
first_word (statement (restriction r)) = codes "restriction"
first_word (statement (lemma l)) = codes "lemma"

item_begins : (v : TheoryItem) (k : List Word) → item_words v k ≡ mark (first_word v) ∷ drop 1 (item_words v k)
unfolding first_word
item_begins (builtins bs) k = refl
item_begins (functions ss) k = refl
item_begins (rule r) k = refl
item_begins (statement (restriction r)) k = refl
item_begins (statement (lemma l)) k = refl

is_first : (v : TheoryItem) → is_item_word (mark (first_word v)) ≡ true
unfolding first_word
is_first (builtins bs) = refl
is_first (functions ss) = refl
is_first (rule r) = refl
is_first (statement (restriction r)) = refl
is_first (statement (lemma l)) = refl

split_words : (a k : List Word) (ps : List Placed) → words ps ≡ a ++ k → (qs rs : List Placed) × (ps ≡ qs ++ rs) × (words qs ≡ a) × (words rs ≡ k)
split_words [] k ps e = ([], ps, refl, refl, e)
split_words (w ∷ a) k [] e = absurd (cc (e))
split_words (w ∷ a) k (p ∷ ps) e =
    let tails : words ps ≡ a ++ k = cc (e) in
    let heads : p.word ≡ w = cc (e) in
    let more = split_words a k ps tails in
    (p ∷ more.0, more.1, ap (λ (x : List Placed). p ∷ x) more.2, (λ i. heads i ∷ more.3 i), more.4)

free_placed : (ps : List Placed) → AreNoItemWords (words ps) → NoItemWord ps
free_placed [] h = tt
free_placed (p ∷ ps) h = (h.0, free_placed ps h.1)

items_start : (vs : List TheoryItem) (ps : List Placed) → words ps ≡ items_words vs → StartsItem ps
items_start vs [] e = tt
items_start [] (p ∷ ps) e = let here : p.word ≡ mark (codes "end") = cc (e) in subst (λ (w : Word). is_item_word w ≡ true) (sym here) refl
items_start (v ∷ vs) (p ∷ ps) e =
    let all : p.word ∷ words ps ≡ mark (first_word v) ∷ drop 1 (item_words v (items_words vs)) = e ∙ item_begins v (items_words vs) in
    let here : p.word ≡ mark (first_word v) = cc (all) in
    subst (λ (w : Word). is_item_word w ≡ true) (sym here) (is_first v)

abbrev pub AllTidy : Sig → List TheoryItem → Type 0
AllTidy g [] = Unit {0}
AllTidy g (v ∷ vs) = IsTidyItem g v × AllTidy g vs

-- each is spelled so by its words
abbrev pub AllSpelled : (TheoryItem → List Word → Type 0) → List TheoryItem → Type 0
AllSpelled Spells [] = Unit {0}
AllSpelled Spells (v ∷ vs) = Spells v (item_words v []) × AllSpelled Spells vs

pub any_spelled : ArePrinted → (g : Sig) (vs : List TheoryItem) → AllTidy g vs → AllSpelled (IsAnyTheoryItem g) vs
any_spelled printed g [] h = tt
any_spelled printed g (v ∷ vs) h = (item_spelled printed g v h.0, any_spelled printed g vs h.1)

abbrev pub AllSmall : Limits → List TheoryItem → Type 0
AllSmall m [] = Unit {0}
AllSmall m (v ∷ vs) = IsSmallItem m v × AllSmall m vs

pub within_spelled : ArePrinted → (g : Sig) (m : Limits) (vs : List TheoryItem) → AllTidy g vs → AllSmall m vs → AllSpelled (IsTheoryItem g m) vs
within_spelled printed g m [] h small = tt
within_spelled printed g m (v ∷ vs) h small = (small_spelled printed g m v h.0 small.0, within_spelled printed g m vs h.1 small.1)

-- what the words of items are cut into
pub record AreCut (Spells : TheoryItem → List Word → Type 0) (vs : List TheoryItem) (ps : List Placed) : Type 0 where
  pub pieces : List (List Placed)
  pub is_cut : IsCut ps pieces
  pub items : List (Standing TheoryItem)
  pub are : AreItems Spells pieces items
  pub same : items_of items ≡ vs

-- words of printed items are cut into them
pub items_cut : ArePrinted → FormsAreFree → (Spells : TheoryItem → List Word → Type 0) (g : Sig) (vs : List TheoryItem) → AllTidy g vs → AllSpelled Spells vs → (ps : List Placed) → words ps ≡ items_words vs
    → AreCut Spells vs ps
items_cut printed free Spells g [] h s [] e = absurd (cc (e))
items_cut printed free Spells g [] h s (p ∷ []) e =
    record { pieces = (p ∷ []) ∷ []; is_cut = cut_one p [] [] tt tt cut_none; items = []; are = items_end e; same = refl }
items_cut printed free Spells g [] h s (p ∷ q ∷ ps) e = absurd (cc (e))
items_cut printed free Spells g (v ∷ vs) h s ps e =
    let front : words ps ≡ item_words v [] ++ items_words vs = e ∙ item_front printed v [] (items_words vs) in
    let parts = split_words (item_words v []) (items_words vs) ps front in
    finish parts.0 parts.1 parts.2 parts.3 (items_start vs parts.1 parts.4) (items_cut printed free Spells g vs h.1 s.1 parts.1 parts.4)
  where
    finish : (qs rs : List Placed) → ps ≡ qs ++ rs → words qs ≡ item_words v [] → StartsItem rs → AreCut Spells vs rs → AreCut Spells (v ∷ vs) ps
    finish [] rs whole is starts rest = absurd (let all : [] ≡ mark (first_word v) ∷ drop 1 (item_words v []) = is ∙ item_begins v [] in cc (all))
    finish (q ∷ qs) rs whole is starts rest =
        let item : IsAnyTheoryItem g v (words (q ∷ qs)) = subst (λ (a : List Word). IsAnyTheoryItem g v a) (sym is) (item_spelled printed g v h.0) in
        let unbroken : AreNoItemWords (words qs) = item_free printed free item.is in
        record {
          pieces = (q ∷ qs) ∷ rest.pieces;
          is_cut = subst (λ (x : List Placed). IsCut x ((q ∷ qs) ∷ rest.pieces)) (sym whole) (cut_one q qs rs (free_placed qs unbroken) starts rest.is_cut);
          items = record { item = v; line = first_line (q ∷ qs) } ∷ rest.items;
          are = items_more (subst (λ (a : List Word). Spells v a) (sym is) s.0) rest.are;
          same = ap (λ (us : List TheoryItem). v ∷ us) rest.same;
        }

-- the words of a header
pub header_of : (x : List ℕ) (ps : List Placed) (k : List Word) → words ps ≡ mark (codes "theory") ∷ name x ∷ mark (codes "begin") ∷ k
    → (rest : List Placed) × IsHeader x ps rest × (words rest ≡ k)
header_of x [] k e = absurd (cc (e))
header_of x (p ∷ []) k e = absurd (cc (e))
header_of x (p ∷ q ∷ []) k e = absurd (cc (e))
header_of x (p ∷ q ∷ r ∷ rest) k e =
    let first : p.word ≡ mark (codes "theory") = cc (e) in
    let second : q.word ≡ name x = cc (e) in
    let third : r.word ≡ mark (codes "begin") = cc (e) in
    let tails : words rest ≡ k = cc (e) in (
      rest,
      record {
        theory_line = p.line;
        name_line = q.line;
        begin_line = r.line;
        spelled = λ i. record { word = first i; line = p.line } ∷ record { word = second i; line = q.line } ∷ record { word = third i; line = r.line } ∷ rest;
      },
      tails,
    )
