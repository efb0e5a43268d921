-- Which word is told of a fault of a formula: in small formulas, and in a file with these restrictions and lemmas.
use Rattle.std.proofs.Common.{◌≡◌, ℕ, ◌+◌, suc, zero, true, List, [], ◌∷◌, ◌++◌, Option, Some, length, refl, sym, ap, subst, ◌∙◌}
use Rattle.std.specs.Prelude.{codes, slice_get}
use Rattle.sap_terms.specs.Signature.{Sig, pairs_alone}
use Rattle.sap_text.specs.declared.token.Token.{Token}
use Rattle.sap_formula.specs.CheckExamples.{decrypted, function_before, named, shows, with_symmetric}
use Rattle.sap_formula.specs.Examples.{a, i}
use Rattle.sap_formula.specs.Faults.{HasFault, HasNoFault, IsFaultAt, told}
use Rattle.sap_formula.specs.Form.{exists}
use Rattle.sap_formula.specs.Laws.{OneFaultLaw, NoFaultLaw}
use Rattle.sap_formula.specs.Parts.{Part}
use Rattle.sap_formula.specs.declared.binder.Binder.TheVariants.{Time}
use Rattle.sap_formula.specs.declared.fault.FormulaFault.{FormulaFault}
use Rattle.sap_formula.specs.declared.fault.FormulaFlaw.{FormulaFlaw}
use Rattle.sap_formula.specs.declared.fault.FormulaFlaw.TheVariants.{BadFunction, Destructor, Reserved, UnboundVar}
use Rattle.sap_formula_words.specs.StatementWords.{HasStatementWords}
use Rattle.sap_grammar.specs.Cut.{Placed, words}
use Rattle.sap_grammar.specs.Items.{items_end, items_more}
use Rattle.sap_grammar.specs.declared.limits.Limits.{Limits}
use Rattle.sap_macro.specs.Written.{Written}
use Rattle.sap_read.specs.Item.{process, signature_of, statement}
use Rattle.sap_read.specs.ItemGrammar.{AreItems, IsItem}
use Rattle.sap_statements.specs.Statements.{formula_of}
use Rattle.sap_statements.specs.declared.statement.Statement.{Statement}
use Rattle.sap_read_places.specs.PartExamples.{HasStatements, on_line}
use Rattle.sap_read_places.specs.PartPlaces.{IsFaultyWord, IsPartPlace, LocatedStatement, faulty_here, faulty_later, located_statements, stated_at}
use Rattle.sap_read_places.specs.Placed.{stretch_before}
use Rattle.sap_read_places.specs.UseExamples.{told_before}
use Rattle.sap_read_places.specs.declared.told.Told.{Told}
use Rattle.sap_read_places.proofs.FaultyParts.{SameWords, none_stated, one_faulty_word, one_stated, same_located, same_told}
use Rattle.sap_read_places.proofs.PlacedFiles.{OneCut, OneItems, OneTokens}

-- ---- at which part the faults of small formulas stand

some_part : {p q : Part} → ◌≡◌ {A = Option Part} (Some p) (Some q) → p ≡ q
some_part e = cc (e)

-- the part that stands there has the fault
at_part : (g : Sig) (w : FormulaFlaw) {p q : Part} → ◌≡◌ {A = Option Part} (Some p) (Some q) → HasFault g true w q → HasFault g true w p
at_part g w e h = subst (HasFault g true w) (sym (some_part e)) h

pub function_at : (k : ℕ) → IsFaultAt pairs_alone true function_before BadFunction k → k ≡ 3
function_at zero a = absurd (at_part pairs_alone BadFunction a.stands a.fault)
function_at (suc zero) a = absurd (at_part pairs_alone BadFunction a.stands a.fault)
function_at (suc (suc zero)) a = absurd (at_part pairs_alone BadFunction a.stands a.fault refl)
function_at (suc (suc (suc zero))) a = refl
function_at (suc (suc (suc (suc zero)))) a = absurd (at_part pairs_alone BadFunction a.stands a.fault)
function_at (suc (suc (suc (suc (suc k))))) a = absurd (cc (a.stands))

pub time_at : (k : ℕ) → IsFaultAt pairs_alone true (shows a i) UnboundVar k → k ≡ 1
time_at zero a = absurd (at_part pairs_alone UnboundVar a.stands a.fault)
time_at (suc zero) a = refl
time_at (suc (suc k)) a = absurd (cc (a.stands))

pub name_at : (k : ℕ) → IsFaultAt pairs_alone true (exists (Time i ∷ []) (named (codes "Init") i)) Reserved k → k ≡ 1
name_at zero a = absurd (at_part pairs_alone Reserved a.stands a.fault)
name_at (suc zero) a = refl
name_at (suc (suc zero)) a = absurd (at_part pairs_alone Reserved a.stands a.fault)
name_at (suc (suc (suc k))) a = absurd (cc (a.stands))

pub symbol_at : (k : ℕ) → IsFaultAt with_symmetric true decrypted Destructor k → k ≡ 2
symbol_at zero a = absurd (at_part with_symmetric Destructor a.stands a.fault)
symbol_at (suc zero) a = absurd (at_part with_symmetric Destructor a.stands a.fault)
symbol_at (suc (suc zero)) a = refl
symbol_at (suc (suc (suc zero))) a = absurd (at_part with_symmetric Destructor a.stands a.fault)
symbol_at (suc (suc (suc (suc k)))) a = absurd (cc (a.stands))

-- the number at the place where it stands
pub number_at : (ns : List ℕ) {at k n : ℕ} → at ≡ k → slice_get ns k ≡ Some n → slice_get ns at ≡ Some n
number_at ns e h = ap (slice_get ns) e ∙ h

-- ---- one name, one fault, one word

-- this is the one thing that is told
abbrev pub IsThis : List ℕ → FormulaFault → ℕ → List ℕ → FormulaFault → ℕ → Type 0
IsThis x h l y f k = (y ≡ x) × (f ≡ h) × (k ≡ l)

module _ (one : OneFaultLaw) (never : NoFaultLaw) where
  one_name : {g : Sig} {ss : List LocatedStatement} {x y : List ℕ} {f h : FormulaFault} {k l : ℕ} → IsFaultyWord g ss y f k → IsFaultyWord g ss x h l → y ≡ x
  one_name (faulty_here a e) (faulty_here b i) = refl
  one_name (faulty_here a e) (faulty_later n b) = absurd (never _ _ _ _ _ a n)
  one_name (faulty_later n a) (faulty_here b i) = absurd (never _ _ _ _ _ b n)
  one_name (faulty_later n a) (faulty_later m b) = one_name a b

  one_flaw : {g : Sig} {ss : List LocatedStatement} {x y : List ℕ} {f h : FormulaFault} {k l : ℕ} → IsFaultyWord g ss y f k → IsFaultyWord g ss x h l → f ≡ h
  one_flaw (faulty_here {w = w} {n = n} a e) (faulty_here {w = v} {n = m} b i) =
      let same = one _ _ _ w v n m a b in
      ap (λ (u : FormulaFlaw). told u n) same.0 ∙ ap (told v) same.1
  one_flaw (faulty_here a e) (faulty_later n b) = absurd (never _ _ _ _ _ a n)
  one_flaw (faulty_later n a) (faulty_here b i) = absurd (never _ _ _ _ _ b n)
  one_flaw (faulty_later n a) (faulty_later m b) = one_flaw a b

  pub is_this : {g : Sig} {ss : List LocatedStatement} {x : List ℕ} {h : FormulaFault} {l : ℕ} → IsFaultyWord g ss x h l
      → (y : List ℕ) (f : FormulaFault) (k : ℕ) → IsFaultyWord g ss y f k → IsThis x h l y f k
  is_this b y f k a = (one_name a b, one_flaw a b, one_faulty_word one never a b)

pub none_faulty : {g : Sig} {s : LocatedStatement} → NoFaultLaw → HasNoFault g true (formula_of s.statement) → (y : List ℕ) (f : FormulaFault) (k : ℕ) → IsFaultyWord g (s ∷ []) y f k → ⊥
none_faulty never n y f k (faulty_here a e) = never _ _ _ _ _ a n
none_faulty never n y f k (faulty_later m u) = elim u [ ]

-- ---- the restrictions and lemmas of a file

module _ (same : SameWords) where
  stated_here : {g h : Sig} {m : Limits} {s : Statement} (a : List Placed) {ns : List ℕ} → HasStatementWords h m s (words a) ns → (r : IsItem g (statement s) (words a)) (n : ℕ)
      → stated_at r n ≡ record { statement = s; words = ns; behind = n } ∷ []
  stated_here {s = s} a w r n =
      sym (one_stated same w.spelled r n refl refl) ∙ ap (λ (ks : List ℕ). record { statement = s; words = ks; behind = n } ∷ []) w.numbers

  pub all_stated : (g h : Sig) (m : Limits) (a b d e : List Placed) (s u : Statement) (p : Written) (ns os : List ℕ) (k l n : ℕ) → HasStatementWords h m s (words a) ns
      → HasStatementWords h m u (words d) os → (r : AreItems g (a ∷ b ∷ d ∷ e ∷ []) (on_line (statement s) k ∷ on_line (process p) l ∷ on_line (statement u) n ∷ []))
      → located_statements r
      ≡ record { statement = s; words = ns; behind = length b + (length d + (length e + 0)) } ∷ record { statement = u; words = os; behind = length e + 0 } ∷ []
  all_stated g h m a b d e s u p ns os k l n v w (items_more q (items_more r (items_more t (items_end x)))) =
      let first = stated_here a v q (length b + (length d + (length e + 0))) in
      let second = none_stated same r (length d + (length e + 0)) tt in
      let third = stated_here d w t (length e + 0) in
      λ j. first j ++ (second j ++ (third j ++ []))

-- ---- in a file

module _ {z : List ℕ} {ts : List Token} {g : Sig} {ls : List LocatedStatement} (h : HasStatements z ts g ls) where
  pub is_told : {y : List ℕ} {f : FormulaFault} {k : ℕ} → IsFaultyWord g ls y f k → IsPartPlace z y f (told_before ts k [])
  is_told {y = y} {f = f} {k = k} u =
      record {
        tokens = ts;
        name = h.name;
        cut = h.cut;
        standing = h.standing;
        parted = h.parted;
        items = h.items;
        nothing = h.nothing;
        word = k;
        faulty =
            subst (λ (v : Sig). IsFaultyWord v (located_statements h.items) y f k) (sym h.signature_is)
            (subst (λ (ks : List LocatedStatement). IsFaultyWord g ks y f k) (sym h.statements_are) u);
        word_is = refl;
        uses_are = refl;
      }

  module _ (tokens : OneTokens) (cuts : OneCut) (items : OneItems) (same : SameWords) where
    -- what is told of in the file is told of these
    pub is_among : {y : List ℕ} {f : FormulaFault} {t : Told} (a : IsPartPlace z y f t) → IsFaultyWord g ls y f a.word
    is_among {y = y} {f = f} a =
        let cut : a.cut ≡ h.cut = cuts z a.tokens ts a.name h.name a.cut h.cut a.parted h.parted in
        let is : a.standing ≡ h.standing =
        items a.cut a.standing h.standing a.items (subst (λ (c : List (List Placed)). AreItems (signature_of h.standing) c h.standing) (sym cut) h.items) in
        let these : located_statements a.items ≡ ls = same_located same a.items h.items cut is ∙ h.statements_are in
        subst (λ (ks : List LocatedStatement). IsFaultyWord g ks y f a.word) these
        (subst (λ (v : Sig). IsFaultyWord v (located_statements a.items) y f a.word) (ap signature_of is ∙ h.signature_is) a.faulty)

    pub only_told : {x : List ℕ} {e : FormulaFault} {l : ℕ} → ((y : List ℕ) (f : FormulaFault) (k : ℕ) → IsFaultyWord g ls y f k → IsThis x e l y f k)
        → (y : List ℕ) (f : FormulaFault) (t : Told) → IsPartPlace z y f t → (y ≡ x) × (f ≡ e) × (t ≡ told_before ts l [])
    only_told only y f t a =
        let this = only y f a.word (is_among a) in
        let ts_are : a.tokens ≡ ts = tokens z a.tokens ts a.name h.name a.cut h.cut a.parted h.parted in
        (this.0, this.1, same_told (a.word_is ∙ ap (stretch_before a.tokens) this.2 ∙ ap (λ (us : List Token). stretch_before us _) ts_are) a.uses_are)
