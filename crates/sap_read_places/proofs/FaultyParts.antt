-- A fault of a formula stands at one word of a file, and where a file is refused for one it stands.
use Rattle.std.proofs.Common.{◌≡◌, ◌<◌, ℕ, ◌+◌, Bool, true, List, [], ◌∷◌, ◌++◌, Option, Some, None, length, refl, sym, ap, subst, ◌∙◌, arith}
use Rattle.std.proofs.lemmas.Option.{slice_get-get_or, slice_get_within}
use Rattle.std.specs.Prelude.{Err, get_or, slice_get, ⊤}
use Rattle.sap_terms.specs.Signature.{Sig}
use Rattle.sap_text.specs.declared.token.Token.{Token}
use Rattle.sap_formula.specs.Faults.{IsFaultAt, IsFirstFault}
use Rattle.sap_formula.specs.Form.{Form}
use Rattle.sap_formula.specs.Laws.{OneFaultLaw, NoFaultLaw}
use Rattle.sap_formula.specs.Parts.{form_parts}
use Rattle.sap_formula.specs.declared.binder.Binder.{Binder}
use Rattle.sap_formula.specs.declared.fault.FormulaFault.{FormulaFault}
use Rattle.sap_formula.specs.declared.fault.FormulaFlaw.{FormulaFlaw}
use Rattle.sap_formula_words.specs.StatementWords.{statement_words}
use Rattle.sap_grammar.specs.Cut.{Placed, words}
use Rattle.sap_grammar.specs.Items.{items_end, items_more}
use Rattle.sap_grammar.specs.Words.{Word}
use Rattle.sap_grammar.specs.declared.limits.Limits.{Limits}
use Rattle.sap_locks.specs.Annotation.{LockFlaw, without, over}
use Rattle.sap_read.specs.Causes.{cause_of, fault_of_uses, lock_fault}
use Rattle.sap_read.specs.Files.{IsParted, IsRead, no_tokens, no_header, no_item, refused, unexpanded, ill, locked, unchecked}
use Rattle.sap_read.specs.Item.{Item, Standing, signature_of, statement, statements, stated_by}
use Rattle.sap_read.specs.ItemGrammar.{AreItems, IsItem, item_builtins, item_functions, item_definition, item_process, item_statement}
use Rattle.sap_read.specs.LocatedItems.{word_count}
use Rattle.sap_read.specs.declared.fault.ReadFault.{ReadFault}
use Rattle.sap_read.specs.declared.fault.ReadFault.TheVariants.{Formula}
use Rattle.sap_statements.specs.Stated.{IsFirstFaulty, this_one, later_one}
use Rattle.sap_statements.specs.Statements.{IsStatement, formula_of}
use Rattle.sap_statements.specs.declared.statement.Statement.{Statement}
use Rattle.sap_uses.specs.declared.fault.MacroFault.{MacroFault}
use Rattle.sap_uses.specs.declared.fault.MacroFault.TheVariants as uses
use Rattle.sap_stretches.specs.declared.stretch.Stretch.{Stretch}
use Rattle.sap_read_places.specs.declared.told.Told.{Told}
use Rattle.sap_read_places.specs.Placed.{stretch_before}
use Rattle.sap_read_places.specs.PartPlaces.{IsFaultyWord, IsPartPlace, LocatedStatement, faulty_here, faulty_later, located_statements, stated_at}
use Rattle.sap_read_places.proofs.FirstCauses.{of_cause}
use Rattle.sap_read_places.proofs.PlacedFiles.{OneCut, OneItems, OneTokens}

-- what the laws of statements and their words say
abbrev pub SameWords : Type 0
SameWords = (g h : Sig) (m l : Limits) (s : Statement) (a : List Word) (r : IsStatement g m s a) (t : IsStatement h l s a) → statement_words r ≡ statement_words t

abbrev pub CountedWords : Type 0
CountedWords = (g : Sig) (m : Limits) (s : Statement) (a : List Word) (r : IsStatement g m s a) (scope : List Binder) → length (statement_words r) ≡ length (form_parts scope (formula_of s))

-- ---- one word

-- a fault that counts stands at one part
first_is_one : {g : Sig} {r : Bool} {f : Form} {w v : FormulaFlaw} {m n : List ℕ} (a : IsFirstFault g r f w m) (b : IsFirstFault g r f v n) → w ≡ v → a.at ≡ b.at
first_is_one {g = g} {r = r} {f = f} {w = w} {v = v} a b same =
    let low : a.at < b.at → ⊥ = λ lt. b.first a.at lt (subst (λ (u : FormulaFlaw). IsFaultAt g r f u a.at) same a.here) in
    let high : b.at < a.at → ⊥ = λ lt. a.first b.at lt (subst (λ (u : FormulaFlaw). IsFaultAt g r f u b.at) (sym same) b.here) in
    omega (arith, low, high)

some_number : {k l : ℕ} → ◌≡◌ {A = Option ℕ} (Some k) (Some l) → k ≡ l
some_number e = cc (e)

module _ (one : OneFaultLaw) (never : NoFaultLaw) where
  same_word : {g : Sig} (s : LocatedStatement) {w v : FormulaFlaw} {m n : List ℕ} {k l : ℕ} (a : IsFirstFault g true (formula_of s.statement) w m) (b : IsFirstFault g true (formula_of s.statement) v n)
      → slice_get s.words a.at ≡ Some k → slice_get s.words b.at ≡ Some l → k + s.behind ≡ l + s.behind
  same_word {g = g} s {w = w} {v = v} {m = m} {n = n} a b h i =
      let at : a.at ≡ b.at = first_is_one a b (one g true (formula_of s.statement) w v m n a b).0 in
      ap (λ (c : ℕ). c + s.behind) (some_number (sym h ∙ ap (slice_get s.words) at ∙ i))

  pub one_faulty_word : {g : Sig} {ss : List LocatedStatement} {x y : List ℕ} {f h : FormulaFault} {k l : ℕ} → IsFaultyWord g ss x f k → IsFaultyWord g ss y h l → k ≡ l
  one_faulty_word (faulty_here {s = s} a h) (faulty_here b i) = same_word s a b h i
  one_faulty_word (faulty_here a h) (faulty_later n b) = absurd (never _ _ _ _ _ a n)
  one_faulty_word (faulty_later n a) (faulty_here b i) = absurd (never _ _ _ _ _ b n)
  one_faulty_word (faulty_later n a) (faulty_later m b) = one_faulty_word a b

abbrev pub IsNoStatement : Item → Type 0
IsNoStatement (statement s) = ⊥
IsNoStatement _ = ⊤

first_of_both : {s t : Standing} {ss ts : List Standing} → s ∷ ss ≡ t ∷ ts → s ≡ t
first_of_both e = cc (e)

module _ (same : SameWords) where
  one_statement : {g h : Sig} {m l : Limits} {s u : Statement} {a b : List Word} (r : IsStatement g m s a) (t : IsStatement h l u b) → s ≡ u → a ≡ b → statement_words r ≡ statement_words t
  one_statement {g = g} {h = h} {m = m} {l = l} {s = s} {u = u} {a = a} r t e f =
      let here : (t : IsStatement h l u a) → statement_words r ≡ statement_words t =
      subst (λ (v : Statement). (t : IsStatement h l v a) → statement_words r ≡ statement_words t) e (λ t. same g h m l s a r t) in
      subst (λ (c : List Word). (t : IsStatement h l u c) → statement_words r ≡ statement_words t) f here t

  pub none_stated : {h : Sig} {w : Item} {b : List Word} (t : IsItem h w b) (n : ℕ) → IsNoStatement w → stated_at t n ≡ []
  none_stated (item_builtins t) n h = refl
  none_stated (item_functions t) n h = refl
  none_stated (item_definition q t) n h = refl
  none_stated (item_process t) n h = refl
  none_stated (item_statement t) n h = absurd h

  pub one_stated : {g h : Sig} {m : Limits} {s : Statement} {w : Item} {a b : List Word} (r : IsStatement g m s a) (t : IsItem h w b) (n : ℕ) → statement s ≡ w → a ≡ b
      → record { statement = s; words = statement_words r; behind = n } ∷ [] ≡ stated_at t n
  one_stated r (item_builtins t) n e f = absurd (cc (e))
  one_stated r (item_functions t) n e f = absurd (cc (e))
  one_stated r (item_definition q t) n e f = absurd (cc (e))
  one_stated r (item_process t) n e f = absurd (cc (e))
  one_stated {s = s} r (item_statement {s = u} t) n e f =
      let is : s ≡ u = cc (e) in
      ap (λ (v : Statement). record { statement = v; words = statement_words r; behind = n } ∷ []) is
      ∙ ap (λ (ns : List ℕ). record { statement = u; words = ns; behind = n } ∷ []) (one_statement r t is f)

  same_stated : {g h : Sig} {v w : Item} {a b : List Word} (r : IsItem g v a) (t : IsItem h w b) (n : ℕ) → v ≡ w → a ≡ b → stated_at r n ≡ stated_at t n
  same_stated (item_builtins r) t n e f = sym (none_stated t n (subst IsNoStatement e tt))
  same_stated (item_functions r) t n e f = sym (none_stated t n (subst IsNoStatement e tt))
  same_stated (item_definition p r) t n e f = sym (none_stated t n (subst IsNoStatement e tt))
  same_stated (item_process r) t n e f = sym (none_stated t n (subst IsNoStatement e tt))
  same_stated (item_statement r) t n e f = one_stated r t n e f

  -- those of a file are one list
  pub same_located : {g h : Sig} {cut dut : List (List Placed)} {is js : List Standing} (r : AreItems g cut is) (t : AreItems h dut js) → cut ≡ dut → is ≡ js → located_statements r ≡ located_statements t
  same_located (items_end e) (items_end f) c d = refl
  same_located (items_end e) (items_more t ts) c d = absurd (cc (d))
  same_located (items_more r rs) (items_end f) c d = absurd (cc (d))
  same_located (items_more {i = i} {is = is} {v = v} {vs = vs} r rs) (items_more {i = j} {is = js} {v = w} {vs = ws} t ts) c d =
      let here : i ≡ j = cc (c) in
      let later : is ≡ js = cc (c) in
      let item : v ≡ w = ap (λ (s : Standing). s.item) (first_of_both d) in
      let more : vs ≡ ws = cc (d) in
      ap (λ (ls : List LocatedStatement). ls ++ located_statements rs) (same_stated r t (word_count is) item (ap words here))
      ∙ ap (λ (n : ℕ). stated_at t n ++ located_statements rs) (ap word_count later)
      ∙ ap (λ (ls : List LocatedStatement). stated_at t (word_count js) ++ ls) (same_located rs ts later more)

pub same_told : {s t : Told} → s.word ≡ t.word → s.uses ≡ t.uses → s ≡ t
same_told {s = s} {t = t} w u =
    ap (λ (v : Stretch). record { word = v; uses = s.uses }) w ∙ ap (λ (us : List Stretch). record { word = t.word; uses = us }) u

module _ (tokens : OneTokens) (cuts : OneCut) (items : OneItems) (one : OneFaultLaw) (never : NoFaultLaw) (same : SameWords) where
  pub one_part_place : (z y : List ℕ) (f : FormulaFault) (s t : Told) → IsPartPlace z y f s → IsPartPlace z y f t → s ≡ t
  one_part_place z y f s t a b =
      let ts : a.tokens ≡ b.tokens = tokens z a.tokens b.tokens a.name b.name a.cut b.cut a.parted b.parted in
      let cut : a.cut ≡ b.cut = cuts z a.tokens b.tokens a.name b.name a.cut b.cut a.parted b.parted in
      let is : a.standing ≡ b.standing =
      items a.cut a.standing b.standing a.items (subst (λ (c : List (List Placed)). AreItems (signature_of b.standing) c b.standing) (sym cut) b.items) in
      let ls : located_statements a.items ≡ located_statements b.items = same_located same a.items b.items cut is in
      let faulty : IsFaultyWord (signature_of b.standing) (located_statements b.items) y f a.word =
      subst (λ (ls : List LocatedStatement). IsFaultyWord (signature_of b.standing) ls y f a.word) ls
      (subst (λ (ks : List Standing). IsFaultyWord (signature_of ks) (located_statements a.items) y f a.word) is a.faulty) in
      let word : a.word ≡ b.word = one_faulty_word one never faulty b.faulty in
      same_told (a.word_is ∙ ap (stretch_before a.tokens) word ∙ ap (λ (us : List Token). stretch_before us b.word) ts ∙ sym b.word_is) (a.uses_are ∙ sym b.uses_are)

-- ---- some word

module _ (count : CountedWords) where
  -- the fault that counts in a statement has its word
  pub has_word : {g : Sig} {m : Limits} {s : Statement} {a : List Word} (r : IsStatement g m s a) {h : Sig} {w : FormulaFlaw} {n : List ℕ} (first : IsFirstFault h true (formula_of s) w n)
      → (k : ℕ) × (slice_get (statement_words r) first.at ≡ Some k)
  has_word {g = g} {m = m} {s = s} {a = a} r first =
      let inside : first.at < length (statement_words r) =
      subst (λ (n : ℕ). first.at < n) (sym (count g m s a r [])) (slice_get_within (form_parts [] (formula_of s)) first.at first.here.part first.here.stands) in
      (get_or (statement_words r) first.at 0, slice_get-get_or (statement_words r) first.at 0 inside)

  -- so has that of the first faulty of some
  abbrev HasWord : Sig → List LocatedStatement → List ℕ → FormulaFault → Type 0
  HasWord h ls y f = (k : ℕ) × IsFaultyWord h ls y f k

  stated_first : {g h : Sig} {m : Limits} {s : Statement} {a : List Word} (r : IsStatement g m s a) (behind : ℕ) {ss : List Statement} (ls : List LocatedStatement) {y : List ℕ} {f : FormulaFault}
      → IsFirstFaulty h true (s ∷ ss) y f → (IsFirstFaulty h true ss y f → HasWord h ls y f) → HasWord h (record { statement = s; words = statement_words r; behind = behind } ∷ ls) y f
  stated_first r behind ls (this_one first) rest = let k = has_word r first in (k.0 + behind, faulty_here first k.1)
  stated_first r behind ls (later_one n u) rest = let k = rest u in (k.0, faulty_later n k.1)

  item_first : {g h : Sig} {v : Item} {a : List Word} (r : IsItem g v a) (behind : ℕ) {ss : List Statement} (ls : List LocatedStatement) {y : List ℕ} {f : FormulaFault}
      → IsFirstFaulty h true (stated_by v ++ ss) y f → (IsFirstFaulty h true ss y f → HasWord h ls y f) → HasWord h (stated_at r behind ++ ls) y f
  item_first (item_builtins r) behind ls u rest = rest u
  item_first (item_functions r) behind ls u rest = rest u
  item_first (item_definition p r) behind ls u rest = rest u
  item_first (item_process r) behind ls u rest = rest u
  item_first (item_statement r) behind ls u rest = stated_first r behind ls u rest

  pub some_faulty_word : {g h : Sig} {cut : List (List Placed)} {is : List Standing} (r : AreItems g cut is) {y : List ℕ} {f : FormulaFault} → IsFirstFaulty h true (statements is) y f
      → HasWord h (located_statements r) y f
  some_faulty_word (items_end e) u = elim u [ ]
  some_faulty_word (items_more {is = is} r rs) u = item_first r (word_count is) (located_statements rs) u (λ v. some_faulty_word rs v)

-- a cause that is no fault of a formula
abbrev NoFormula : ReadFault → Type 0
NoFormula (Formula y f) = ⊥
NoFormula _ = ⊤

early_is_none : (is : List Standing) (e : ReadFault) → cause_of is ≡ Some e → NoFormula e
early_is_none = of_cause NoFormula tt (λ n. tt) (λ x. tt) (λ x. tt) (λ x. tt)

use_is_none : (f : MacroFault) → NoFormula (fault_of_uses f)
use_is_none uses.Mem = tt
use_is_none (uses.Parameters x) = tt
use_is_none (uses.Arguments x) = tt
use_is_none uses.TooMany = tt
use_is_none uses.TooDeep = tt
use_is_none (uses.Large x) = tt
use_is_none (uses.Flawed x w path) = tt

lock_is_none : (w : LockFlaw) (path : List ℕ) → NoFormula (lock_fault w path)
lock_is_none without path = tt
lock_is_none over path = tt

isnt_none : {A : Type 0} {e : ReadFault} {y : List ℕ} {f : FormulaFault} → NoFormula e → e ≡ Formula y f → A
isnt_none {y = y} {f = f} n e = absurd (subst NoFormula e n)

same_fault : {x y : List ℕ} {f h : FormulaFault} → ◌≡◌ {A = ReadFault} (Formula x f) (Formula y h) → (x ≡ y) × (f ≡ h)
same_fault e = (cc (e), cc (e))

module _ (count : CountedWords) (z : List ℕ) where
  abbrev IsSomewhere : List ℕ → FormulaFault → Type 0
  IsSomewhere y f = (t : Told) × IsPartPlace z y f t

  checked_at : {ts : List Token} {x : List ℕ} {cut : List (List Placed)} {is : List Standing} {y : List ℕ} {f : FormulaFault} → IsParted z ts x cut → AreItems (signature_of is) cut is
      → cause_of is ≡ None → IsFirstFaulty (signature_of is) true (statements is) y f → IsSomewhere y f
  checked_at {ts = ts} {x = x} {cut = cut} {is = is} p i c u =
      let k = some_faulty_word count i u in (
        record { word = stretch_before ts k.0; uses = [] },
        record { tokens = ts; name = x; cut = cut; standing = is; parted = p; items = i; nothing = c; word = k.0; faulty = k.1; word_is = refl; uses_are = refl },
      )

  formula_at : {e : ReadFault} {y : List ℕ} {f : FormulaFault} → e ≡ Formula y f → IsRead z (Err e) → IsSomewhere y f
  formula_at h (no_tokens l) = absurd (cc (h))
  formula_at h (no_header t n) = absurd (cc (h))
  formula_at h (no_item p f) = absurd (cc (h))
  formula_at h (refused {is = is} {e = e} p i c) = isnt_none (early_is_none is e c) h
  formula_at h (unexpanded {f = f} p i c u) = isnt_none (use_is_none f) h
  formula_at h (ill p i c w f) = absurd (cc (h))
  formula_at h (locked {w = w} {path = path} p i c f good l) = isnt_none (lock_is_none w path) h
  formula_at {y = y} {f = f} h (unchecked {is = is} {y = x} {f = g} p i c w v a u) =
      let same = same_fault h in
      checked_at p i c (subst (λ (v : FormulaFault). IsFirstFaulty (signature_of is) true (statements is) y v) same.1
      (subst (λ (v : List ℕ). IsFirstFaulty (signature_of is) true (statements is) v g) same.0 u))

  pub some_part_place : (y : List ℕ) (f : FormulaFault) → IsRead z (Err (Formula y f)) → (t : Told) × IsPartPlace z y f t
  some_part_place y f read = formula_at refl read
