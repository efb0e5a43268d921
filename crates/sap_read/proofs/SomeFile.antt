-- Bytes are read as something.
use Rattle.std.proofs.Common.{◌≡◌, ℕ, Bool, true, false, List, [], ◌∷◌, drop, Option, Some, None, Ok, Err, inl, inr, refl, sym, ap, subst}
use Rattle.std.specs.Prelude.{◌⊎◌, codes, Result, is_none, slice_get}
use Rattle.sap_text.specs.declared.token.Token.{Token}
use Rattle.sap_text.specs.Tokens.{Lexed, IsLexed}
use Rattle.sap_terms.specs.Signature.{Sig, pairs_alone}
use Rattle.sap_locks.specs.Annotation.{LockFlaw, IsAnnotation, IsFirstLockFlaw}
use Rattle.sap_process.specs.Proc.{Proc}
use Rattle.sap_process.specs.Flaws.{IsFirstFlaw, IsWellFormed}
use Rattle.sap_process.specs.Sorted.{with_sorts}
use Rattle.sap_process.specs.declared.flaw.Flaw.{Flaw}
use Rattle.sap_read.specs.declared.fault.ReadFault.{ReadFault}
use Rattle.sap_read.specs.declared.fault.ReadFault.TheVariants.{Lex as LexFault, Header, Syntax, Ill, Formula}
use Rattle.sap_terms.specs.declared.limits.TheConstants.{MOST_FILE_NAME_BYTES}
use Rattle.sap_draft.specs.declared.limits.TheConstants.{FILE_LIMITS}
use Rattle.sap_grammar.specs.Words.{Word, starts, words_of}
use Rattle.sap_grammar.specs.Reading.{name_at}
use Rattle.sap_macro.specs.Written.{Written, Definition}
use Rattle.sap_read.specs.Item.{definition, process, statement, Standing, declarations, Body, bodies, statements}
use Rattle.sap_grammar.specs.Declarations.{Declaration}
use Rattle.sap_grammar.specs.Cut.{Placed, placed, last_line}
use Rattle.sap_draft.specs.ProcessGrammar.{IsProcess}
use Rattle.sap_read.specs.ItemGrammar.{HasParameters, IsItem, AreItems, IsSomeItem, item_definition, item_process, item_statement}
use Rattle.sap_grammar.specs.Signatures.{signature_from, clash_from}
use Rattle.sap_read.specs.Item.{signature_of}
use Rattle.sap_macro.specs.Expansion.{expansion}
use Rattle.sap_macro.specs.Order.{AreInOrder}
use Rattle.sap_uses.specs.FaultCauses.{Holds, IsMacroCause}
use Rattle.sap_uses.specs.declared.fault.MacroFault.{MacroFault}
use Rattle.sap_read.specs.FileProcess.{definitions_of, main_of}
use Rattle.sap_read.specs.Identifiers.{identifiers_of}
use Rattle.sap_read.specs.Causes.{cause, cause_of, fault_of_uses, lock_fault, unlabelled}
use Rattle.sap_read.specs.Files.{FileContent, AreTokens, IsFileProcess, IsParted, IsRead, no_tokens, no_header, no_item, refused, unexpanded, ill, locked, unchecked, accepted}
use Rattle.sap_grammar.specs.ItemReading.{declared_in, declared_in_all}
use Rattle.sap_grammar.specs.ItemReading.{header_of}
use Rattle.sap_formula.specs.declared.fault.FormulaFault.{FormulaFault}
use Rattle.sap_statements.specs.declared.statement.Statement.{Statement}
use Rattle.sap_statements.specs.Statements.{IsStatement}
use Rattle.sap_statements.specs.Stated.{AreFaultless, IsFirstFaulty, restrictions_of, lemmas_of}
use Rattle.sap_statements.specs.StatementLaws.{StatementLaws}
use Rattle.sap_grammar.specs.ItemLaws.{ItemLaws}
use Rattle.sap_read.specs.code.ProcessLaws.{ProcessLaws}
use Rattle.sap_grammar.proofs.ReadingLaws.Items.{ItemOrNone, ItemsOrFault, items_or_fault}
use Rattle.sap_read.proofs.Caused as caused
use Rattle.sap_read.proofs.Parts.{items_of, parted}
use Rattle.sap_read.proofs.ItemsRead.{declared_are, declared_sound}
use Rattle.sap_read.proofs.ItemTurns.{definition_spelled, process_spelled, no_name, no_head, no_colon, no_definition, no_process, no_other}
use Rattle.sap_read.proofs.ReadParameters.{HeadOrNone, head_or_none}
use Rattle.sap_read.proofs.InOrder.{all_in_order}
use Rattle.sap_read.proofs.Unrefused as unrefused

-- the words are a process under the signature, or under none
abbrev WholeOrNone : Sig → List Word → Type 0
WholeOrNone g ws = ((p : Written) × IsProcess g p ws) ⊎ ((h : Sig) (p : Written) → IsProcess h p ws → ⊥)

module _ (laws : ItemLaws) (stated : StatementLaws) (written : ProcessLaws) where
  whole_or_none : (g : Sig) (ws : List Word) → WholeOrNone g ws
  whole_or_none g ws = by (written.some g ws)
    where
      by : ((p : Written) × IsProcess g p ws) ⊎ ((p : Written) → IsProcess g p ws → ⊥) → WholeOrNone g ws
      by (inl r) = inl r
      by (inr never) = inr (λ h p r. let q = written.too h g p ws r in never q.0 q.1)

  -- the words are an item under the signature, or under none
  abbrev OrNone : Sig → List Word → Type 0
  OrNone g ws = ItemOrNone (IsItem g) IsSomeItem ws

  definition_or_none : (g : Sig) (ws : List Word) → starts (codes "let") ws ≡ true → OrNone g ws
  definition_or_none g ws s = by_name (name_at (drop 1 ws)) refl
    where
      by_whole : (x : List ℕ) (xs : List (List ℕ)) (b : List Word) → name_at (drop 1 ws) ≡ Some x → HasParameters xs (drop 2 ws) b → WholeOrNone g b → OrNone g ws
      by_whole x xs b n h (inl r) = inl (definition x xs r.0, subst (λ (w : List Word). IsItem g (definition x xs r.0) w) (sym (definition_spelled ws x s n)) (item_definition h r.1))
      by_whole x xs b n h (inr never) = inr (no_definition ws xs b s h never)

      by_head : (x : List ℕ) → name_at (drop 1 ws) ≡ Some x → HeadOrNone (drop 2 ws) → OrNone g ws
      by_head x n (inl h) = by_whole x h.0 h.1 n h.2 (whole_or_none g h.1)
      by_head x n (inr never) = inr (λ it. no_head s never it.is)

      by_name : (o : Option (List ℕ)) → name_at (drop 1 ws) ≡ o → OrNone g ws
      by_name None n = inr (λ it. no_name s n it.is)
      by_name (Some x) n = by_head x n (head_or_none (drop 2 ws))

  process_or_none : (g : Sig) (ws : List Word) → starts (codes "process") ws ≡ true → OrNone g ws
  process_or_none g ws s = by_colon (starts (codes ":") (drop 1 ws)) refl
    where
      by_whole : starts (codes ":") (drop 1 ws) ≡ true → WholeOrNone g (drop 2 ws) → OrNone g ws
      by_whole e (inl r) = inl (process r.0, subst (λ (w : List Word). IsItem g (process r.0) w) (sym (process_spelled ws s e)) (item_process r.1))
      by_whole e (inr never) = inr (no_process ws s never)

      by_colon : (t : Bool) → starts (codes ":") (drop 1 ws) ≡ t → OrNone g ws
      by_colon true e = by_whole e (whole_or_none g (drop 2 ws))
      by_colon false e = inr (λ it. no_colon s e it.is)

  item_or_none : (g : Sig) (ws : List Word) → OrNone g ws
  item_or_none g ws = by_let (starts (codes "let") ws) refl
    where
      by_stated : starts (codes "let") ws ≡ false → starts (codes "process") ws ≡ false → declared_in ws ≡ None → ((s : Statement) × IsStatement g FILE_LIMITS s ws) ⊎ ((s : Statement) → IsStatement g FILE_LIMITS s ws → ⊥)
          → OrNone g ws
      by_stated l p e (inl r) = inl (statement r.0, item_statement r.1)
      by_stated l p e (inr never) = inr (no_other laws ws l p e (λ h s r. let t = stated.too h g FILE_LIMITS s ws r in never t.0 t.1))

      by_declared : starts (codes "let") ws ≡ false → starts (codes "process") ws ≡ false → (o : Option (List Declaration)) → declared_in ws ≡ o → OrNone g ws
      by_declared l p None e = by_stated l p e (stated.some g FILE_LIMITS ws)
      by_declared l p (Some ds) e = let alone = declared_sound laws ws ds e in inl (alone.item, alone.spelled g)

      by_process : starts (codes "let") ws ≡ false → (t : Bool) → starts (codes "process") ws ≡ t → OrNone g ws
      by_process l true p = process_or_none g ws p
      by_process l false p = by_declared l p (declared_in ws) refl

      by_let : (t : Bool) → starts (codes "let") ws ≡ t → OrNone g ws
      by_let true l = definition_or_none g ws l
      by_let false l = by_process l (starts (codes "process") ws) refl

  -- the pieces are items, or the first fault is on some line
  abbrev AreOrFault : Sig → ℕ → List (List Placed) → Type 0
  AreOrFault g last cut = ItemsOrFault (IsItem g) IsSomeItem last cut

  written_or_fault : (g : Sig) (last : ℕ) (cut : List (List Placed)) → AreOrFault g last cut
  written_or_fault g last cut = items_or_fault (IsItem g) IsSomeItem last (λ v ws r. record { sig = g; item = v; is = r }) (item_or_none g) cut

-- where one process has no label, there is the file's
abbrev HasMain : List Body → Type 0
HasMain bs = (p : Written) × (main_of bs ≡ Some p)

has_main : (bs : List Body) → is_none (slice_get (unlabelled bs) 0) ≡ false → HasMain bs
has_main [] h = absurd (cc (h))
has_main (b ∷ bs) h = by (is_none b.label) refl (has_main bs) where
  by : (t : Bool) → is_none b.label ≡ t → (is_none (slice_get (unlabelled bs) 0) ≡ false → HasMain bs) → HasMain (b ∷ bs)
  by true q later = (b.content, rw q refl)
  by false q later =
      let k : is_none (slice_get (unlabelled bs) 0) ≡ false = rw q at h in
      let r = later k in
      (r.0, rw q r.1)

no_cause : (bs : List Body) (ss : List Statement) (clash : Option (List ℕ)) → cause bs ss clash ≡ None → is_none (slice_get (unlabelled bs) 0) ≡ false
no_cause bs ss clash h = by (unlabelled bs) refl
  where
    by : (cs : List Body) → unlabelled bs ≡ cs → is_none (slice_get (unlabelled bs) 0) ≡ false
    by [] e = let missing = caused.no_process bs ss clash e in absurd (cc (missing, h))
    by (c ∷ cs) e = rw e refl

-- a process has no flaw, or one that counts
abbrev pub IsJudged : Sig → Proc → Type 0
IsJudged g p = IsWellFormed g p ⊎ ((w : Flaw) × (path : List ℕ) × IsFirstFlaw g p w path)

-- a process has an annotation, or a first place that can't be annotated
abbrev pub IsLocked : Proc → Type 0
IsLocked p = ((q : Proc) × IsAnnotation p q) ⊎ ((w : LockFlaw) × (path : List ℕ) × IsFirstLockFlaw p w path)

abbrev IsReadSo : List ℕ → Type 0
IsReadSo z = (o : Result FileContent ReadFault) × IsRead z o

-- definitions in order and a process have a cause that counts, or none that holds
abbrev pub IsUsed : Sig → List Definition → Written → Type 0
IsUsed g ds p = ((f : MacroFault) × IsMacroCause g ds p f) ⊎ ((f : MacroFault) → ¬ Holds g ds p f)

module _ (laws : ItemLaws) (stated : StatementLaws) (written : ProcessLaws) (faults : (g : Sig) (r : Bool) (ss : List Statement) → AreFaultless g r ss ⊎ ((x : List ℕ) × (f : FormulaFault) × IsFirstFaulty g r ss x f)) (judged : (g : Sig) (p : Proc) → IsJudged g p) (labelled : (p : Proc) → IsLocked p)
    (used : (g : Sig) (ds : List Definition) (p : Written) → AreInOrder [] ds → IsUsed g ds p) (z : List ℕ) where
  from_items : {ts : List Token} {x : List ℕ} {cut : List (List Placed)} (is : List Standing) → IsParted z ts x cut → AreItems (signature_of is) cut is → IsReadSo z
  from_items {ts = ts} {x = x} is p i = by_cause (cause_of is) refl
    where
      by_formulas : (q r : Proc) → cause_of is ≡ None → IsFileProcess z ts is q → IsWellFormed (signature_of is) q → IsAnnotation (with_sorts [] q) r
          → AreFaultless (signature_of is) true (statements is) ⊎ ((y : List ℕ) × (f : FormulaFault) × IsFirstFaulty (signature_of is) true (statements is) y f) → IsReadSo z
      by_formulas q r c w good a (inl all) = (
        Ok (record { name = x; signature = signature_of is; process = r; restrictions = restrictions_of (statements is); lemmas = lemmas_of (statements is) }),
        accepted p i c w good a all,
      )
      by_formulas q r c w good a (inr f) = (Err (Formula f.0 f.1), unchecked p i c w good a f.2)

      by_lock : (q : Proc) → cause_of is ≡ None → IsFileProcess z ts is q → IsWellFormed (signature_of is) q → IsLocked (with_sorts [] q) → IsReadSo z
      by_lock q c w good (inl a) = by_formulas q a.0 c w good a.1 (faults (signature_of is) true (statements is))
      by_lock q c w good (inr f) = (Err (lock_fault f.0 f.1), locked p i c w good f.2)

      by_flaw : (q : Proc) → cause_of is ≡ None → IsFileProcess z ts is q → IsJudged (signature_of is) q → IsReadSo z
      by_flaw q c w (inl good) = by_lock q c w good (labelled (with_sorts [] q))
      by_flaw q c w (inr f) = (Err (Ill f.0 f.1), ill p i c w f.2)

      by_use : (m : Written) → cause_of is ≡ None → main_of (bodies is) ≡ Some m → IsUsed (signature_of is) (definitions_of (bodies is)) m → IsReadSo z
      by_use m c q (inl f) = (Err (fault_of_uses f.0), unexpanded p i c (record { main = m; is_main = q; cause = f.1 }))
      by_use m c q (inr none) =
          let whole : Proc = (expansion (definitions_of (bodies is)) (identifiers_of (words_of z ts)) m).process in
          by_flaw whole c (record { main = m; is_main = q; no_cause = none; whole = refl }) (judged (signature_of is) whole)

      by_cause : (o : Option ReadFault) → cause_of is ≡ o → IsReadSo z
      by_cause (Some e) c = (Err e, refused p i c)
      by_cause None c =
          let clash = clash_from pairs_alone (declarations is) in
          let free = unrefused.no_cause (bodies is) (statements is) clash c in
          let w = has_main (bodies is) (no_cause (bodies is) (statements is) clash c) in
          by_use w.0 c w.1 (used (signature_of is) (definitions_of (bodies is)) w.0 (all_in_order (bodies is) free.known free.distinct))

  from_parts : (ts : List Token) (x : List ℕ) (cut : List (List Placed)) → IsParted z ts x cut → IsReadSo z
  from_parts ts x cut p = by (written_or_fault laws stated written (signature_from pairs_alone (declared_in_all cut)) (last_line (placed z ts)) cut)
    where
      by : AreOrFault laws stated written (signature_from pairs_alone (declared_in_all cut)) (last_line (placed z ts)) cut → IsReadSo z
      by (inl r) = from_items r.0 p (subst (λ (g : Sig). AreItems g cut r.0) (ap (signature_from pairs_alone) (sym (declared_are laws r.1))) r.1)
      by (inr f) = (Err (Syntax f.0), no_item p f.1)

  from_tokens : (ts : List Token) → AreTokens z ts → IsReadSo z
  from_tokens ts t = by (header_of (words_of z ts)) refl
    where
      by : (o : Option (List ℕ)) → header_of (words_of z ts) ≡ o → IsReadSo z
      by None h = (Err Header, no_header t (laws.header_none z ts h))
      by (Some x) h = from_parts ts x (items_of z ts) (parted laws z ts x t h)

  pub some_file : (o : Lexed) → IsLexed MOST_FILE_NAME_BYTES 0 1 z o → IsReadSo z
  some_file (Ok ts) l = from_tokens ts l
  some_file (Err f) l = (Err (LexFault f), no_tokens l)
