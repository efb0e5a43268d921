-- Bytes are read in one way.
use Rattle.std.proofs.Common.{◌≡◌, ℕ, Bool, true, List, [], Some, None, Ok, Err, refl, sym, ap, subst, ◌∙◌}
use Rattle.std.specs.Prelude.{Result}
use Rattle.sap_text.specs.declared.fault.Lex.{Lex}
use Rattle.sap_text.specs.declared.token.Token.{Token}
use Rattle.sap_text.specs.Tokens.{Lexed, IsLexed}
use Rattle.sap_terms.specs.Signature.{Sig, pairs_alone}
use Rattle.sap_locks.specs.Annotation.{LockFlaw, IsAnnotation, IsFirstLockFlaw}
use Rattle.sap_process.specs.Proc.{Proc}
use Rattle.sap_process.specs.Flaws.{IsFirstFlaw, IsWellFormed}
use Rattle.sap_process.specs.Sorted.{with_sorts}
use Rattle.sap_process.specs.declared.flaw.Flaw.{Flaw}
use Rattle.sap_read.specs.declared.fault.ReadFault.{ReadFault}
use Rattle.sap_read.specs.declared.fault.ReadFault.TheVariants.{Lex as LexFault, Header, Syntax, Ill, Formula}
use Rattle.sap_formula.specs.declared.fault.FormulaFault.{FormulaFault}
use Rattle.sap_statements.specs.declared.statement.Statement.{Statement}
use Rattle.sap_read.specs.Item.{Standing, bodies, statements}
use Rattle.sap_statements.specs.Stated.{AreFaultless, IsFirstFaulty, restrictions_of, lemmas_of}
use Rattle.sap_grammar.specs.Cut.{Placed, placed, IsCut, IsHeader, last_line}
use Rattle.sap_read.specs.ItemGrammar.{AreItems, IsFaultyFile}
use Rattle.sap_macro.specs.Expansion.{expansion}
use Rattle.sap_macro.specs.Written.{Written, Definition}
use Rattle.sap_uses.specs.FaultCauses.{Holds, IsMacroCause}
use Rattle.sap_uses.specs.declared.fault.MacroFault.{MacroFault}
use Rattle.sap_read.specs.FileProcess.{IsExpanded, IsUnexpanded, definitions_of}
use Rattle.sap_read.specs.Identifiers.{identifiers_of}
use Rattle.sap_grammar.specs.Words.{words_of}
use Rattle.sap_grammar.specs.Signatures.{signature_from}
use Rattle.sap_read.specs.Item.{signature_of}
use Rattle.sap_read.specs.Causes.{cause_of, fault_of_uses, lock_fault}
use Rattle.sap_read.specs.Files.{FileContent, AreTokens, IsParted, IsRead, no_tokens, no_header, no_item, refused, unexpanded, ill, locked, unchecked, accepted}
use Rattle.sap_read.proofs.ItemsRead.{same_declarations, good_or_faulty, one_fault, one_items}
use Rattle.sap_grammar.specs.ItemLaws.{ItemLaws}
use Rattle.sap_statements.specs.StatementLaws.{StatementLaws}
use Rattle.sap_read.specs.code.ProcessLaws.{ProcessLaws}
use Rattle.sap_terms.specs.declared.limits.TheConstants.{MOST_FILE_NAME_BYTES}

-- what its formulas make of it, where q is its process
data AfterFormulas (x : List ℕ) (g : Sig) (ss : List Statement) (q : Proc) : Result FileContent ReadFault → Type 0 where
  is_unchecked : (y : List ℕ) (f : FormulaFault) → IsFirstFaulty g true ss y f → AfterFormulas x g ss q (Err (Formula y f))
  is_checked : AreFaultless g true ss
      → AfterFormulas x g ss q (Ok (record { name = x; signature = g; process = q; restrictions = restrictions_of ss; lemmas = lemmas_of ss }))

-- what the whole process of a file makes of it
data AfterProcess (x : List ℕ) (g : Sig) (ss : List Statement) (p : Proc) : Result FileContent ReadFault → Type 0 where
  is_ill : (w : Flaw) (path : List ℕ) → IsFirstFlaw g p w path → AfterProcess x g ss p (Err (Ill w path))
  is_locked : (w : LockFlaw) (path : List ℕ) → IsWellFormed g p → IsFirstLockFlaw (with_sorts [] p) w path → AfterProcess x g ss p (Err (lock_fault w path))
  is_well : {o : Result FileContent ReadFault} (q : Proc) → IsWellFormed g p → IsAnnotation (with_sorts [] p) q → AfterFormulas x g ss q o → AfterProcess x g ss p o

-- what its items make of it, where these are its identifiers
data AfterItems (x : List ℕ) (names : List (List ℕ)) (is : List Standing) : Result FileContent ReadFault → Type 0 where
  is_refused : (e : ReadFault) → cause_of is ≡ Some e → AfterItems x names is (Err e)
  is_unexpanded : (f : MacroFault) → cause_of is ≡ None → IsUnexpanded (signature_of is) (bodies is) f → AfterItems x names is (Err (fault_of_uses f))
  is_whole : {o : Result FileContent ReadFault} (p : Proc) → cause_of is ≡ None → IsExpanded (signature_of is) names (bodies is) p
      → AfterProcess x (signature_of is) (statements is) p o → AfterItems x names is o

-- what its parts make of it
data AfterParts (x : List ℕ) (names : List (List ℕ)) (last : ℕ) (cut : List (List Placed)) : Result FileContent ReadFault → Type 0 where
  is_faulty : (line : ℕ) → IsFaultyFile last cut line → AfterParts x names last cut (Err (Syntax line))
  has_items : {o : Result FileContent ReadFault} (is : List Standing) → AreItems (signature_of is) cut is → AfterItems x names is o → AfterParts x names last cut o

-- what its tokens make of it
data AfterTokens (z : List ℕ) (ts : List Token) : Result FileContent ReadFault → Type 0 where
  has_none : ((x : List ℕ) (rest : List Placed) → IsHeader x (placed z ts) rest → ⊥) → AfterTokens z ts (Err Header)
  has_parts : {o : Result FileContent ReadFault} (x : List ℕ) (cut : List (List Placed)) → IsParted z ts x cut → AfterParts x (identifiers_of (words_of z ts)) (last_line (placed z ts)) cut o
      → AfterTokens z ts o

-- what the lexer makes of it
data AfterLexer (z : List ℕ) : Result FileContent ReadFault → Type 0 where
  has_fault : (f : Lex) → IsLexed MOST_FILE_NAME_BYTES 0 1 z (Err f) → AfterLexer z (Err (LexFault f))
  has_tokens : {o : Result FileContent ReadFault} (ts : List Token) → AreTokens z ts → AfterTokens z ts o → AfterLexer z o

in_steps : {z : List ℕ} {o : Result FileContent ReadFault} → IsRead z o → AfterLexer z o
in_steps (no_tokens {f = f} l) = has_fault f l
in_steps (no_header {ts = ts} t h) = has_tokens ts t (has_none h)
in_steps (no_item {ts = ts} {x = x} {cut = cut} {line = line} p f) = has_tokens ts p.tokens (has_parts x cut p (is_faulty line f))
in_steps (refused {ts = ts} {x = x} {cut = cut} {is = is} {e = e} p i c) = has_tokens ts p.tokens (has_parts x cut p (has_items is i (is_refused e c)))
in_steps (unexpanded {ts = ts} {x = x} {cut = cut} {is = is} {f = f} p i c u) = has_tokens ts p.tokens (has_parts x cut p (has_items is i (is_unexpanded f c u)))
in_steps (ill {ts = ts} {x = x} {cut = cut} {is = is} {p = q} {w = w} {path = path} p i c w' f) =
    has_tokens ts p.tokens (has_parts x cut p (has_items is i (is_whole q c w' (is_ill w path f))))
in_steps (locked {ts = ts} {x = x} {cut = cut} {is = is} {p = q} {w = w} {path = path} p i c w' good f) =
    has_tokens ts p.tokens (has_parts x cut p (has_items is i (is_whole q c w' (is_locked w path good f))))
in_steps (unchecked {ts = ts} {x = x} {cut = cut} {is = is} {p = q} {q = r} {y = y} {f = b} p i c w f a u) =
    has_tokens ts p.tokens (has_parts x cut p (has_items is i (is_whole q c w (is_well r f a (is_unchecked y b u)))))
in_steps (accepted {ts = ts} {x = x} {cut = cut} {is = is} {p = q} {q = r} p i c w f a h) =
    has_tokens ts p.tokens (has_parts x cut p (has_items is i (is_whole q c w (is_well r f a (is_checked h)))))

-- items under their own signatures are the same
pub same_items : ItemLaws → StatementLaws → ProcessLaws → (cut : List (List Placed)) (is js : List Standing) → AreItems (signature_of is) cut is → AreItems (signature_of js) cut js → is ≡ js
same_items laws stated written cut is js r s =
    let same : signature_of is ≡ signature_of js = ap (signature_from pairs_alone) (same_declarations laws (signature_of is) (signature_of js) cut is js r s) in
    one_items laws stated written (signature_of js) cut is js (subst (λ (g : Sig). AreItems g cut is) same r) s

-- a process that can be expanded isn't refused for its uses
not_both : (names : List (List ℕ)) (is : List Standing) (f : MacroFault) (p : Proc) → IsUnexpanded (signature_of is) (bodies is) f → IsExpanded (signature_of is) names (bodies is) p → ⊥
not_both names is f p w v =
    let mains : Some w.main ≡ Some v.main = sym w.is_main ∙ v.is_main in
    let same : w.main ≡ v.main = cc in
    v.no_cause f (subst (λ (m : Written). Holds (signature_of is) (definitions_of (bodies is)) m f) same w.cause.holds)

module _ (laws : ItemLaws) (stated : StatementLaws) (written : ProcessLaws) (one_use : (g : Sig) (ds : List Definition) (p : Written) (e f : MacroFault) → IsMacroCause g ds p e → IsMacroCause g ds p f → e ≡ f) (one_faulty : (g : Sig) (r : Bool) (ss : List Statement) (x y : List ℕ) (f h : FormulaFault) → IsFirstFaulty g r ss x f → IsFirstFaulty g r ss y h → (x ≡ y) × (f ≡ h))
    (no_faulty : (g : Sig) (r : Bool) (ss : List Statement) (x : List ℕ) (f : FormulaFault) → IsFirstFaulty g r ss x f → AreFaultless g r ss → ⊥) (one_flaw : (g : Sig) (p : Proc) (w v : Flaw) (path other : List ℕ) → IsFirstFlaw g p w path → IsFirstFlaw g p v other → (w ≡ v) × (path ≡ other))
    (no_flaw : (g : Sig) (p : Proc) (w : Flaw) (path : List ℕ) → IsFirstFlaw g p w path → IsWellFormed g p → ⊥)
    (one_annotation : (p q r : Proc) → IsAnnotation p q → IsAnnotation p r → q ≡ r)
    (one_lock_path : (p : Proc) (u w : LockFlaw) (a b : List ℕ) → IsFirstLockFlaw p u a → IsFirstLockFlaw p w b → a ≡ b)
    (one_lock_cause : (p : Proc) (u w : LockFlaw) (a b : List ℕ) → IsFirstLockFlaw p u a → IsFirstLockFlaw p w b → u ≡ w)
    (no_lock_flaw : (p q : Proc) (w : LockFlaw) (path : List ℕ) → IsAnnotation p q → ¬ IsFirstLockFlaw p w path)
    (one_answer : (most : ℕ) (z : List ℕ) (o u : Lexed) → IsLexed most 0 1 z o → IsLexed most 0 1 z u → o ≡ u) where
  after_formulas : (x : List ℕ) (g : Sig) (ss : List Statement) (q : Proc) (o u : Result FileContent ReadFault) → AfterFormulas x g ss q o → AfterFormulas x g ss q u → o ≡ u
  after_formulas x g ss q _ _ (is_unchecked y b f) (is_unchecked w d h) =
      let same = one_faulty g true ss y w b d f h in
      λ i. Err (Formula (same.0 i) (same.1 i))
  after_formulas x g ss q _ _ (is_unchecked y b f) (is_checked h) = absurd (no_faulty g true ss y b f h)
  after_formulas x g ss q _ _ (is_checked f) (is_unchecked y b h) = absurd (no_faulty g true ss y b h f)
  after_formulas x g ss q _ _ (is_checked f) (is_checked h) = refl

  after_process : (x : List ℕ) (g : Sig) (ss : List Statement) (p : Proc) (o u : Result FileContent ReadFault) → AfterProcess x g ss p o → AfterProcess x g ss p u → o ≡ u
  after_process x g ss p _ _ (is_ill w path f) (is_ill v other h) =
      let same = one_flaw g p w v path other f h in
      λ i. Err (Ill (same.0 i) (same.1 i))
  after_process x g ss p _ _ (is_ill w path f) (is_locked v other h l) = absurd (no_flaw g p w path f h)
  after_process x g ss p _ u (is_ill w path f) (is_well r h b d) = absurd (no_flaw g p w path f h)
  after_process x g ss p _ _ (is_locked w path f l) (is_ill v other h) = absurd (no_flaw g p v other h f)
  after_process x g ss p _ _ (is_locked w path f l) (is_locked v other h m) =
      let causes = one_lock_cause (with_sorts [] p) w v path other l m in
      let paths = one_lock_path (with_sorts [] p) w v path other l m in
      λ i. Err (lock_fault (causes i) (paths i))
  after_process x g ss p _ u (is_locked w path f l) (is_well r h b d) = absurd (no_lock_flaw (with_sorts [] p) r w path b l)
  after_process x g ss p o _ (is_well q f a c) (is_ill v other h) = absurd (no_flaw g p v other h f)
  after_process x g ss p o _ (is_well q f a c) (is_locked v other h m) = absurd (no_lock_flaw (with_sorts [] p) q v other a m)
  after_process x g ss p o u (is_well q f a c) (is_well r h b d) =
      after_formulas x g ss r o u (subst (λ (s : Proc). AfterFormulas x g ss s o) (one_annotation (with_sorts [] p) q r a b) c) d

  after_items : (x : List ℕ) (names : List (List ℕ)) (is : List Standing) (o u : Result FileContent ReadFault) → AfterItems x names is o → AfterItems x names is u → o ≡ u
  after_items x names is _ _ (is_refused e c) (is_refused d b) = let same : Some e ≡ Some d = sym c ∙ b in cc
  after_items x names is _ _ (is_refused e c) (is_unexpanded f b w) = let clash : Some e ≡ None = sym c ∙ b in absurd (cc)
  after_items x names is _ u (is_refused e c) (is_whole p b w a) = let clash : Some e ≡ None = sym c ∙ b in absurd (cc)
  after_items x names is _ _ (is_unexpanded f b w) (is_refused e c) = let clash : Some e ≡ None = sym c ∙ b in absurd (cc)
  after_items x names is _ _ (is_unexpanded f c w) (is_unexpanded h b v) =
      let mains : Some w.main ≡ Some v.main = sym w.is_main ∙ v.is_main in
      let same : w.main ≡ v.main = cc in
      let ds = definitions_of (bodies is) in
      ap (λ (k : MacroFault). Err (fault_of_uses k))
      (one_use (signature_of is) ds v.main f h (subst (λ (m : Written). IsMacroCause (signature_of is) ds m f) same w.cause) v.cause)
  after_items x names is _ u (is_unexpanded f c w) (is_whole p b v a) = absurd (not_both names is f p w v)
  after_items x names is o _ (is_whole p b w a) (is_refused e c) = let clash : Some e ≡ None = sym c ∙ b in absurd (cc)
  after_items x names is o _ (is_whole p b v a) (is_unexpanded f c w) = absurd (not_both names is f p w v)
  after_items x names is o u (is_whole p b w a) (is_whole q c v d) =
      let mains : Some w.main ≡ Some v.main = sym w.is_main ∙ v.is_main in
      let main : w.main ≡ v.main = cc in
      let same : p ≡ q = sym w.whole ∙ ap (λ (m : Written). (expansion (definitions_of (bodies is)) names m).process) main ∙ v.whole in
      after_process x (signature_of is) (statements is) q o u (subst (λ (r : Proc). AfterProcess x (signature_of is) (statements is) r o) same a) d

  after_parts : (x : List ℕ) (names : List (List ℕ)) (last : ℕ) (cut : List (List Placed)) (o u : Result FileContent ReadFault) → AfterParts x names last cut o → AfterParts x names last cut u → o ≡ u
  after_parts x names last cut _ _ (is_faulty n f) (is_faulty k h) = ap (λ m. Err (Syntax m)) (one_fault last n k cut f h)
  after_parts x names last cut _ u (is_faulty n f) (has_items is i a) = absurd (good_or_faulty (signature_of is) last n cut is i f)
  after_parts x names last cut o _ (has_items is i a) (is_faulty n f) = absurd (good_or_faulty (signature_of is) last n cut is i f)
  after_parts x names last cut o u (has_items is i a) (has_items js j b) =
      after_items x names js o u (subst (λ (ks : List Standing). AfterItems x names ks o) (same_items laws stated written cut is js i j) a) b

  after_tokens : (z : List ℕ) (ts : List Token) (o u : Result FileContent ReadFault) → AfterTokens z ts o → AfterTokens z ts u → o ≡ u
  after_tokens z ts _ _ (has_none f) (has_none h) = refl
  after_tokens z ts _ u (has_none f) (has_parts x cut p a) = absurd (f x p.rest p.header)
  after_tokens z ts o _ (has_parts x cut p a) (has_none f) = absurd (f x p.rest p.header)
  after_tokens z ts o u (has_parts x cut p a) (has_parts y dut q b) =
      let heads = laws.one_header x y (placed z ts) p.rest q.rest p.header q.header in
      let cuts = laws.one_cut q.rest cut dut (subst (λ (r : List Placed). IsCut r cut) heads.1 p.items) q.items in
      let last = last_line (placed z ts) in
      let names = identifiers_of (words_of z ts) in
      after_parts y names last dut o u
      (subst (λ (w : List ℕ). AfterParts w names last dut o) heads.0 (subst (λ (c : List (List Placed)). AfterParts x names last c o) cuts a)) b

  pub one_file : (z : List ℕ) (o u : Result FileContent ReadFault) → IsRead z o → IsRead z u → o ≡ u
  one_file z o u r s = go o u (in_steps r) (in_steps s)
    where
      go : (o u : Result FileContent ReadFault) → AfterLexer z o → AfterLexer z u → o ≡ u
      go _ _ (has_fault f l) (has_fault h k) =
          let same : ◌≡◌ {A = Lexed} (Err f) (Err h) = one_answer MOST_FILE_NAME_BYTES z (Err f) (Err h) l k in
          let faults : f ≡ h = cc in
          ap (λ (e : Lex). Err (LexFault e)) faults
      go _ u (has_fault f l) (has_tokens ts t a) =
          let clash : ◌≡◌ {A = Lexed} (Err f) (Ok ts) = one_answer MOST_FILE_NAME_BYTES z (Err f) (Ok ts) l t in absurd (cc)
      go o _ (has_tokens ts t a) (has_fault f l) =
          let clash : ◌≡◌ {A = Lexed} (Err f) (Ok ts) = one_answer MOST_FILE_NAME_BYTES z (Err f) (Ok ts) l t in absurd (cc)
      go o u (has_tokens ts t a) (has_tokens us v b) =
          let same : ◌≡◌ {A = Lexed} (Ok ts) (Ok us) = one_answer MOST_FILE_NAME_BYTES z (Ok ts) (Ok us) t v in
          let tokens : ts ≡ us = cc in
          after_tokens z us o u (subst (λ (ws : List Token). AfterTokens z ws o) tokens a) b
