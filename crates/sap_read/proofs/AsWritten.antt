-- Files show what they show as they are written.
use Rattle.std.proofs.Common.{◌≡◌, ◌↔◌, ℕ, List, [], Some, None, Ok, refl, sym, ap, map, subst, ◌∙◌}
use Rattle.std.specs.Prelude.{Result}
use Rattle.sap_terms.specs.Signature.{Sig, pairs_alone}
use Rattle.sap_terms.specs.Trace.{Trace}
use Rattle.sap_terms.specs.declared.var.Var.{Var}
use Rattle.sap_terms.specs.declared.limits.TheConstants.{MOST_FILE_NAME_BYTES}
use Rattle.sap_text.specs.declared.token.Token.{Token}
use Rattle.sap_text.specs.Tokens.{Lexed, IsLexed}
use Rattle.sap_grammar.specs.Cut.{Placed, placed, IsCut, IsHeader}
use Rattle.sap_grammar.specs.ItemLaws.{ItemLaws}
use Rattle.sap_grammar.specs.Signatures.{clash_from}
use Rattle.sap_grammar.specs.Words.{words_of}
use Rattle.sap_statements.specs.StatementLaws.{StatementLaws}
use Rattle.sap_locks.specs.Annotation.{IsAnnotation}
use Rattle.sap_process.specs.Flaws.{HasNoScopeFlaw, IsWellFormed}
use Rattle.sap_process.specs.Proc.{Proc}
use Rattle.sap_process.specs.ProcessSteps.{IsProcessTrace}
use Rattle.sap_process.specs.Ready.{IsReady}
use Rattle.sap_process.specs.Sorted.{with_sorts}
use Rattle.sap_macro.specs.Expansion.{expanded, expansion, meaning_of, plain, plain_bodies, same_name, unchanged}
use Rattle.sap_macro.specs.Indexed.{defined}
use Rattle.sap_macro.specs.Instances.{AreClosedAmong, AreTaken, IsClosed}
use Rattle.sap_macro.specs.Order.{AreInOrder, UsesOnly}
use Rattle.sap_macro.specs.Written.{Written, call, Definition}
use Rattle.sap_macro.specs.WrittenRuns.{HasArgumentsInScope, IsFileTrace, IsWrittenTrace, sorted, sorted_definition}
use Rattle.sap_read.specs.declared.fault.ReadFault.{ReadFault}
use Rattle.sap_read.specs.AsWritten.{FilesShowAsWritten, IsWrittenAs}
use Rattle.sap_read.specs.Causes.{cause_of}
use Rattle.sap_read.specs.code.ProcessLaws.{ProcessLaws}
use Rattle.sap_read.specs.FileProcess.{IsExpanded, definitions_of, main_of}
use Rattle.sap_read.specs.Files.{FileContent, IsFileProcess, IsParted, IsRead, no_tokens, no_header, no_item, refused, unexpanded, ill, locked, unchecked, accepted}
use Rattle.sap_read.specs.HeldVariables.{HasClosedUses, HoldsFileVariables}
use Rattle.sap_read.specs.Identifiers.{identifiers_of}
use Rattle.sap_read.specs.Item.{Standing, bodies, declarations, signature_of, statements}
use Rattle.sap_read.specs.ItemGrammar.{AreItems}
use Rattle.sap_read.proofs.InOrder.{all_in_order, main_defined}
use Rattle.sap_read.proofs.OneExpansion.{bound_taken}
use Rattle.sap_read.proofs.OneFile.{same_items}
use Rattle.sap_read.proofs.Unrefused.{no_cause}

-- what is accepted: its items, and its process before it has sorts and labels
pub record Accepted (z : List ℕ) (f : FileContent) : Type 0 where
  pub tokens : List Token
  pub name : List ℕ
  pub cut : List (List Placed)
  pub items : List Standing
  pub parted : IsParted z tokens name cut
  pub spelled : AreItems (signature_of items) cut items
  pub unrefused : cause_of items ≡ None
  pub whole : Proc
  pub is_whole : IsFileProcess z tokens items whole
  pub well : IsWellFormed (signature_of items) whole
  pub signature : f.signature ≡ signature_of items
  pub annotated : IsAnnotation (with_sorts [] whole) f.process

same_file : (a b : FileContent) → ◌≡◌ {A = Result FileContent ReadFault} (Ok a) (Ok b) → a ≡ b
same_file a b e = cc

pub of_accepted : (z : List ℕ) (o : Result FileContent ReadFault) (f : FileContent) → o ≡ Ok f → IsRead z o → Accepted z f
of_accepted z o f e (no_tokens l) = absurd (cc (e))
of_accepted z o f e (no_header l h) = absurd (cc (e))
of_accepted z o f e (no_item l h) = absurd (cc (e))
of_accepted z o f e (refused l h c) = absurd (cc (e))
of_accepted z o f e (unexpanded l h c u) = absurd (cc (e))
of_accepted z o f e (ill l h c m w) = absurd (cc (e))
of_accepted z o f e (locked l h c m w k) = absurd (cc (e))
of_accepted z o f e (unchecked l h c m w a u) = absurd (cc (e))
of_accepted z _ f e (accepted {ts = ts} {x = x} {cut = cut} {is = is} {p = p} l h c m w a all) =
    subst (Accepted z) (same_file _ f e)
    (record { tokens = ts; name = x; cut = cut; items = is; parted = l; spelled = h; unrefused = c; whole = p; is_whole = m; well = w; signature = refl; annotated = a })

pub written : (z : List ℕ) (f : FileContent) → IsRead z (Ok f) → (ds : List Definition) × (p : Written) × IsWrittenAs z ds p
written z f r =
    let a = of_accepted z (Ok f) f refl r in (
      definitions_of (bodies a.items),
      a.is_whole.main,
      record { tokens = a.tokens; name = a.name; cut = a.cut; items = a.items; parted = a.parted; spelled = a.spelled; definitions = refl; process = a.is_whole.is_main },
    )

same_main : (p q : Written) → Some p ≡ Some q → p ≡ q
same_main p q e = cc

-- what the laws of sorts say of what is written
pub record SortsOfWritten : Type 0 where
  pub closed : (scope : List (List ℕ)) (bound : List Var) (p : Written) → IsClosed scope p → IsClosed scope (sorted bound p)
  pub uses : (names : List (List ℕ)) (bound : List Var) (p : Written) → UsesOnly names p → UsesOnly names (sorted bound p)
  pub taken : (taken scope : List (List ℕ)) (bound : List Var) (p : Written) → AreTaken taken scope p → AreTaken taken scope (sorted bound p)
  pub definitions : (names : List (List ℕ)) (ds : List Definition) → AreClosedAmong names ds → AreClosedAmong names (map sorted_definition ds)
  pub order : (names : List (List ℕ)) (ds : List Definition) → AreInOrder names ds → AreInOrder names (map sorted_definition ds)
  pub names : (ds : List Definition) → defined (map sorted_definition ds) ≡ defined ds

-- what the laws say that lead from what is written to what is read
pub record WrittenLaws : Type 0 where
  pub plain_order : (names : List (List ℕ)) (ds : List Definition) → AreInOrder names ds → AreInOrder names (plain_bodies call ds)
  pub plain_uses : (ds : List Definition) (p : Written) → AreInOrder [] ds → UsesOnly (defined ds) p → UsesOnly (defined (plain_bodies call ds)) (plain ds p)
  pub sorts : SortsOfWritten
  pub exchanged : (names : List (List ℕ)) (ds : List Definition) (p : Written) (taken : List (List ℕ)) → AreClosedAmong names ds → UsesOnly names p → IsClosed [] p → AreTaken taken [] p
      → with_sorts [] (expanded (meaning_of ds) unchanged same_name p taken).process
      ≡ (expanded (meaning_of (map sorted_definition ds)) unchanged same_name (sorted [] p) taken).process
  pub runs : (g : Sig) (names : List (List ℕ)) (ds : List Definition) (p : Written) (taken : List (List ℕ)) (tr : Trace) → AreInOrder [] ds → AreClosedAmong names ds → UsesOnly names p
      → UsesOnly (defined ds) p → IsClosed [] p → AreTaken taken [] p
      → IsWrittenTrace g ds p tr ↔ IsProcessTrace g (expanded (meaning_of ds) unchanged same_name p taken).process tr
  pub closed : (g : Sig) (ds : List Definition) (p : Written) (identifiers : List (List ℕ)) → HasNoScopeFlaw g [] (expansion ds identifiers p).process
      → HasArgumentsInScope [] (plain ds p) ↔ IsClosed [] (plain ds p)
  pub labels : (g : Sig) (p q : Proc) (tr : Trace) → IsWellFormed g p → IsAnnotation p q → IsProcessTrace g p tr ↔ IsProcessTrace g q tr
  pub ready : (g : Sig) (p : Proc) → IsWellFormed g p → IsReady g (with_sorts [] p)

module _ (laws : ItemLaws) (stated : StatementLaws) (processes : ProcessLaws)
    (one_answer : (most : ℕ) (z : List ℕ) (o u : Lexed) → IsLexed most 0 1 z o → IsLexed most 0 1 z u → o ≡ u) where
  one_list : (z : List ℕ) (ts us : List Token) (x y : List ℕ) (cut dut : List (List Placed)) (is js : List Standing) → IsParted z ts x cut → IsParted z us y dut
      → AreItems (signature_of is) cut is → AreItems (signature_of js) dut js → is ≡ js
  one_list z ts us x y cut dut is js p q i j =
      let lexed : ◌≡◌ {A = Lexed} (Ok ts) (Ok us) = one_answer MOST_FILE_NAME_BYTES z (Ok ts) (Ok us) p.tokens q.tokens in
      let tokens : ts ≡ us = cc in
      let header = subst (λ (ws : List Token). IsHeader x (placed z ws) p.rest) tokens p.header in
      let heads = laws.one_header x y (placed z us) p.rest q.rest header q.header in
      let cuts = laws.one_cut q.rest cut dut (subst (λ (r : List Placed). IsCut r cut) heads.1 p.items) q.items in
      same_items laws stated processes dut is js (subst (λ (c : List (List Placed)). AreItems (signature_of is) c is) cuts i) j

  pub one_writing : (z : List ℕ) (ds es : List Definition) (p q : Written) → IsWrittenAs z ds p → IsWrittenAs z es q → (ds ≡ es) × (p ≡ q)
  one_writing z ds es p q a b =
      let same = one_list z a.tokens b.tokens a.name b.name a.cut b.cut a.items b.items a.parted b.parted a.spelled b.spelled in (
        sym a.definitions ∙ ap (λ is. definitions_of (bodies is)) same ∙ b.definitions,
        same_main p q (sym a.process ∙ ap (λ is. main_of (bodies is)) same ∙ b.process),
      )

  module _
      (closed_uses : (g : Sig) (names : List (List ℕ)) (is : List Standing) (p : Proc) → cause_of is ≡ None → IsExpanded g names (bodies is) p → HasClosedUses (bodies is))
      (held : (z : List ℕ) (ts : List Token) (x : List ℕ) (cut : List (List Placed)) (is : List Standing) → IsParted z ts x cut → AreItems (signature_of is) cut is
      → HoldsFileVariables (identifiers_of (words_of z ts)) (bodies is))
      (laws_of : WrittenLaws) where
    -- what is written runs as what is read does, before that has labels
    runs : (g : Sig) (names taken : List (List ℕ)) (ds : List Definition) (p : Written) (tr : Trace) → AreInOrder [] ds → UsesOnly (defined ds) p → UsesOnly names (plain ds p)
        → AreClosedAmong names (plain_bodies call ds) → IsClosed [] (plain ds p) → AreTaken taken [] (plain ds p)
        → IsFileTrace g ds p tr ↔ IsProcessTrace g (with_sorts [] (expansion ds taken p).process) tr
    runs g names taken ds p tr order used among closed whole own =
        let bodies_plain = plain_bodies call ds in
        let main = plain ds p in
        let sorts = laws_of.sorts in
        let known = subst (λ (ns : List (List ℕ)). UsesOnly ns (sorted [] main)) (sym (sorts.names bodies_plain)) (sorts.uses (defined bodies_plain) [] main (laws_of.plain_uses ds p order used)) in
        let as_written = laws_of.runs g names (map sorted_definition bodies_plain) (sorted [] main) taken tr (sorts.order [] bodies_plain (laws_of.plain_order [] ds order))
        (sorts.definitions names bodies_plain closed) (sorts.uses names [] main among) known (sorts.closed [] [] main whole) (sorts.taken taken [] [] main own) in
        subst (λ (q : Proc). IsFileTrace g ds p tr ↔ IsProcessTrace g q tr) (sym (laws_of.exchanged names bodies_plain main taken closed among whole own)) as_written

    shows_here : (z : List ℕ) (f : FileContent) (tr : Trace) (a : Accepted z f) → let ds = definitions_of (bodies a.items) in HasArgumentsInScope [] (plain ds a.is_whole.main)
        → IsFileTrace (signature_of a.items) ds a.is_whole.main tr ↔ IsProcessTrace (signature_of a.items) f.process tr
    shows_here z f tr a scoped =
        let bs = bodies a.items in
        let ds = definitions_of bs in
        let main = a.is_whole.main in
        let names = identifiers_of (words_of z a.tokens) in
        let g = signature_of a.items in
        let free = no_cause bs (statements a.items) (clash_from pairs_alone (declarations a.items)) a.unrefused in
        let order = all_in_order bs free.known free.distinct in
        let used = main_defined bs main free.known a.is_whole.is_main in
        let among = closed_uses g names a.items a.whole a.unrefused a.is_whole in
        let taken = bound_taken names bs main (held z a.tokens a.name a.cut a.items a.parted a.spelled) a.is_whole.is_main in
        let is = a.is_whole.whole in
        let clean = subst (IsWellFormed g) (sym is) a.well in
        let whole_closed = (laws_of.closed g ds main names (λ w o k. clean w k)).0 scoped in
        let as_written = runs g among.names names ds main tr order used (among.uses main a.is_whole.is_main) among.definitions whole_closed taken in
        let sorted_is = subst (λ (q : Proc). IsFileTrace g ds main tr ↔ IsProcessTrace g (with_sorts [] q) tr) is as_written in
        let labelled = laws_of.labels g (with_sorts [] a.whole) f.process tr (laws_of.ready g a.whole a.well).well_formed a.annotated in
        (λ h. labelled.0 (sorted_is.0 h), λ h. sorted_is.1 (labelled.1 h))

    pub shown : FilesShowAsWritten
    shown z f ds p tr r w scoped =
        let a = of_accepted z (Ok f) f refl r in
        let g = signature_of a.items in
        let es = definitions_of (bodies a.items) in
        let main = a.is_whole.main in
        let own : IsWrittenAs z es main = record { tokens = a.tokens; name = a.name; cut = a.cut; items = a.items; parted = a.parted; spelled = a.spelled; definitions = refl; process = a.is_whole.is_main } in
        let same = one_writing z ds es p main w own in
        let there = subst (λ (d : List Definition). HasArgumentsInScope [] (plain d main)) same.0 (subst (λ (q : Written). HasArgumentsInScope [] (plain ds q)) same.1 scoped) in
        let here = shows_here z f tr a there in
        let of_main = subst (λ (q : Written). IsFileTrace g es q tr ↔ IsProcessTrace g f.process tr) (sym same.1) here in
        let of_definitions = subst (λ (d : List Definition). IsFileTrace g d p tr ↔ IsProcessTrace g f.process tr) (sym same.0) of_main in
        subst (λ (h : Sig). IsFileTrace h ds p tr ↔ IsProcessTrace h f.process tr) (sym a.signature) of_definitions
