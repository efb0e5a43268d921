-- Items, what they declare, and their faults.
use Rattle.std.proofs.Common.{◌≡◌, ℕ, true, false, List, [], Some, refl, sym, ap, subst, ◌∙◌}
use Rattle.std.specs.Prelude.{codes}
use Rattle.sap_terms.specs.Signature.{Sig}
use Rattle.sap_grammar.specs.Words.{Word, starts}
use Rattle.sap_grammar.specs.Cut.{Placed, words}
use Rattle.sap_grammar.specs.Declarations.{Declaration, Declares, declares_builtins, declares_functions}
use Rattle.sap_grammar.specs.Items.{IsEnd, items_end, items_more, no_end, bad_item, later_item}
use Rattle.sap_grammar.specs.ItemReading.{declared_in, told, declared_in_all}
use Rattle.sap_draft.specs.declared.limits.TheConstants.{FILE_LIMITS}
use Rattle.sap_macro.specs.Written.{Written}
use Rattle.sap_read.specs.Item.{Item, builtins, functions, definition, process, statement, Standing, declared_by, declarations, body_of, stated_by}
use Rattle.sap_read.specs.ItemGrammar.{IsItem, AreItems, IsFaultyFile, item_builtins, item_functions, item_definition, item_process, item_statement}
use Rattle.sap_statements.specs.declared.statement.Statement.{Statement}
use Rattle.sap_statements.specs.Statements.{is_restriction, is_lemma}
use Rattle.sap_grammar.specs.ItemLaws.{ItemLaws}
use Rattle.sap_read.specs.code.ProcessLaws.{ProcessLaws}
use Rattle.sap_draft.specs.ProcessGrammar.{IsProcess}
use Rattle.sap_read.proofs.ReadParameters.{one_head}
use Rattle.sap_statements.specs.StatementLaws.{StatementLaws}

-- what an item declares is read in its words
declares : ItemLaws → {g : Sig} {v : Item} {a : List Word} → IsItem g v a → told (declared_in a) ≡ declared_by v
declares laws (item_builtins r) = ap told (laws.declared _ _ (declares_builtins r))
declares laws (item_functions r) = ap told (laws.declared _ _ (declares_functions r))
declares laws (item_definition h r) = refl
declares laws (item_process r) = refl
declares laws (item_statement (is_restriction r)) = refl
declares laws (item_statement (is_lemma a d r)) = refl

-- what items declare is read in their words
pub declared_are : ItemLaws → {g : Sig} {cut : List (List Placed)} {is : List Standing} → AreItems g cut is → declarations is ≡ declared_in_all cut
declared_are laws (items_end {i = i} e) =
    let none : told (declared_in (words i)) ≡ [] = ap (λ (w : List Word). told (declared_in w)) e in
    rw none refl
declared_are laws (items_more {v = v} r rs) = rw (declares laws r, declared_are laws rs) refl

-- what items declare doesn't depend on the signature
pub same_declarations : ItemLaws → (g h : Sig) (cut : List (List Placed)) (is js : List Standing) → AreItems g cut is → AreItems h cut js → declarations is ≡ declarations js
same_declarations laws g h cut is js r s = declared_are laws r ∙ sym (declared_are laws s)

-- it is an item that declares these and says nothing of a process or of traces, under each signature
pub record DeclaresAlone (ws : List Word) (ds : List Declaration) : Type 0 where
  pub item : Item
  pub spelled : (g : Sig) → IsItem g item ws
  pub declares_these : declared_by item ≡ ds
  pub no_body : (n : ℕ) → body_of item n ≡ []
  pub no_statement : stated_by item ≡ []

-- what is read as declarations is an item that declares them, under each signature
pub declared_sound : ItemLaws → (ws : List Word) (ds : List Declaration) → declared_in ws ≡ Some ds → DeclaresAlone ws ds
declared_sound laws ws ds e = go ws ds (laws.declares ws ds e)
  where
    go : (ws : List Word) (ds : List Declaration) → Declares ws ds → DeclaresAlone ws ds
    go _ _ (declares_builtins {bs = bs} r) = record { item = builtins bs; spelled = λ g. item_builtins r; declares_these = refl; no_body = λ n. refl; no_statement = refl }
    go _ _ (declares_functions {ss = ss} r) = record { item = functions ss; spelled = λ g. item_functions r; declares_these = refl; no_body = λ n. refl; no_statement = refl }

-- no item begins with `end`
not_end : {g : Sig} {v : Item} {a : List Word} → IsItem g v a → starts (codes "end") a ≡ false
not_end (item_builtins r) = refl
not_end (item_functions r) = refl
not_end (item_definition h r) = refl
not_end (item_process r) = refl
not_end (item_statement (is_restriction r)) = refl
not_end (item_statement (is_lemma a d r)) = refl

pub never_end : {A : Type 0} (g : Sig) (i : List Placed) (v : Item) → IsEnd i → IsItem g v (words i) → A
never_end g i v e s =
    let no : true ≡ false = not_end (subst (λ (w : List Word). IsItem g v w) e s) in
    absurd (cc)

pub good_or_faulty : (g : Sig) (last n : ℕ) (cut : List (List Placed)) (is : List Standing) → AreItems g cut is → IsFaultyFile last cut n → ⊥
good_or_faulty g last n cut is (items_end e) (bad_item a b) = b e refl
good_or_faulty g last n cut is (items_end {i = i} e) (later_item s r) = never_end s.sig i s.item e s.is
good_or_faulty g last n cut is (items_more {v = v} s r) (bad_item a b) = a (record { sig = g; item = v; is = s })
good_or_faulty g last n cut is (items_more {is = more} {vs = vs} s r) (later_item t k) = good_or_faulty g last n more vs r k

pub one_fault : (last n k : ℕ) (cut : List (List Placed)) → IsFaultyFile last cut n → IsFaultyFile last cut k → n ≡ k
one_fault last n k cut no_end no_end = refl
one_fault last n k cut (bad_item a b) (bad_item c d) = refl
one_fault last n k cut (bad_item a b) (later_item s r) = absurd (a s)
one_fault last n k cut (later_item s r) (bad_item a b) = absurd (a s)
one_fault last n k cut (later_item {is = is} s r) (later_item t q) = one_fault last n k is r q

module _ (laws : ItemLaws) (stated : StatementLaws) (written : ProcessLaws) where
  one_item : {g : Sig} {u v : Item} {a : List Word} → IsItem g u a → IsItem g v a → u ≡ v
  one_item (item_builtins {bs = bs} {a = a} r) (item_builtins {bs = cs} s) = ap builtins (laws.one_builtins bs cs a r s)
  one_item (item_functions {ss = ss} {a = a} r) (item_functions {ss = us} s) = ap functions (laws.one_symbols ss us a r s)
  one_item {g = g} (item_definition {x = x} {xs = xs} {p = p} {b = b} h r) (item_definition {xs = ys} {p = q} k s) =
      let heads = one_head h k in
      let same : p ≡ q = written.one g p q _ (subst (λ (w : List Word). IsProcess g p w) heads.1 r) s in
      λ i. definition x (heads.0 i) (same i)
  one_item {g = g} (item_process {p = p} {a = a} r) (item_process {p = q} s) = ap (λ (y : Written). process y) (written.one g p q a r s)
  one_item {g = g} (item_statement {s = x} {a = a} r) (item_statement {s = y} s) = ap (λ (z : Statement). statement z) (stated.one g FILE_LIMITS x y a r s)
  one_item (item_builtins r) (item_statement s) = elim s [ ]
  one_item (item_functions r) (item_statement s) = elim s [ ]
  one_item (item_definition h r) (item_statement s) = elim s [ ]
  one_item (item_process r) (item_statement s) = elim s [ ]
  one_item (item_statement r) (item_builtins s) = elim r [ ]
  one_item (item_statement r) (item_functions s) = elim r [ ]
  one_item (item_statement r) (item_definition h s) = elim r [ ]
  one_item (item_statement r) (item_process s) = elim r [ ]

  pub one_items : (g : Sig) (cut : List (List Placed)) (is js : List Standing) → AreItems g cut is → AreItems g cut js → is ≡ js
  one_items g cut is js (items_end e) (items_end f) = refl
  one_items g cut is js (items_end {i = i} e) (items_more {v = v} s r) = never_end g i v e s
  one_items g cut is js (items_more {i = i} {v = v} s r) (items_end e) = never_end g i v e s
  one_items g cut is js (items_more {i = i} {is = more} {v = u} {vs = us} s r) (items_more {v = v} {vs = vs} t q) =
      let first : u ≡ v = one_item s t in
      let rest : us ≡ vs = one_items g more us vs r q in
      rw (first, rest) refl
