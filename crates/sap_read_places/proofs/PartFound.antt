-- How the first restriction or lemma whose formula has a fault is found among the items of a file.
use Rattle.std.proofs.Common.{◌≡◌, ℕ, suc, ◌+◌, Bool, true, false, List, [], ◌∷◌, ◌++◌, Option, Some, None, length, refl, sym, ap, subst, ◌∙◌, arith}
use Rattle.std.specs.Prelude.{codes, if◌then◌else◌, slice_get, ◌||◌}
use Rattle.sap_terms.specs.Signature.{Sig}
use Rattle.sap_text.specs.declared.token.Token.{Token}
use Rattle.sap_formula.specs.Faults.{HasNoFault, IsFirstFault, told}
use Rattle.sap_formula.specs.Laws.{OneFaultLaw, NoFaultLaw}
use Rattle.sap_formula.specs.declared.fault.FormulaFault.{FormulaFault}
use Rattle.sap_formula.specs.declared.fault.FormulaFlaw.{FormulaFlaw}
use Rattle.sap_formula_words.specs.StatementWords.{statement_words}
use Rattle.sap_grammar.specs.Cut.{Placed, placed, words}
use Rattle.sap_grammar.specs.ItemReading.{cut, joined, starts_item}
use Rattle.sap_grammar.specs.Items.{items_end, items_more}
use Rattle.sap_grammar.specs.Words.{Word, mark, starts, words_of}
use Rattle.sap_grammar.specs.declared.limits.Limits.{Limits}
use Rattle.sap_grammar.proofs.ReadingLaws.Tokens.{words_placed}
use Rattle.sap_origin.specs.declared.origin.FileWord.{FileWord}
use Rattle.sap_read.specs.Item.{Item, Standing, stated_by, statements}
use Rattle.sap_read.specs.ItemGrammar.{AreItems, IsItem, item_builtins, item_functions, item_definition, item_process, item_statement}
use Rattle.sap_read.specs.LocatedItems.{word_count}
use Rattle.sap_statements.specs.Statements.{IsStatement, formula_of, is_lemma, is_restriction, name_of}
use Rattle.sap_statements.specs.declared.statement.Statement.{Statement}
use Rattle.sap_read_places.specs.PartPlaces.{IsFaultyWord, LocatedStatement, faulty_here, faulty_later, located_statements, stated_at}
use Rattle.sap_read_places.specs.code.PartWalk.{IsFoundAt, IsFoundIn, IsWordFound}
use Rattle.sap_read_places.proofs.FaultyParts.{CountedWords, has_word}

-- ---- at a statement with a fault

none_isnt : {k : ℕ} → ◌≡◌ {A = Option ℕ} None (Some k) → ⊥
none_isnt e = absurd (cc (e))

module _ (g : Sig) (s : Statement) (w : FormulaFlaw) (n : List ℕ) (first : IsFirstFault g true (formula_of s) w n) (never : NoFaultLaw) where
  other_name : {l : LocatedStatement} {ls : List LocatedStatement} {y : List ℕ} {f : FormulaFault} {k : ℕ} → l.statement ≡ s → (name_of s ≡ y → ⊥) → IsFaultyWord g (l ∷ ls) y f k → ⊥
  other_name e ne (faulty_here a h) = ne (ap name_of (sym e))
  other_name e ne (faulty_later m u) = never g true (formula_of s) w n first (subst (λ (u : Statement). HasNoFault g true (formula_of u)) e m)

  other_fault : OneFaultLaw → {l : LocatedStatement} {ls : List LocatedStatement} {y : List ℕ} {f : FormulaFault} {k : ℕ} → l.statement ≡ s → (told w n ≡ f → ⊥) → IsFaultyWord g (l ∷ ls) y f k → ⊥
  other_fault one e ne (faulty_here {w = v} {n = m} a h) =
      let same = one g true (formula_of s) w v n m first (subst (λ (u : Statement). IsFirstFault g true (formula_of u) v m) e a) in
      ne (ap (λ (u : FormulaFlaw). told u n) same.0 ∙ ap (told v) same.1)
  other_fault one e ne (faulty_later m u) = never g true (formula_of s) w n first (subst (λ (u : Statement). HasNoFault g true (formula_of u)) e m)

  module _ (z : List ℕ) (item : List Token) (b : ℕ) (y : List ℕ) (f : FormulaFault) where
    pub name_differs : (name_of s ≡ y → ⊥) → IsFoundAt g z item b s y f None
    name_differs ne = λ h m a r e ls k u. other_name refl ne u

    pub fault_differs : OneFaultLaw → (told w n ≡ f → ⊥) → IsFoundAt g z item b s y f None
    fault_differs one ne = λ h m a r e ls k u. other_fault one refl ne u

    -- what is answered for its words
    abbrev AnswersWord : Option ℕ → Type 0
    AnswersWord o = (h : Sig) (m : Limits) (r : IsStatement h m s (words_of z item)) → o ≡ slice_get (statement_words r) first.at

    answer_of : (o : Option ℕ) → AnswersWord o → (h : Sig) (m : Limits) (a : List Word) (r : IsStatement h m s a) → a ≡ words_of z item → o ≡ slice_get (statement_words r) first.at
    answer_of o says h m a r e =
        subst (λ (c : List Word). (r : IsStatement h m s c) → o ≡ slice_get (statement_words r) first.at) (sym e) (says h m) r

    pub word_is_found : (left : ℕ) → AnswersWord (Some left) → name_of s ≡ y → told w n ≡ f → IsFoundAt g z item b s y f (Some (record { left = left; behind = b }))
    word_is_found left says name fault = λ h m a r e ls.
        let l : LocatedStatement = record { statement = s; words = statement_words r; behind = b } in
        let here : IsFaultyWord g (l ∷ ls) (name_of s) (told w n) (left + b) = faulty_here first (sym (answer_of (Some left) says h m a r e)) in
        subst (λ (v : FormulaFault). IsFaultyWord g (l ∷ ls) y v (left + b)) fault
        (subst (λ (v : List ℕ). IsFaultyWord g (l ∷ ls) v (told w n) (left + b)) name here)

    pub word_is_there : CountedWords → AnswersWord None → IsFoundAt g z item b s y f None
    word_is_there count says = λ h m a r e ls k u.
        let there = has_word count r first in
        none_isnt (answer_of None says h m a r e ∙ there.1)

-- ---- words behind an item

joined_count : (p : Placed) (is : List (List Placed)) → word_count (joined p is) ≡ suc (word_count is)
joined_count p [] = refl
joined_count p (i ∷ is) = omega arith

either_count : (b : Bool) (p : Placed) (is : List (List Placed)) → word_count (if b then (p ∷ []) ∷ is else joined p is) ≡ suc (word_count is)
either_count true p is = omega arith
either_count false p is = joined_count p is

cut_count : (ps : List Placed) → word_count (cut ps) ≡ length ps
cut_count [] = refl
cut_count (p ∷ ps) = either_count (starts_item ps) p (cut ps) ∙ ap suc (cut_count ps)

placed_count : (z : List ℕ) (ts : List Token) → length (placed z ts) ≡ length ts
placed_count z [] = refl
placed_count z (t ∷ ts) = ap suc (placed_count z ts)

-- ---- among the items

-- the first word of a restriction or a lemma
abbrev begins_stated : List Word → Bool
begins_stated a = starts (codes "restriction") a || starts (codes "lemma") a

statement_begins : {h : Sig} {m : Limits} {s : Statement} {a : List Word} → IsStatement h m s a → begins_stated a ≡ true
statement_begins (is_restriction q) = refl
statement_begins (is_lemma h d q) = refl

isnt_end : {h : Sig} {v : Item} {a : List Word} → IsItem h v a → starts (codes "end") a ≡ false
isnt_end (item_builtins r) = refl
isnt_end (item_functions r) = refl
isnt_end (item_definition p r) = refl
isnt_end (item_process r) = refl
isnt_end (item_statement (is_restriction q)) = refl
isnt_end (item_statement (is_lemma h d q)) = refl

both_ways : {A : Type 0} {b : Bool} → b ≡ true → b ≡ false → A
both_ways t f = absurd (cc (t, f))

none_among : {g : Sig} {y : List ℕ} {f : FormulaFault} {k : ℕ} → IsFaultyWord g [] y f k → ⊥
none_among u = elim u [ ]

first_words : (z : List ℕ) (item : List Token) {i : List Placed} {is rest : List (List Placed)} → i ∷ is ≡ placed z item ∷ rest → words i ≡ words_of z item
first_words z item {i = i} p =
    let here : i ≡ placed z item = cc (p) in
    ap words here ∙ words_placed z item

later_pieces : {i j : List Placed} {is js : List (List Placed)} → i ∷ is ≡ j ∷ js → is ≡ js
later_pieces p = cc (p)

end_begins : {a : List Word} → a ≡ mark (codes "end") ∷ [] → starts (codes "end") a ≡ true
end_begins e = ap (starts (codes "end")) e

end_isnt_stated : {a : List Word} → a ≡ mark (codes "end") ∷ [] → begins_stated a ≡ false
end_isnt_stated e = ap begins_stated e

not_there : {g : Sig} {l : LocatedStatement} {ls : List LocatedStatement} {y : List ℕ} {f : FormulaFault} {k : ℕ} → NoFaultLaw → HasNoFault g true (formula_of l.statement)
    → ((k : ℕ) → IsFaultyWord g ls y f k → ⊥) → IsFaultyWord g (l ∷ ls) y f k → ⊥
not_there never n found (faulty_here a h) = never _ _ _ _ _ a n
not_there never n found (faulty_later m u) = found _ u

module _ (g : Sig) (z : List ℕ) (y : List ℕ) (f : FormulaFault) where
  no_items : {h : Sig} {pieces : List (List Placed)} {is : List Standing} (r : AreItems h pieces is) (o : Option FileWord) → pieces ≡ [] → IsWordFound g (located_statements r) y f o
  no_items (items_end e) o p = absurd (cc (p))
  no_items (items_more r rs) o p = absurd (cc (p))

  pub over : (ts : List Token) (ss : List Statement) (o : Option FileWord) → ts ≡ [] → IsFoundIn g z ts ss y f o
  over ts ss o e = λ h pieces is r p q. no_items r o (p ∙ ap (λ (us : List Token). cut (placed z us)) e)

  -- one that has no fault is passed by
  passed_by : (l : LocatedStatement) (ls : List LocatedStatement) (o : Option FileWord) → HasNoFault g true (formula_of l.statement) → NoFaultLaw → IsWordFound g ls y f o → IsWordFound g (l ∷ ls) y f o
  passed_by l ls None n never found = λ k u. not_there never n found u
  passed_by l ls (Some w) n never found = faulty_later n found

  module _ (ts item behind : List Token) (split : cut (placed z ts) ≡ placed z item ∷ cut (placed z behind)) where
    ended : {h : Sig} {pieces : List (List Placed)} {is : List Standing} (r : AreItems h pieces is) → pieces ≡ placed z item ∷ cut (placed z behind) → starts (codes "end") (words_of z item) ≡ true
        → IsWordFound g (located_statements r) y f None
    ended (items_end e) p b = λ k u. none_among u
    ended (items_more r rs) p b = both_ways (ap (starts (codes "end")) (first_words z item p) ∙ b) (isnt_end r)

    pub at_end : (ss : List Statement) → starts (codes "end") (words_of z item) ≡ true → IsFoundIn g z ts ss y f None
    at_end ss b = λ h pieces is r p q. ended r (p ∙ split) b

    other_item : {h : Sig} {v : Item} {a : List Word} (r : IsItem h v a) → a ≡ words_of z item → begins_stated (words_of z item) ≡ false → (pieces : List (List Placed)) (is : List Standing)
        (rs : AreItems h pieces is) (n : ℕ) (ss : List Statement) (o : Option FileWord) → pieces ≡ cut (placed z behind) → stated_by v ++ statements is ≡ ss → IsFoundIn g z behind ss y f o
        → IsWordFound g (stated_at r n ++ located_statements rs) y f o
    other_item (item_builtins r) e b pieces is rs n ss o p q found = found _ pieces is rs p q
    other_item (item_functions r) e b pieces is rs n ss o p q found = found _ pieces is rs p q
    other_item (item_definition t r) e b pieces is rs n ss o p q found = found _ pieces is rs p q
    other_item (item_process r) e b pieces is rs n ss o p q found = found _ pieces is rs p q
    other_item (item_statement r) e b pieces is rs n ss o p q found = both_ways (statement_begins r) (ap begins_stated e ∙ b)

    other : {h : Sig} {pieces : List (List Placed)} {is : List Standing} (r : AreItems h pieces is) → pieces ≡ placed z item ∷ cut (placed z behind) → starts (codes "end") (words_of z item) ≡ false
        → begins_stated (words_of z item) ≡ false → (ss : List Statement) (o : Option FileWord) → statements is ≡ ss → IsFoundIn g z behind ss y f o → IsWordFound g (located_statements r) y f o
    other (items_end e) p b c ss o q found = both_ways (end_begins e) (ap (starts (codes "end")) (first_words z item p) ∙ b)
    other (items_more {is = is} {vs = vs} r rs) p b c ss o q found = other_item r (first_words z item p) c is vs rs (word_count is) ss o (later_pieces p) q found

    pub at_other : (ss : List Statement) (o : Option FileWord) → starts (codes "end") (words_of z item) ≡ false → begins_stated (words_of z item) ≡ false → IsFoundIn g z behind ss y f o
        → IsFoundIn g z ts ss y f o
    at_other ss o b c found = λ h pieces is r p q. other r (p ∙ split) b c ss o q found

    -- what is wanted where a restriction or a lemma is the first item
    abbrev AtStatement : List Statement → Option FileWord → Type 0
    AtStatement ss o = (h : Sig) (m : Limits) (u : Statement) (a : List Word) (q : IsStatement h m u a) (pieces : List (List Placed)) (is : List Standing) (rs : AreItems h pieces is)
        → a ≡ words_of z item → pieces ≡ cut (placed z behind) → u ∷ statements is ≡ ss
        → IsWordFound g (record { statement = u; words = statement_words q; behind = word_count pieces } ∷ located_statements rs) y f o

    stated_item : {h : Sig} {v : Item} {a : List Word} (r : IsItem h v a) → a ≡ words_of z item → begins_stated (words_of z item) ≡ true → (pieces : List (List Placed)) (is : List Standing)
        (rs : AreItems h pieces is) (ss : List Statement) (o : Option FileWord) → pieces ≡ cut (placed z behind) → stated_by v ++ statements is ≡ ss → AtStatement ss o
        → IsWordFound g (stated_at r (word_count pieces) ++ located_statements rs) y f o
    stated_item (item_builtins r) e b pieces is rs ss o p q found = both_ways (ap begins_stated e ∙ b) refl
    stated_item (item_functions r) e b pieces is rs ss o p q found = both_ways (ap begins_stated e ∙ b) refl
    stated_item (item_definition t r) e b pieces is rs ss o p q found = both_ways (ap begins_stated e ∙ b) refl
    stated_item (item_process r) e b pieces is rs ss o p q found = both_ways (ap begins_stated e ∙ b) refl
    stated_item (item_statement r) e b pieces is rs ss o p q found = found _ _ _ _ r pieces is rs e p q

    stated : {h : Sig} {pieces : List (List Placed)} {is : List Standing} (r : AreItems h pieces is) → pieces ≡ placed z item ∷ cut (placed z behind) → begins_stated (words_of z item) ≡ true
        → (ss : List Statement) (o : Option FileWord) → statements is ≡ ss → AtStatement ss o → IsWordFound g (located_statements r) y f o
    stated (items_end e) p b ss o q found = both_ways (ap begins_stated (first_words z item p) ∙ b) (end_isnt_stated e)
    stated (items_more {is = is} {vs = vs} r rs) p b ss o q found = stated_item r (first_words z item p) b is vs rs ss o (later_pieces p) q found

    -- none is left
    pub at_none : begins_stated (words_of z item) ≡ true → IsFoundIn g z ts [] y f None
    at_none b = λ h pieces is r p q. stated r (p ∙ split) b [] None q (λ h m u a t pieces is rs e p q. absurd (cc (q)))

    same_head : {s u : Statement} {ss us : List Statement} → u ∷ us ≡ s ∷ ss → s ≡ u
    same_head q = cc (q)

    same_tail : {s u : Statement} {ss us : List Statement} → u ∷ us ≡ s ∷ ss → us ≡ ss
    same_tail q = cc (q)

    behind_count : {pieces : List (List Placed)} → pieces ≡ cut (placed z behind) → length behind ≡ word_count pieces
    behind_count p = sym (ap word_count p ∙ cut_count (placed z behind) ∙ placed_count z behind)

    -- one is decided
    pub at_decided : (s : Statement) (ss : List Statement) (o : Option FileWord) → begins_stated (words_of z item) ≡ true → IsFoundAt g z item (length behind) s y f o → IsFoundIn g z ts (s ∷ ss) y f o
    at_decided s ss o b found = λ h pieces is r p q.
        stated r (p ∙ split) b (s ∷ ss) o q
        (λ h m u a t pieces is rs e p q.
        subst (λ (n : ℕ). IsWordFound g (record { statement = u; words = statement_words t; behind = n } ∷ located_statements rs) y f o) (behind_count p)
        (subst (λ (v : Statement). (t : IsStatement h m v a) → IsWordFound g (record { statement = v; words = statement_words t; behind = length behind } ∷ located_statements rs) y f o) (same_head q)
        (λ t. found h m a t e (located_statements rs)) t))

    -- one has no fault
    pub at_faultless : (s : Statement) (ss : List Statement) (o : Option FileWord) → begins_stated (words_of z item) ≡ true → NoFaultLaw → HasNoFault g true (formula_of s) → IsFoundIn g z behind ss y f o
        → IsFoundIn g z ts (s ∷ ss) y f o
    at_faultless s ss o b never n found = λ h pieces is r p q.
        stated r (p ∙ split) b (s ∷ ss) o q
        (λ h m u a t pieces is rs e p q.
        passed_by (record { statement = u; words = statement_words t; behind = word_count pieces }) (located_statements rs) o
        (subst (λ (v : Statement). HasNoFault g true (formula_of v)) (same_head q) n) never (found h pieces is rs p (same_tail q)))
