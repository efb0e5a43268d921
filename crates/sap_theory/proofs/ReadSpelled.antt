-- A theory that is read is spelled, over its signature.
use Rattle.std.proofs.Common.{◌≡◌, ℕ, Bool, false, List, [], ◌∷◌, ◌++◌, Ok, refl, sym, ap, subst, ◌∙◌, arith}
use Rattle.std.specs.Prelude.{Result, map, All}
use Rattle.std.proofs.lemmas.List.Elements.{All-nil, All-cons, All-head, All-tail}
use Rattle.sap_terms.specs.Laws.{BuiltinsStayHeld}
use Rattle.sap_terms.specs.Signature.{Sig, pairs_alone}
use Rattle.sap_terms.specs.declared.limits.TheConstants.{MOST_THEORY_NAME_BYTES}
use Rattle.sap_formula.specs.Faults.{HasNoFault}
use Rattle.sap_formula.specs.Form.{Form, RestrictionForm, LemmaForm}
use Rattle.sap_formula.specs.Sorted.{with_sorts}
use Rattle.sap_rule.specs.declared.theory.Theory.{Theory}
use Rattle.sap_grammar.specs.declared.limits.Limits.{Limits}
use Rattle.sap_grammar.specs.Words.{Word}
use Rattle.sap_grammar.specs.Cut.{Placed}
use Rattle.sap_grammar.specs.Items.{Standing, AreItems, items_end, items_more}
use Rattle.sap_grammar.specs.Signatures.{signature_from, clash_from}
use Rattle.sap_statements.specs.Printable.{IsFormOver}
use Rattle.sap_statements.specs.declared.statement.Statement.{Statement}
use Rattle.sap_statements.specs.declared.statement.Statement.TheVariants.{Restriction as restriction, Lemma as lemma}
use Rattle.sap_statements.specs.Sorted.{plainly_sorted, sorted_statement}
use Rattle.sap_statements.specs.Statements.{formula_of}
use Rattle.sap_theory.specs.declared.fault.TheoryFault.{TheoryFault}
use Rattle.sap_theory.specs.declared.limits.TheConstants.{THEORY_LIMITS}
use Rattle.sap_theory.specs.TheoryGrammar.{TheoryItem, builtins, functions, rule, statement, IsWrittenItem, IsTheoryItem, IsAnyTheoryItem, item_builtins, item_functions, item_rule, item_statement, declared_by, declarations, items_of, rules_in, statements_in, restrictions_in, lemmas_in, signature_of, AreSameSignatures}
use Rattle.sap_theory.specs.TheoryOver.{IsTheoryOver}
use Rattle.sap_theory.specs.WrittenItems.{AreWrittenItems}
use Rattle.sap_statements.specs.Stated.{AreFaultless, restrictions_of, lemmas_of}
use Rattle.sap_theory.specs.TheoryCauses.{AreAccepted}
use Rattle.sap_theory.specs.ReadTheory.{IsParted, IsTheoryRead, theory_of, no_tokens, no_header, no_item, refused, accepted}
use Rattle.sap_theory.specs.ReadAgain.{SpellsWithin}
use Rattle.sap_grammar.proofs.ReadingLaws.Signatures.{map_held}
use Rattle.sap_theory.proofs.Held.{builtins_held}

-- what the laws of formulas without a fault say
abbrev pub SortsAgree : Type 0
SortsAgree = (g : Sig) (r : Bool) (f : Form) → HasNoFault g r f → with_sorts [] f ≡ plainly_sorted [] f

abbrev SortedOver : Type 0
SortedOver = (g : Sig) (r : Bool) (f : Form) → HasNoFault g r f → IsFormOver g (with_sorts [] f)

-- the item, a plain variable of a formula with the sort of its binder
abbrev pub sorted_item : TheoryItem → TheoryItem
sorted_item (builtins bs) = builtins bs
sorted_item (functions ss) = functions ss
sorted_item (rule r) = rule r
sorted_item (statement s) = statement (sorted_statement s)

abbrev pub sorted_items : List (Standing TheoryItem) → List (Standing TheoryItem)
sorted_items is = map (λ (i : Standing TheoryItem). record { item = sorted_item i.item; line = i.line }) is

item_sorted : {g : Sig} {m : Limits} {v : TheoryItem} {a : List Word} → IsWrittenItem g m v a → IsTheoryItem g m (sorted_item v) a
item_sorted (item_builtins r) = item_builtins r
item_sorted (item_functions r) = item_functions r
item_sorted (item_rule r) = item_rule r
item_sorted (item_statement r) = item_statement r

items_sorted : {g : Sig} {cut : List (List Placed)} {is : List (Standing TheoryItem)} → AreWrittenItems g cut is → AreItems (IsTheoryItem g THEORY_LIMITS) cut (sorted_items is)
items_sorted (items_end e) = items_end e
items_sorted (items_more r rs) = items_more (item_sorted r) (items_sorted rs)

any_limits : {g : Sig} {cut : List (List Placed)} {vs : List (Standing TheoryItem)} → AreItems (IsTheoryItem g THEORY_LIMITS) cut vs → AreItems (IsAnyTheoryItem g) cut vs
any_limits (items_end e) = items_end e
any_limits (items_more r rs) = items_more (record { limits = THEORY_LIMITS; is = r }) (any_limits rs)

-- they declare the same
item_declares : (v : TheoryItem) → declared_by (sorted_item v) ≡ declared_by v
item_declares (builtins bs) = refl
item_declares (functions ss) = refl
item_declares (rule r) = refl
item_declares (statement s) = refl

pub same_declarations : (is : List (Standing TheoryItem)) → declarations (sorted_items is) ≡ declarations is
same_declarations [] = refl
same_declarations (i ∷ is) = λ k. item_declares i.item k ++ same_declarations is k

-- and are the same rules, restrictions and lemmas
pub without_lines : (is : List (Standing TheoryItem)) → items_of (sorted_items is) ≡ map sorted_item (items_of is)
without_lines [] = refl
without_lines (i ∷ is) = ap (λ (vs : List TheoryItem). sorted_item i.item ∷ vs) (without_lines is)

pub same_rules : (vs : List TheoryItem) → rules_in vs ≡ rules_in (map sorted_item vs)
same_rules [] = refl
same_rules (builtins bs ∷ vs) = same_rules vs
same_rules (functions ss ∷ vs) = same_rules vs
same_rules (rule r ∷ vs) = ap (λ rs. r ∷ rs) (same_rules vs)
same_rules (statement s ∷ vs) = same_rules vs

module _ (g : Sig) where
  abbrev IsFaultless : Statement → Type 0
  IsFaultless s = HasNoFault g false (formula_of s)

  pub same_restrictions : SortsAgree → (vs : List TheoryItem) → AreFaultless g false (statements_in vs) → restrictions_of (statements_in vs) ≡ restrictions_in (map sorted_item vs)
  same_restrictions agree [] a = refl
  same_restrictions agree (builtins bs ∷ vs) a = same_restrictions agree vs a
  same_restrictions agree (functions ss ∷ vs) a = same_restrictions agree vs a
  same_restrictions agree (rule r ∷ vs) a = same_restrictions agree vs a
  same_restrictions agree (statement (restriction r) ∷ vs) a =
      let here = agree g false r.formula (All-head IsFaultless (restriction r) (statements_in vs) a) in
      let behind = same_restrictions agree vs (All-tail IsFaultless (restriction r) (statements_in vs) a) in
      λ i. record { name = r.name; formula = here i } ∷ behind i
  same_restrictions agree (statement (lemma l) ∷ vs) a = same_restrictions agree vs (All-tail IsFaultless (lemma l) (statements_in vs) a)

  pub same_lemmas : SortsAgree → (vs : List TheoryItem) → AreFaultless g false (statements_in vs) → lemmas_of (statements_in vs) ≡ lemmas_in (map sorted_item vs)
  same_lemmas agree [] a = refl
  same_lemmas agree (builtins bs ∷ vs) a = same_lemmas agree vs a
  same_lemmas agree (functions ss ∷ vs) a = same_lemmas agree vs a
  same_lemmas agree (rule r ∷ vs) a = same_lemmas agree vs a
  same_lemmas agree (statement (restriction r) ∷ vs) a = same_lemmas agree vs (All-tail IsFaultless (restriction r) (statements_in vs) a)
  same_lemmas agree (statement (lemma l) ∷ vs) a =
      let here = agree g false l.formula (All-head IsFaultless (lemma l) (statements_in vs) a) in
      let behind = same_lemmas agree vs (All-tail IsFaultless (lemma l) (statements_in vs) a) in
      λ i. record { name = l.name; attributes = l.attributes; mode = l.mode; formula = here i } ∷ behind i

  module _ (over : SortedOver) where
    abbrev RestrictionOver : RestrictionForm → Type 0
    RestrictionOver r = IsFormOver g r.formula

    abbrev LemmaOver : LemmaForm → Type 0
    LemmaOver l = IsFormOver g l.formula

    restrictions_over : (ss : List Statement) → AreFaultless g false ss → All RestrictionOver (restrictions_of ss)
    restrictions_over [] a = All-nil RestrictionOver
    restrictions_over (restriction r ∷ ss) a =
        All-cons RestrictionOver _ (restrictions_of ss) (over g false r.formula (All-head IsFaultless (restriction r) ss a))
        (restrictions_over ss (All-tail IsFaultless (restriction r) ss a))
    restrictions_over (lemma l ∷ ss) a = restrictions_over ss (All-tail IsFaultless (lemma l) ss a)

    lemmas_over : (ss : List Statement) → AreFaultless g false ss → All LemmaOver (lemmas_of ss)
    lemmas_over [] a = All-nil LemmaOver
    lemmas_over (restriction r ∷ ss) a = lemmas_over ss (All-tail IsFaultless (restriction r) ss a)
    lemmas_over (lemma l ∷ ss) a =
        All-cons LemmaOver _ (lemmas_of ss) (over g false l.formula (All-head IsFaultless (lemma l) ss a))
        (lemmas_over ss (All-tail IsFaultless (lemma l) ss a))

module _ (agree : SortsAgree) (over : SortedOver) (held : BuiltinsStayHeld) where
  accepted_spelled : {z : List ℕ} {cut : List (List Placed)} (x : List ℕ) (is : List (Standing TheoryItem)) {ts : _} → IsParted z ts x cut → AreWrittenItems (signature_of is) cut is
      → AreAccepted (signature_of is) (clash_from pairs_alone (declarations is)) (rules_in (items_of is)) (statements_in (items_of is)) → SpellsWithin z (theory_of x is)
  accepted_spelled {cut = cut} x is {ts = ts} p i a =
      let same = same_declarations is in
      let signatures : signature_of (sorted_items is) ≡ signature_of is = ap (signature_from pairs_alone) same in
      let bare = without_lines is in
      let small : AreItems (IsTheoryItem (signature_of (sorted_items is)) THEORY_LIMITS) cut (sorted_items is) =
      subst (λ (g : Sig). AreItems (IsTheoryItem g THEORY_LIMITS) cut (sorted_items is)) (sym signatures) (items_sorted i) in
      record {
        spelled = record {
          most = MOST_THEORY_NAME_BYTES;
          tokens = ts;
          lexed = p.tokens;
          rest = p.rest;
          header = p.header;
          pieces = cut;
          is_cut = p.items;
          items = sorted_items is;
          are = any_limits small;
          no_clash = ap (clash_from pairs_alone) same ∙ a.no_clash;
          signature = subst (λ (g : Sig). AreSameSignatures (signature_of is) g) (sym signatures) (record { symbols = λ y. refl; builtins = refl });
          rules = same_rules (items_of is) ∙ ap rules_in (sym bare);
          restrictions = same_restrictions (signature_of is) agree (items_of is) a.faultless ∙ ap restrictions_in (sym bare);
          lemmas = same_lemmas (signature_of is) agree (items_of is) a.faultless ∙ ap lemmas_in (sym bare);
        };
        short = omega arith;
        small = small;
      }

  accepted_over : (x : List ℕ) (is : List (Standing TheoryItem))
      → AreAccepted (signature_of is) (clash_from pairs_alone (declarations is)) (rules_in (items_of is)) (statements_in (items_of is)) → IsTheoryOver (theory_of x is)
  accepted_over x is a = record {
    is_map = map_held (declarations is);
    builtins = builtins_held held (declarations is) a.no_clash;
    rules = a.over;
    restrictions = restrictions_over (signature_of is) over (statements_in (items_of is)) a.faultless;
    lemmas = lemmas_over (signature_of is) over (statements_in (items_of is)) a.faultless;
  }

  read_spelled : (z : List ℕ) (o : Result Theory TheoryFault) (t : Theory) → o ≡ Ok t → IsTheoryRead z o → SpellsWithin z t × IsTheoryOver t
  read_spelled z o t e (no_tokens l) = absurd (cc (e))
  read_spelled z o t e (no_header l h) = absurd (cc (e))
  read_spelled z o t e (no_item l h) = absurd (cc (e))
  read_spelled z o t e (refused l h c) = absurd (cc (e))
  read_spelled z _ t e (accepted {x = x} {is = is} p i a) =
      subst (λ (u : Theory). SpellsWithin z u × IsTheoryOver u) (same (theory_of x is) t e) (accepted_spelled x is p i a, accepted_over x is a)
    where
      same : (t u : Theory) → ◌≡◌ {A = Result Theory TheoryFault} (Ok t) (Ok u) → t ≡ u
      same t u e = cc

  pub read_theories_are_spelled : (z : List ℕ) (t : Theory) → IsTheoryRead z (Ok t) → SpellsWithin z t × IsTheoryOver t
  read_theories_are_spelled z t r = read_spelled z (Ok t) t refl r
