-- Bytes that spell a theory within the limits, which passes the checks, are read as it.
use Rattle.std.proofs.Common.{◌≡◌, ℕ, false, List, [], ◌∷◌, None, Ok, refl, sym, ap, subst, ◌∙◌}
use Rattle.std.specs.Prelude.{All, map, option_map}
use Rattle.std.proofs.lemmas.List.Elements.{All-nil, All-cons, All-head, All-tail, All-weaker}
use Rattle.sap_terms.specs.declared.builtins.Builtins.{Builtins}
use Rattle.sap_terms.specs.declared.fact.Fact.{Fact}
use Rattle.sap_terms.specs.declared.signature.Symbol.{Symbol}
use Rattle.sap_terms.specs.Message.{IsOver, AreOver, IsFactOver}
use Rattle.sap_terms.specs.Signature.{Sig, arity_of, is_destructor_of, pairs_alone}
use Rattle.sap_terms.specs.Tree.{Tree, variable, public, fresh, apply, Trees, none, more, trees_of}
use Rattle.sap_formula.specs.Faults.{HasFault, HasNoFault}
use Rattle.sap_formula.specs.Form.{Form, RestrictionForm, LemmaForm}
use Rattle.sap_formula.specs.Parts.{Part, symbol, fact_name, message, time, bound}
use Rattle.sap_formula.specs.declared.fault.FormulaFlaw.{FormulaFlaw}
use Rattle.sap_formula.specs.declared.fault.FormulaFlaw.TheVariants.{BadFunction, Destructor, Reserved, UnboundVar, Unguarded}
use Rattle.sap_rule.specs.declared.rule.Rule.{Rule}
use Rattle.sap_rule.specs.declared.theory.Theory.{Theory}
use Rattle.sap_rule.specs.WellMade.{IsRuleOver}
use Rattle.sap_grammar.specs.declared.limits.Limits.{Limits}
use Rattle.sap_grammar.specs.Words.{Word}
use Rattle.sap_grammar.specs.Cut.{Placed, first_line}
use Rattle.sap_grammar.specs.Declarations.{Declaration}
use Rattle.sap_grammar.specs.Items.{Standing, AreItems, items_end, items_more}
use Rattle.sap_grammar.specs.Signatures.{signature_from, clash_from}
use Rattle.sap_statements.specs.declared.statement.Statement.{Statement}
use Rattle.sap_statements.specs.declared.statement.Statement.TheVariants.{Restriction as restriction, Lemma as lemma}
use Rattle.sap_statements.specs.Statements.{formula_of}
use Rattle.sap_theory.specs.declared.limits.TheConstants.{THEORY_LIMITS}
use Rattle.sap_theory.specs.TheoryGrammar.{TheoryItem, builtins, functions, rule, statement, IsTheoryItem, IsWrittenItem, item_builtins, item_functions, item_rule, item_statement, declarations, items_of, rules_in, statements_in, restrictions_in, lemmas_in, signature_of, AreSameSignatures, SpellsTheory, AreSameTheories}
use Rattle.sap_theory.specs.WrittenItems.{AreWrittenItems}
use Rattle.sap_statements.specs.Stated.{AreFaultless}
use Rattle.sap_theory.specs.TheoryCauses.{first_repeated, rule_names, shared, IsPlainRule, AreAccepted}
use Rattle.sap_theory.specs.ReadAgain.{SpellsWithin, PassesChecks, names_of}
use Rattle.sap_theory.specs.ReadTheory.{IsParted, IsTheoryRead, theory_of, accepted}
use Rattle.sap_theory.proofs.DistinctNames.{names_mixed}
use Rattle.sap_theory.proofs.OneTheory.{lexed_wider}
use Rattle.sap_theory.proofs.ReadSpelled.{SortsAgree, sorted_item, sorted_items, same_declarations, without_lines, same_rules, same_restrictions, same_lemmas}
use Rattle.sap_theory.proofs.WrittenFaults.{faultless_as_written}

-- Items as they are written.
item_written : {g : Sig} {m : Limits} {v : TheoryItem} {a : List Word} → IsTheoryItem g m v a → (w : TheoryItem) × IsWrittenItem g m w a × (v ≡ sorted_item w)
item_written (item_builtins r) = (_, item_builtins r, refl)
item_written (item_functions r) = (_, item_functions r, refl)
item_written (item_rule r) = (_, item_rule r, refl)
item_written (item_statement {s = s} r) = (statement s, item_statement r, refl)

items_written : {g : Sig} {cut : List (List Placed)} {vs : List (Standing TheoryItem)} → AreItems (IsTheoryItem g THEORY_LIMITS) cut vs
    → (is : List (Standing TheoryItem)) × AreWrittenItems g cut is × (vs ≡ sorted_items is)
items_written (items_end e) = ([], items_end e, refl)
items_written (items_more {i = i} r rs) =
    let one = item_written r in
    let more = items_written rs in (
      record { item = one.0; line = first_line i } ∷ more.0,
      items_more one.1 more.1,
      λ k. record { item = one.2 k; line = first_line i } ∷ more.2 k,
    )

-- What is over one signature is over another that holds the same.
module _ (g h : Sig) (same : AreSameSignatures g h) where
  same_arity : (x : List ℕ) → arity_of g x ≡ arity_of h x
  same_arity x = ap (option_map (λ (s : Symbol). s.arity)) (same.symbols x)

  same_destructor : (x : List ℕ) → is_destructor_of g x ≡ is_destructor_of h x
  same_destructor x = ap (λ (b : Builtins). is_destructor_of (record { symbols = []; builtins = b }) x) same.builtins

  mutual
    tree_over : (t : Tree) → IsOver g t → IsOver h t
    tree_over (variable v) o = tt
    tree_over (public n) o = tt
    tree_over (fresh k) o = tt
    tree_over (apply f ts) o = (sym (same_arity f) ∙ o.0, trees_over ts o.1)

    trees_over : (ts : Trees) → AreOver g ts → AreOver h ts
    trees_over none o = tt
    trees_over (more t ts) o = (tree_over t o.0, trees_over ts o.1)

  facts_over : (fs : List Fact) → All (IsFactOver g) fs → All (IsFactOver h) fs
  facts_over fs a = All-weaker (IsFactOver g) (IsFactOver h) (λ f o. trees_over (trees_of f.args) o) fs a

  rule_over : (r : Rule) → IsRuleOver g r → IsRuleOver h r
  rule_over r o = record { left = facts_over r.left o.left; acts = facts_over r.acts o.acts; right = facts_over r.right o.right }

  fault_moves : (w : FormulaFlaw) (p : Part) → HasFault h false w p → HasFault g false w p
  fault_moves BadFunction (symbol f n) k = λ e. k (sym (same_arity f) ∙ e)
  fault_moves Destructor (symbol f n) k = same_destructor f ∙ k
  fault_moves Reserved (symbol f n) k = k
  fault_moves UnboundVar (symbol f n) k = k
  fault_moves Unguarded (symbol f n) k = k
  fault_moves BadFunction (fact_name n) k = k
  fault_moves Destructor (fact_name n) k = k
  fault_moves Reserved (fact_name n) k = k
  fault_moves UnboundVar (fact_name n) k = k
  fault_moves Unguarded (fact_name n) k = k
  fault_moves BadFunction (message s v) k = k
  fault_moves Destructor (message s v) k = k
  fault_moves Reserved (message s v) k = k
  fault_moves UnboundVar (message s v) k = k
  fault_moves Unguarded (message s v) k = k
  fault_moves BadFunction (time s n) k = k
  fault_moves Destructor (time s n) k = k
  fault_moves Reserved (time s n) k = k
  fault_moves UnboundVar (time s n) k = k
  fault_moves Unguarded (time s n) k = k
  fault_moves BadFunction (bound f b) k = k
  fault_moves Destructor (bound f b) k = k
  fault_moves Reserved (bound f b) k = k
  fault_moves UnboundVar (bound f b) k = k
  fault_moves Unguarded (bound f b) k = k

  free_moves : (f : Form) → HasNoFault g false f → HasNoFault h false f
  free_moves f free w k at = free w k (record { part = at.part; stands = at.stands; fault = fault_moves w at.part at.fault })

-- formulas without a fault have none as they are written
module _ (g : Sig) where
  abbrev RestrictionFree : RestrictionForm → Type 0
  RestrictionFree r = HasNoFault g false r.formula

  abbrev LemmaFree : LemmaForm → Type 0
  LemmaFree l = HasNoFault g false l.formula

  abbrev StatementFree : Statement → Type 0
  StatementFree s = HasNoFault g false (formula_of s)

  written_free : (vs : List TheoryItem) → All RestrictionFree (restrictions_in (map sorted_item vs)) → All LemmaFree (lemmas_in (map sorted_item vs)) → AreFaultless g false (statements_in vs)
  written_free [] a b = All-nil StatementFree
  written_free (builtins bs ∷ vs) a b = written_free vs a b
  written_free (functions ss ∷ vs) a b = written_free vs a b
  written_free (rule r ∷ vs) a b = written_free vs a b
  written_free (statement (restriction r) ∷ vs) a b =
      All-cons StatementFree (restriction r) (statements_in vs) (faultless_as_written g false r.formula (All-head RestrictionFree _ (restrictions_in (map sorted_item vs)) a))
      (written_free vs (All-tail RestrictionFree _ (restrictions_in (map sorted_item vs)) a) b)
  written_free (statement (lemma l) ∷ vs) a b =
      All-cons StatementFree (lemma l) (statements_in vs) (faultless_as_written g false l.formula (All-head LemmaFree _ (lemmas_in (map sorted_item vs)) b))
      (written_free vs a (All-tail LemmaFree _ (lemmas_in (map sorted_item vs)) b))

module _ (agree : SortsAgree) (z : List ℕ) (t : Theory) (w : SpellsWithin z t) (ok : PassesChecks t) where
  abbrev s : SpellsTheory z t
  s = w.spelled

  written : (is : List (Standing TheoryItem)) × AreWrittenItems (signature_of s.items) s.pieces is × (s.items ≡ sorted_items is)
  written = items_written w.small

  abbrev is : List (Standing TheoryItem)
  is = written.0

  abbrev vs : List TheoryItem
  vs = items_of is

  declared : declarations s.items ≡ declarations is
  declared = ap (λ (js : List (Standing TheoryItem)). declarations js) written.2 ∙ same_declarations is

  signatures : signature_of s.items ≡ signature_of is
  signatures = ap (λ (ds : List Declaration). signature_from pairs_alone ds) declared

  bare : items_of s.items ≡ map sorted_item vs
  bare = ap items_of written.2 ∙ without_lines is

  rules : t.rules ≡ rules_in vs
  rules = s.rules ∙ ap rules_in bare ∙ sym (same_rules vs)

  restrictions : t.restrictions ≡ restrictions_in (map sorted_item vs)
  restrictions = s.restrictions ∙ ap restrictions_in bare

  lemmas : t.lemmas ≡ lemmas_in (map sorted_item vs)
  lemmas = s.lemmas ∙ ap lemmas_in bare

  holds_same : AreSameSignatures t.signature (signature_of is)
  holds_same = subst (λ (g : Sig). AreSameSignatures t.signature g) signatures s.signature

  free : AreFaultless (signature_of is) false (statements_in vs)
  free =
      written_free (signature_of is) vs
      (subst (All (RestrictionFree (signature_of is))) restrictions
      (All-weaker (RestrictionFree t.signature) (RestrictionFree (signature_of is)) (λ r h. free_moves t.signature (signature_of is) holds_same r.formula h) t.restrictions ok.restrictions))
      (subst (All (LemmaFree (signature_of is))) lemmas
      (All-weaker (LemmaFree t.signature) (LemmaFree (signature_of is)) (λ l h. free_moves t.signature (signature_of is) holds_same l.formula h) t.lemmas ok.lemmas))

  own_names : shared (rules_in vs) (statements_in vs) ≡ None
  own_names =
      let of_rules : first_repeated (rule_names (rules_in vs)) ≡ None = subst (λ (rs : List Rule). first_repeated (rule_names rs) ≡ None) rules ok.rule_names in
      let kinds : first_repeated (names_of (restrictions_in (map sorted_item vs)) (lemmas_in (map sorted_item vs))) ≡ None =
      subst (λ (rs : List RestrictionForm). first_repeated (names_of rs (lemmas_in (map sorted_item vs))) ≡ None) restrictions
      (subst (λ (ls : List LemmaForm). first_repeated (names_of t.restrictions ls) ≡ None) lemmas ok.names) in
      rw of_rules (names_mixed vs kinds)

  passes : AreAccepted (signature_of is) (clash_from pairs_alone (declarations is)) (rules_in vs) (statements_in vs)
  passes = record {
    names = own_names;
    no_clash = ap (clash_from pairs_alone) (sym declared) ∙ s.no_clash;
    over =
        subst (All (IsRuleOver (signature_of is))) rules
        (All-weaker (IsRuleOver t.signature) (IsRuleOver (signature_of is)) (λ r o. rule_over t.signature (signature_of is) holds_same r o) t.rules ok.over);
    plain = subst (All IsPlainRule) rules ok.plain;
    faultless = free;
  }

  parted : IsParted z s.tokens t.name s.pieces
  parted = record { tokens = lexed_wider w.short s.lexed tt; rest = s.rest; header = s.header; items = s.is_cut }

  pub read_within : (u : Theory) × IsTheoryRead z (Ok u) × AreSameTheories t u
  read_within = (
    theory_of t.name is,
    accepted parted (subst (λ (g : Sig). AreWrittenItems g s.pieces is) signatures written.1) passes,
    record {
      names = refl;
      signatures = holds_same;
      rules = rules;
      restrictions = restrictions ∙ sym (same_restrictions (signature_of is) agree vs free);
      lemmas = lemmas ∙ sym (same_lemmas (signature_of is) agree vs free);
    },
  )
