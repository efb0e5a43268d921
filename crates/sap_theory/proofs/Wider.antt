-- What is within some limits is within any greater ones.
use Rattle.std.proofs.Common.{◌≡◌, ◌≤◌, max, ℕ, Bool, List, Option, None, refl, sym, subst, arith}
use Rattle.std.proofs.lemmas.List.Elements.{All-weaker}
use Rattle.sap_terms.specs.declared.fact.Fact.{Fact}
use Rattle.sap_terms.specs.Tree.{Tree, node_count}
use Rattle.sap_terms.specs.Signature.{Sig}
use Rattle.sap_formula.specs.Form.{Form, truth, falsity, action, equal, same_time, earlier, negation, both, either, implies, equivalent, every, exists}
use Rattle.sap_grammar.specs.declared.limits.Limits.{Limits}
use Rattle.sap_grammar.specs.Words.{Word}
use Rattle.sap_grammar.specs.Sizes.{AtMost, IsSmall, AreSmall}
use Rattle.sap_grammar.specs.FactGrammar.{IsShortFact, AreSomeFacts, AreFacts, facts_last, facts_more, facts_none, facts_some}
use Rattle.sap_formula_grammar.specs.FormulaGrammar.{IsSmallForm, IsShortFormula}
use Rattle.sap_statements.specs.declared.statement.Statement.{Statement}
use Rattle.sap_statements.specs.Statements.{IsStatement, is_restriction, is_lemma}

-- n allows what m does, and any number of nodes
pub record IsWider (m n : Limits) : Type 0 where
  pub terms : m.term_levels ≤ n.term_levels
  pub nodes : n.term_nodes ≡ None
  pub formulas : m.formula_levels ≤ n.formula_levels

-- what both allow
pub joined_limits : Limits → Limits → Limits
joined_limits m n = record { name_bytes = 0; term_levels = max m.term_levels n.term_levels; term_nodes = None; formula_levels = max m.formula_levels n.formula_levels }

pub wider_left : (m n : Limits) → IsWider m (joined_limits m n)
unfolding joined_limits
wider_left m n = record { terms = omega arith; nodes = refl; formulas = omega arith }

pub wider_right : (m n : Limits) → IsWider n (joined_limits m n)
unfolding joined_limits
wider_right m n = record { terms = omega arith; nodes = refl; formulas = omega arith }

module _ (m n : Limits) (w : IsWider m n) where
  small_wider : (t : Tree) → IsSmall m t → IsSmall n t
  small_wider t h = record { few_levels = omega (arith, h.few_levels, w.terms); few_nodes = subst (λ (o : Option ℕ). AtMost o (node_count t)) (sym w.nodes) tt }

  all_wider : (ts : List Tree) → AreSmall m ts → AreSmall n ts
  all_wider ts h = All-weaker (IsSmall m) (IsSmall n) small_wider ts h

  module _ {g : Sig} where
    fact_wider : {s : Bool} {f : Fact} {a b : List Word} → IsShortFact g m s f a b → IsShortFact g n s f a b
    fact_wider {f = f} r = record { spelled = r.spelled; small = all_wider f.args r.small; sign = r.sign }

    some_wider : {s : Bool} {c : List ℕ} {fs : List Fact} {a b : List Word} → AreSomeFacts g m s c fs a b → AreSomeFacts g n s c fs a b
    some_wider (facts_last r) = facts_last (fact_wider r)
    some_wider (facts_more r rs) = facts_more (fact_wider r) (some_wider rs)

    pub facts_wider : {s : Bool} {c : List ℕ} {fs : List Fact} {a b : List Word} → AreFacts g m s c fs a b → AreFacts g n s c fs a b
    facts_wider facts_none = facts_none
    facts_wider (facts_some r) = facts_some (some_wider r)

  form_wider : (f : Form) → IsSmallForm m f → IsSmallForm n f
  form_wider truth h = h
  form_wider falsity h = h
  form_wider (action f i) h = all_wider f.args h
  form_wider (equal t u) h = (small_wider t h.0, small_wider u h.1)
  form_wider (same_time i j) h = h
  form_wider (earlier i j) h = h
  form_wider (negation f) h = form_wider f h
  form_wider (both f k) h = (form_wider f h.0, form_wider k h.1)
  form_wider (either f k) h = (form_wider f h.0, form_wider k h.1)
  form_wider (implies f k) h = (form_wider f h.0, form_wider k h.1)
  form_wider (equivalent f k) h = (form_wider f h.0, form_wider k h.1)
  form_wider (every vs f) h = form_wider f h
  form_wider (exists vs f) h = form_wider f h

  module _ {g : Sig} where
    short_wider : {f : Form} {a b : List Word} → IsShortFormula g m f a b → IsShortFormula g n f a b
    short_wider {f = f} r = record { reach = r.reach; levels = r.levels; spelled = r.spelled; few_levels = omega (arith, r.few_levels, w.formulas); small = form_wider f r.small }

    pub statement_wider : {s : Statement} {a : List Word} → IsStatement g m s a → IsStatement g n s a
    statement_wider (is_restriction r) = is_restriction (short_wider r)
    statement_wider (is_lemma r s t) = is_lemma r s (short_wider t)
