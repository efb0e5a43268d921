-- Theories whose text is read again.
use Rattle.std.specs.Prelude.{◌≡◌, ◌≤◌, ℕ, false, List, ◌++◌, None, map, All}
use Rattle.sap_terms.specs.declared.limits.TheConstants.{MOST_THEORY_NAME_BYTES}
use Rattle.sap_formula.specs.Faults.{HasNoFault}
use Rattle.sap_formula.specs.Form.{RestrictionForm, LemmaForm}
use Rattle.sap_rule.specs.declared.theory.Theory.{Theory}
use Rattle.sap_rule.specs.WellMade.{IsRuleOver}
use Rattle.sap_grammar.specs.Items.{AreItems}
use Rattle.sap_theory.specs.declared.limits.TheConstants.{THEORY_LIMITS}
use Rattle.sap_theory.specs.TheoryGrammar.{IsTheoryItem, signature_of, SpellsTheory}
use Rattle.sap_theory.specs.TheoryCauses.{first_repeated, rule_names, IsPlainRule}

-- the bytes spell the theory within the limits that reading keeps to
pub record SpellsWithin (z : List ℕ) (t : Theory) : Type 0 where
  pub spelled : SpellsTheory z t
  pub short : spelled.most ≤ MOST_THEORY_NAME_BYTES
  pub small : AreItems (IsTheoryItem (signature_of spelled.items) THEORY_LIMITS) spelled.pieces spelled.items

-- the names of its restrictions and of its lemmas
abbrev pub names_of : List RestrictionForm → List LemmaForm → List (List ℕ)
names_of rs ls = map (λ (r : RestrictionForm). r.name) rs ++ map (λ (l : LemmaForm). l.name) ls

-- no cause refuses the theory: its rules have names of their own, and so have its restrictions and lemmas; its rules are over its
-- signature and stand as they may; and no formula has a fault
pub record PassesChecks (t : Theory) : Type 0 where
  pub rule_names : first_repeated (rule_names t.rules) ≡ None
  pub names : first_repeated (names_of t.restrictions t.lemmas) ≡ None
  pub over : All (IsRuleOver t.signature) t.rules
  pub plain : All IsPlainRule t.rules
  pub restrictions : All (λ (r : RestrictionForm). HasNoFault t.signature false r.formula) t.restrictions
  pub lemmas : All (λ (l : LemmaForm). HasNoFault t.signature false l.formula) t.lemmas
