-- Theories whose printed text is within the limits of a theory that is read.
use Rattle.std.specs.Prelude.{◌≤◌, All}
use Rattle.sap_terms.specs.declared.fact.Fact.{Fact}
use Rattle.sap_formula.specs.Form.{Form, RestrictionForm, LemmaForm}
use Rattle.sap_rule.specs.declared.rule.Rule.{Rule}
use Rattle.sap_rule.specs.declared.theory.Theory.{Theory}
use Rattle.sap_grammar.specs.Sizes.{AreSmall}
use Rattle.sap_formula_grammar.specs.FormulaGrammar.{IsSmallForm}
use Rattle.sap_theory.specs.declared.limits.TheConstants.{THEORY_LIMITS}
use Rattle.sap_theory.specs.FormulaLevels.{text_levels}

-- each term of the fact is within the limits
abbrev pub IsShallowFact : Fact → Type 0
IsShallowFact f = AreSmall THEORY_LIMITS f.args

-- so is each term of the rule
pub record IsShallowRule (r : Rule) : Type 0 where
  pub left : All IsShallowFact r.left
  pub acts : All IsShallowFact r.acts
  pub right : All IsShallowFact r.right

-- each term of the formula is within the limits, and so are the levels of its printed text, where parentheses count
pub record IsShallowForm (f : Form) : Type 0 where
  pub terms : IsSmallForm THEORY_LIMITS f
  pub levels : text_levels 0 f ≤ THEORY_LIMITS.formula_levels

-- the theory's rules and formulas are so
pub record IsShallow (t : Theory) : Type 0 where
  pub rules : All IsShallowRule t.rules
  pub restrictions : All (λ (r : RestrictionForm). IsShallowForm r.formula) t.restrictions
  pub lemmas : All (λ (l : LemmaForm). IsShallowForm l.formula) t.lemmas
