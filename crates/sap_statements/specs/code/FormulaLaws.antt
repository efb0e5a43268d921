-- What the law of formulas says, as the proofs on restrictions and lemmas need it.
use Rattle.std.specs.Prelude.{◌≡◌, List, Some}
use Rattle.sap_terms.specs.Signature.{Sig}
use Rattle.sap_formula.specs.Form.{Form}
use Rattle.sap_grammar.specs.declared.limits.Limits.{Limits}
use Rattle.sap_grammar.specs.Words.{Word}
use Rattle.sap_formula_grammar.specs.FormulaGrammar.{IsShortFormula, EndsFormula}
use Rattle.sap_formula_grammar.specs.FormulaReading.{short_formula}

-- what is read is spelled so, and what is spelled so is read
pub record FormulaLaws : Type 0 where
  pub is : (g : Sig) (m : Limits) (f : Form) (a b : List Word) → short_formula g m a ≡ Some (f, b) → IsShortFormula g m f a b
  pub read : (g : Sig) (m : Limits) (f : Form) (a b : List Word) → IsShortFormula g m f a b → EndsFormula b → short_formula g m a ≡ Some (f, b)
