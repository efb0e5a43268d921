-- What is said of one restriction or lemma that is refused.
use Rattle.std.specs.Prelude.{◌≡◌, ℕ, Bool, List}
use Rattle.sap_terms.specs.Signature.{Sig}
use Rattle.sap_formula.specs.Faults.{IsFirstFault, told}
use Rattle.sap_formula.specs.declared.fault.FormulaFlaw.{FormulaFlaw}
use Rattle.sap_statements.specs.Statements.{Statement, name_of, formula_of}
use Rattle.sap_statements.specs.declared.checking.Unchecked.{Unchecked}
use Rattle.sap_statements.specs.declared.checking.Unchecked.TheVariants.{Formula}

-- it is refused by its name for the fault of its formula that counts
pub record IsFaultOf (g : Sig) (r : Bool) (s : Statement) (e : Unchecked) : Type 0 where
  pub which : FormulaFlaw
  pub part : List ℕ
  pub is : e ≡ Formula (name_of s) (told which part)
  pub fault : IsFirstFault g r (formula_of s) which part
