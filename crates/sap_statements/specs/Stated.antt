-- What restrictions and lemmas say once their formulas are checked, and the first whose formula has a fault.
use Rattle.std.specs.Prelude.{ℕ, Bool, List, [], ◌∷◌, All}
use Rattle.sap_terms.specs.Signature.{Sig}
use Rattle.sap_formula.specs.Form.{RestrictionForm, LemmaForm}
use Rattle.sap_formula.specs.Faults.{HasNoFault, IsFirstFault, told}
use Rattle.sap_formula.specs.Sorted.{with_sorts}
use Rattle.sap_formula.specs.declared.fault.FormulaFault.{FormulaFault}
use Rattle.sap_formula.specs.declared.fault.FormulaFlaw.{FormulaFlaw}
use Rattle.sap_statements.specs.Statements.{Statement, restriction, lemma, name_of, formula_of}

-- the restrictions among them, in order, each variable with the sort of its binder
abbrev pub restrictions_of : List Statement → List RestrictionForm
restrictions_of [] = []
restrictions_of (restriction r ∷ ss) = record { name = r.name; formula = with_sorts [] r.formula }
    ∷ restrictions_of ss
restrictions_of (lemma l ∷ ss) = restrictions_of ss

-- the lemmas among them, in the same way
abbrev pub lemmas_of : List Statement → List LemmaForm
lemmas_of [] = []
lemmas_of (restriction r ∷ ss) = lemmas_of ss
lemmas_of (lemma l ∷ ss) = record { name = l.name; attributes = l.attributes; mode = l.mode; formula = with_sorts [] l.formula } ∷ lemmas_of ss

-- none of their formulas has a fault, of which a reserved name of a fact is one where r says so
abbrev pub AreFaultless : Sig → Bool → List Statement → Type 0
AreFaultless g r ss = All (λ s. HasNoFault g r (formula_of s)) ss

-- the first of them whose formula has a fault has this name, and this is the fault that counts
pub data IsFirstFaulty (g : Sig) (r : Bool) : List Statement → List ℕ → FormulaFault → Type 0 where
  this_one : {s : Statement} {ss : List Statement} {w : FormulaFlaw} {n : List ℕ}
      → IsFirstFault g r (formula_of s) w n
      → IsFirstFaulty g r (s ∷ ss) (name_of s) (told w n)
  later_one : {s : Statement} {ss : List Statement} {x : List ℕ} {f : FormulaFault}
      → HasNoFault g r (formula_of s) → IsFirstFaulty g r ss x f
      → IsFirstFaulty g r (s ∷ ss) x f
