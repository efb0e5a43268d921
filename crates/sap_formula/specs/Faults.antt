-- The five faults of a formula, and which one counts.
use Rattle.std.specs.Prelude.{◌≡◌, ◌<◌, ◌⊎◌, ℕ, Bool, true, List, [], Some, slice_get}
use Rattle.sap_formula.specs.Form.{Form}
use Rattle.sap_formula.specs.declared.binder.Binder.{Binder}
use Rattle.sap_formula.specs.declared.binder.Binder.TheVariants.{Message, Time}
use Rattle.sap_terms.specs.Signature.{Sig, arity_of, is_destructor_of}
use Rattle.sap_terms.specs.declared.var.Sort.TheVariants.{Msg}
use Rattle.sap_terms.specs.declared.var.Var.{Var}
use Rattle.sap_formula.specs.Checked.{StandsInAtom, binder_name, find_binder}
use Rattle.sap_formula.specs.Hide.{is_hidden}
use Rattle.sap_formula.specs.Parts.{Part, symbol, fact_name, message, time, bound, part_name, form_parts}
use Rattle.sap_formula.specs.declared.fault.FormulaFlaw.{FormulaFlaw}
use Rattle.sap_formula.specs.declared.fault.FormulaFlaw.TheVariants.{BadFunction, Destructor, Reserved, UnboundVar, Unguarded}
use Rattle.sap_formula.specs.declared.fault.FormulaFault.{FormulaFault}
use Rattle.sap_formula.specs.declared.fault.FormulaFault.TheVariants.{BadFunction as ABadFunction, Destructor as ADestructor, Reserved as AReserved, UnboundVar as AnUnboundVar, Unguarded as AnUnguarded}

-- the variable's innermost binder binds a message, and a sign is that binder's sort
pub record IsBound (scope : List Binder) (v : Var) : Type 0 where
  pub binder : Var
  pub innermost : find_binder scope v.name ≡ Some (Message binder)
  pub sign : (v.sort ≡ Msg) ⊎ (v.sort ≡ binder.sort)

-- the part has the fault; reserved names of facts are looked for only where r says so
abbrev pub HasFault : Sig → Bool → FormulaFlaw → Part → Type 0
HasFault g r BadFunction (symbol f n) = ¬ (arity_of g f ≡ Some n)
HasFault g r Destructor (symbol f n) = is_destructor_of g f ≡ true
HasFault g r Reserved (fact_name n) = (r ≡ true) × (is_hidden n ≡ true)
HasFault g r UnboundVar (message scope v) = ¬ IsBound scope v
HasFault g r UnboundVar (time scope n) = ¬ (find_binder scope n ≡ Some (Time n))
HasFault g r Unguarded (bound f b) = ¬ StandsInAtom (binder_name b) f
HasFault _ _ _ _ = ⊥

-- the fault, told with a name
abbrev pub told : FormulaFlaw → List ℕ → FormulaFault
told BadFunction n = ABadFunction n
told Destructor n = ADestructor n
told Reserved n = AReserved n
told UnboundVar n = AnUnboundVar n
told Unguarded n = AnUnguarded n

-- the order in which faults count
abbrev pub rank : FormulaFlaw → ℕ
rank BadFunction = 1
rank Destructor = 2
rank Reserved = 3
rank UnboundVar = 4
rank Unguarded = 5

-- part k, from 0 in reading order, has the fault
pub record IsFaultAt (g : Sig) (r : Bool) (f : Form) (w : FormulaFlaw) (k : ℕ) : Type 0 where
  pub part : Part
  pub stands : slice_get (form_parts [] f) k ≡ Some part
  pub fault : HasFault g r w part

-- the formula has no fault anywhere
abbrev pub HasNoFault : Sig → Bool → Form → Type 0
HasNoFault g r f = (w : FormulaFlaw) (k : ℕ) → ¬ IsFaultAt g r f w k

-- the fault counts: no part has one that counts before it, and the first part that has it has this name
pub record IsFirstFault (g : Sig) (r : Bool) (f : Form) (w : FormulaFlaw)
    (name : List ℕ) : Type 0 where
  pub at : ℕ
  pub here : IsFaultAt g r f w at
  pub name_is : part_name here.part ≡ name
  pub first : (k : ℕ) → k < at → ¬ IsFaultAt g r f w k
  pub least : (u : FormulaFlaw) → rank u < rank w → (k : ℕ) → ¬ IsFaultAt g r f u k
