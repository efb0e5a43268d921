-- What is said of the items behind a header: of the processes bs and the restrictions and lemmas ss in them.
use Rattle.std.specs.Prelude.{◌≡◌, ◌⊎◌, ℕ, List, [], Option, Some, None, true}
use Rattle.sap_terms.specs.Signature.{Sig}
use Rattle.sap_formula.specs.Form.{RestrictionForm, LemmaForm}
use Rattle.sap_formula.specs.declared.fault.FormulaFault.{FormulaFault}
use Rattle.sap_locks.specs.Annotation.{LockFlaw, IsAnnotation, IsFirstLockFlaw}
use Rattle.sap_process.specs.Proc.{Proc}
use Rattle.sap_process.specs.Flaws.{IsFirstFlaw, IsWellFormed}
use Rattle.sap_process.specs.Sorted.{with_sorts}
use Rattle.sap_process.specs.declared.flaw.Flaw.{Flaw}
use Rattle.sap_statements.specs.declared.statement.Statement.{Statement}
use Rattle.sap_read.specs.declared.fault.ReadFault.{ReadFault}
use Rattle.sap_read.specs.declared.fault.ReadFault.TheVariants.{Ill, Formula}
use Rattle.sap_read.specs.Item.{Body}
use Rattle.sap_read.specs.FileProcess.{IsExpanded, IsUnexpanded}
use Rattle.sap_uses.specs.declared.fault.MacroFault.{MacroFault}
use Rattle.sap_read.specs.Causes.{cause, fault_of_uses, lock_fault}
use Rattle.sap_statements.specs.Stated.{AreFaultless, IsFirstFaulty, restrictions_of, lemmas_of}

-- the process has no flaw, and this is it with sorts and labels
pub record IsSound (g : Sig) (p q : Proc) : Type 0 where
  pub well_formed : IsWellFormed g p
  pub annotation : IsAnnotation (with_sorts [] p) q

-- the process has this flaw, which counts
pub record IsFlawed (g : Sig) (p : Proc) (e : ReadFault) : Type 0 where
  pub which : Flaw
  pub path : List ℕ
  pub is : e ≡ Ill which path
  pub flaw : IsFirstFlaw g p which path

-- the process has no flaw but, with its sorts, a first place that can't be annotated
pub record IsMislocked (g : Sig) (p : Proc) (e : ReadFault) : Type 0 where
  pub well_formed : IsWellFormed g p
  pub which : LockFlaw
  pub path : List ℕ
  pub is : e ≡ lock_fault which path
  pub flaw : IsFirstLockFlaw (with_sorts [] p) which path

abbrev pub IsUnsound : Sig → Proc → ReadFault → Type 0
IsUnsound g p e = IsFlawed g p e ⊎ IsMislocked g p e

-- with this clash nothing refuses them before their process is looked at, which can be expanded where these are the identifiers of
-- the file, and this is its expansion
pub record IsWhole (g : Sig) (clash : Option (List ℕ)) (names : List (List ℕ)) (bs : List Body) (ss : List Statement) (p : Proc) : Type 0 where
  pub nothing : cause bs ss clash ≡ None
  pub expanded : IsExpanded g names bs p

-- nothing refuses them before their uses are looked at, and their process can't be expanded
pub record IsMisused (g : Sig) (clash : Option (List ℕ)) (bs : List Body) (ss : List Statement) (e : ReadFault) : Type 0 where
  pub nothing : cause bs ss clash ≡ None
  pub fault : MacroFault
  pub is : e ≡ fault_of_uses fault
  pub unexpanded : IsUnexpanded g bs fault

-- they are refused for this before their process is looked at
abbrev pub IsRefusedBefore : Sig → Option (List ℕ) → List Body → List Statement → ReadFault → Type 0
IsRefusedBefore g clash bs ss e = (cause bs ss clash ≡ Some e) ⊎ IsMisused g clash bs ss e

-- and the process has no flaw, and this is it with sorts and labels
pub record IsAnnotated (g : Sig) (clash : Option (List ℕ)) (names : List (List ℕ)) (bs : List Body) (ss : List Statement) (q : Proc) : Type 0 where
  pub process : Proc
  pub whole : IsWhole g clash names bs ss process
  pub sound : IsSound g process q

-- their process is refused for this
pub record IsIll (g : Sig) (clash : Option (List ℕ)) (names : List (List ℕ)) (bs : List Body) (ss : List Statement) (e : ReadFault) : Type 0 where
  pub process : Proc
  pub whole : IsWhole g clash names bs ss process
  pub unsound : IsUnsound g process e

-- the first restriction or lemma whose formula has a fault is refused for this
pub record IsFirstUnchecked (g : Sig) (ss : List Statement) (e : ReadFault) : Type 0 where
  pub name : List ℕ
  pub fault : FormulaFault
  pub is : e ≡ Formula name fault
  pub faulty : IsFirstFaulty g true ss name fault

-- their process is accepted, and one of their formulas is refused for this
pub record IsUnchecked (g : Sig) (clash : Option (List ℕ)) (names : List (List ℕ)) (bs : List Body) (ss : List Statement) (e : ReadFault) : Type 0 where
  pub process : Proc
  pub annotated : IsAnnotated g clash names bs ss process
  pub first : IsFirstUnchecked g ss e

-- they are refused for this
abbrev pub IsRefusedAs : Sig → Option (List ℕ) → List (List ℕ) → List Body → List Statement → ReadFault → Type 0
IsRefusedAs g clash names bs ss e = IsRefusedBefore g clash bs ss e ⊎ IsIll g clash names bs ss e

-- these are the restrictions and lemmas among them, with sorts, and none has a fault
pub record AreChecked (g : Sig) (ss : List Statement) (rs : List RestrictionForm) (ls : List LemmaForm) : Type 0 where
  pub faultless : AreFaultless g true ss
  pub restrictions : rs ≡ restrictions_of ss
  pub lemmas : ls ≡ lemmas_of ss

-- they are accepted, and these are their parts
pub record IsAccepted (g : Sig) (clash : Option (List ℕ)) (names : List (List ℕ)) (bs : List Body) (ss : List Statement) (q : Proc) (rs : List RestrictionForm) (ls : List LemmaForm) : Type 0 where
  pub annotated : IsAnnotated g clash names bs ss q
  pub checked : AreChecked g ss rs ls

-- they are refused, for their process or for a formula
abbrev pub IsRefused : Sig → Option (List ℕ) → List (List ℕ) → List Body → List Statement → ReadFault → Type 0
IsRefused g clash names bs ss e = IsRefusedAs g clash names bs ss e ⊎ IsUnchecked g clash names bs ss e
