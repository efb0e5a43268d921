-- Forms with their variables replaced.
use Rattle.std.specs.Prelude.{◌≡◌, map}
use Rattle.sap_terms.specs.Choice.{Choice, instance}
use Rattle.sap_process.specs.Instance.{process_instance}
use Rattle.sap_process.specs.Proc.{Proc}
use Rattle.sap_lines.specs.Places.{form_proc}
use Rattle.sap_lines.specs.declared.form.Form.{Form}
use Rattle.sap_calc.specs.ThreadHeads.{taken_patterns}

-- the process is the form, going on as some processes
pub record GoesOn (p : Proc) (f : Form) : Type 0 where
  pub first : Proc
  pub second : Proc
  pub is : p ≡ form_proc f first second

-- whatever the first form goes on as, its instance is the second form
pub record IsFormUnder (σ : Choice) (f h : Form) : Type 0 where
  pub goes : (p q : Proc) → GoesOn (process_instance σ (form_proc f p q)) h
  pub patterns : taken_patterns h ≡ map (instance σ) (taken_patterns f)
