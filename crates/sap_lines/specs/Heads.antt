-- What stands at the head of a place, as the code finds it.
use Rattle.std.specs.Prelude.{◌≡◌, Bool, false}
use Rattle.sap_terms.specs.Choice.{Choice}
use Rattle.sap_process.specs.Instance.{process_instance}
use Rattle.sap_process.specs.Proc.{Proc}
use Rattle.sap_lines.specs.Places.{form_proc}
use Rattle.sap_lines.specs.declared.form.Form.{Form}

-- whatever it goes on as, no instance of the form passes the test
abbrev pub Lacks : (Proc → Bool) → Form → Type 0
Lacks test f = (σ : Choice) (p q : Proc) → test (process_instance σ (form_proc f p q)) ≡ false
