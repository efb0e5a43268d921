-- Why a step of a short run is refused: the first test that fails. Want of memory is no such cause.
use Rattle.std.specs.Prelude.{◌≡◌, ℕ, true, [], ◌∷◌}
use Rattle.sap_terms.specs.Equations.{equations}
use Rattle.sap_terms.specs.Message.{IsOver}
use Rattle.sap_terms.specs.Normal.{IsNormalForm}
use Rattle.sap_terms.specs.Signature.{Sig}
use Rattle.sap_terms.specs.Tree.{Tree}
use Rattle.sap_terms.specs.View.{tree}
use Rattle.sap_terms.specs.declared.term.Term.{Term}
use Rattle.sap_process.specs.Configuration.{Config, Runs, CanGive}
use Rattle.sap_process.specs.Proc.{Proc}
use Rattle.sap_runs.specs.Short.{MayStand}
use Rattle.sap_runs.specs.declared.process_step.PStep.{PStep}
use Rattle.sap_runs.specs.declared.process_step.PStep.TheVariants as line
use Rattle.sap_runs.specs.declared.short_step.SStep.{SStep}
use Rattle.sap_runs.specs.declared.short_step.SStep.TheVariants as short
use Rattle.sap_lines.specs.Channels.{SendsOn, HasNoChannel}
use Rattle.sap_lines.specs.Faults.{IsRefused, IsUnfit, has_form}
use Rattle.sap_lines.specs.declared.fault.PFault.{PFault}
use Rattle.sap_lines.specs.declared.fault.PFault.TheVariants as fault
use Rattle.sap_intruder.specs.ShortLines.{IsGiven}
use Rattle.sap_intruder.specs.declared.fill_fault.FillFault.{FillFault}
use Rattle.sap_intruder.specs.declared.fill_fault.FillFault.TheVariants as fill

-- what is wrong with a written term: it isn't over the signature; or it is, and the adversary can't give
-- its normal form
pub data IsNotGiven (g : Sig) (c : Config) (u : Term) : FillFault → Type 0 where
  bad : ¬ IsOver g (tree u) → IsNotGiven g c u fill.BadTerm
  not_deduced : {x : Tree} → IsOver g (tree u) → IsNormalForm (equations g) (tree u) x
      → ¬ CanGive g c x → IsNotGiven g c u fill.NotDeduced

-- the configuration, the step, and why it is refused there
pub data IsShortRefused (g : Sig) (c : Config) : SStep → FillFault → Type 0 where
  -- the line that the step has as it is
  line_refused : {s : PStep} {e : PFault} → MayStand s → IsRefused g c [] s e → ¬ (e ≡ fault.Mem)
      → IsShortRefused g c (short.Act s) (fill.Process e)
  -- no such thread, or it takes nothing
  unfit_taker : {t : ℕ} {u : Term} {e : PFault} → IsUnfit c t (has_form (line.In t 0)) e
      → IsShortRefused g c (short.In t u) (fill.Process e)
  -- then the term
  input_not_given : {t : ℕ} {u : Term} {p : Proc} {f : FillFault} → Runs c t p
      → has_form (line.In t 0) p ≡ true → IsNotGiven g c u f
      → IsShortRefused g c (short.In t u) f
  -- then what else is tested of the line that takes it
  input_refused : {t : ℕ} {u : Term} {x : Tree} {e : PFault} → IsGiven g c u x
      → IsRefused g c (x ∷ []) (line.In t 0) e → ¬ (e ≡ fault.Mem)
      → IsShortRefused g c (short.In t u) (fill.Process e)
  -- the thread has no channel
  no_channel : {t : ℕ} {e : PFault} → HasNoChannel g c t e → ¬ (e ≡ fault.Mem)
      → IsShortRefused g c (short.Send t) (fill.Process e)
  -- it has one, which the adversary can't give
  channel_not_given : {t : ℕ} {x : Tree} → SendsOn g c t x → ¬ CanGive g c x
      → IsShortRefused g c (short.Send t) fill.NotDeduced
  -- the term that is shown
  known_not_given : {u : Term} {f : FillFault} → IsNotGiven g c u f
      → IsShortRefused g c (short.Know u) f
