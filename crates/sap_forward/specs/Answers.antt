-- A written run of a process has one answer: it is legal within the limit, or one line of it is the first that is refused.
use Rattle.std.specs.Prelude.{◌≡◌, ◌⊎◌, ℕ, List}
use Rattle.sap_terms.specs.Signature.{Sig}
use Rattle.sap_terms.specs.Trace.{Trace}
use Rattle.sap_process.specs.Proc.{Proc}
use Rattle.sap_runs.specs.declared.process_step.PStep.{PStep}
use Rattle.sap_lines.specs.declared.fault.PFault.{PFault}
use Rattle.sap_lines.specs.FirstRefused.{IsFirstRefusedOfProcess}
use Rattle.sap_forward.specs.Converted.{IsShownByLines}

-- each run is legal within the limit, or one line of it is the first that is refused
abbrev pub EachIsLegalOrRefused : Sig → Proc → Type 0
EachIsLegalOrRefused g start = (lines : List PStep) → ((tr : Trace) × IsShownByLines g start lines tr) ⊎ ((number : ℕ) × (fault : PFault) × IsFirstRefusedOfProcess g start lines number fault)

-- and not both
abbrev pub LegalIsNotRefused : Sig → Proc → Type 0
LegalIsNotRefused g start = (lines : List PStep) (tr : Trace) (number : ℕ) (fault : PFault) → IsShownByLines g start lines tr → IsFirstRefusedOfProcess g start lines number fault → ⊥

-- it has one trace
abbrev pub HasOneTrace : Sig → Proc → Type 0
HasOneTrace g start = (lines : List PStep) (tr other : Trace) → IsShownByLines g start lines tr → IsShownByLines g start lines other → tr ≡ other

-- one line is the first, for one cause
abbrev pub HasOneFirst : Sig → Proc → Type 0
HasOneFirst g start = (lines : List PStep) (number other : ℕ) (fault cause : PFault) → IsFirstRefusedOfProcess g start lines number fault → IsFirstRefusedOfProcess g start lines other cause → (number ≡ other) × (fault ≡ cause)
