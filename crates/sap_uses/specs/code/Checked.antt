-- Causes that were looked for.
use Rattle.std.specs.Prelude.{◌<◌, ◌≤◌, ℕ, List}
use Rattle.sap_terms.specs.Signature.{Sig}
use Rattle.sap_macro.specs.Written.{Written, Definition}
use Rattle.sap_uses.specs.FaultCauses.{Holds, cause_rank}
use Rattle.sap_uses.specs.declared.fault.MacroFault.{MacroFault}

-- no cause holds from this rank on that is below that one
abbrev pub AreAbsent : Sig → List Definition → Written → ℕ → ℕ → Type 0
AreAbsent g ds p low high =
    (u : MacroFault) → low ≤ cause_rank u → cause_rank u < high → ¬ Holds g ds p u

-- it is the first that holds from this rank on
pub record IsCauseFrom (g : Sig) (ds : List Definition) (p : Written) (low : ℕ) (e : MacroFault)
    : Type 0 where
  pub holds : Holds g ds p e
  pub first : AreAbsent g ds p low (cause_rank e)
