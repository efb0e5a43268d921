-- Processes that are well-formed and sorted.
use Rattle.std.specs.Prelude.{◌≡◌, []}
use Rattle.sap_terms.specs.Signature.{Sig}
use Rattle.sap_process.specs.Flaws.{IsWellFormed}
use Rattle.sap_process.specs.Proc.{Proc}
use Rattle.sap_process.specs.Sorted.{with_sorts}

-- the process is ready to run: it has no flaw, and each variable has the sort of its binder
pub record IsReady (g : Sig) (p : Proc) : Type 0 where
  pub well_formed : IsWellFormed g p
  pub sorted : with_sorts [] p ≡ p
