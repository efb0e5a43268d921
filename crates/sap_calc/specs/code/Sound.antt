-- Processes at places of a ready process: what the places say, without their paths.
use Rattle.std.specs.Prelude.{◌≡◌, ℕ, List, [], Contains}
use Rattle.sap_terms.specs.Signature.{Sig}
use Rattle.sap_process.specs.Flaws.{AppliesBadly, HasPatternDestructor, Rebinds, HasSortClash, unbound}
use Rattle.sap_process.specs.Places.{places_from}
use Rattle.sap_process.specs.Proc.{Proc}
use Rattle.sap_process.specs.Sites.{Site, Above, scope_below}
use Rattle.sap_process.specs.Sorted.{with_sorts}

-- the place has none of the flaws that show at the place alone and that a run could meet
pub record IsSound (g : Sig) (s : Site) : Type 0 where
  pub over : ¬ AppliesBadly g s
  pub bound : unbound s.above.scope s.body ≡ []
  pub plain : ¬ HasPatternDestructor g s
  pub new_names : ¬ Rebinds s
  pub sorts : ¬ HasSortClash s

-- so it is with each place from this one on, and each variable has the sort of its binder
pub record IsSoundFrom (g : Sig) (u : Above) (p : Proc) : Type 0 where
  pub path : List ℕ
  pub sound : (s : Site) → Contains (places_from scope_below path u p) s → IsSound g s
  pub sorted : with_sorts u.scope p ≡ p
