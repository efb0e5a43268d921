-- What one time more does to a full trace that counts.
use Rattle.std.specs.Prelude.{◌⊎◌, List, [], ◌∷◌, ◌++◌, All}
use Rattle.sap_restrict.specs.Answer.{IsOnlyFalse}
use Rattle.sap_restrict.specs.Standard.{IsAdmitted}
use Rattle.sap_restrict.specs.Stands.{HasOneReserved}
use Rattle.sap_restrict.specs.declared.which.Which.{Which}
use Rattle.sap_terms.specs.Message.{IsMessageTrace}
use Rattle.sap_terms.specs.Signature.{Sig}
use Rattle.sap_terms.specs.Trace.{Trace}
use Rattle.sap_terms.specs.declared.fact.Fact.{Fact}

-- where each time has one fact with a reserved name, or none: behind a trace that counts one time more leaves one that counts, or one
-- of the seven formulas is false there, and no other
abbrev pub OneMoreLaw : Type 0
OneMoreLaw =
    (g : Sig) (tr : Trace) (p : List Fact) → All HasOneReserved tr → HasOneReserved p → IsMessageTrace g (tr ++ p ∷ []) → IsAdmitted g tr → IsAdmitted g (tr ++ p ∷ []) ⊎ ((w : Which) × IsOnlyFalse g (tr ++ p ∷ []) w)
