-- What a guard's answer says.
use Rattle.std.specs.Prelude.{◌≡◌, List, [], ◌∷◌, ◌++◌}
use Rattle.sap_formula.specs.Truth.{IsTrueOn}
use Rattle.sap_restrict.specs.Standard.{standard}
use Rattle.sap_restrict.specs.Stands.{Machine, KeepsTrace}
use Rattle.sap_restrict.specs.declared.guard.Admit.{Admit}
use Rattle.sap_restrict.specs.declared.guard.Admit.TheVariants.{Kept, Broken}
use Rattle.sap_restrict.specs.declared.which.Which.{Which}
use Rattle.sap_terms.specs.Message.{IsMessageTrace}
use Rattle.sap_terms.specs.Signature.{Sig}
use Rattle.sap_terms.specs.Trace.{Trace}
use Rattle.sap_terms.specs.declared.fact.Fact.{Fact}

-- of the seven formulas this one is false on the trace, and no other
pub record IsOnlyFalse (g : Sig) (tr : Trace) (w : Which) : Type 0 where
  pub this : ¬ IsTrueOn g (standard w) tr
  pub others : (v : Which) → ¬ (v ≡ w) → IsTrueOn g (standard v) tr

-- the answer on a time with these facts, where the guard kept m before and keeps n after: kept, it stands for the trace with
-- the time behind it, where all seven formulas are true; broken, it keeps what it kept, and on each such trace of messages the
-- formula that it names is false
abbrev pub Answers : Admit → Machine → Machine → List Fact → Type 0
Answers Kept m n p = (tr : Trace) → KeepsTrace m tr → KeepsTrace n (tr ++ p ∷ [])
Answers (Broken w) m n p = (n ≡ m)
    × ((g : Sig) (tr : Trace) → KeepsTrace m tr → IsMessageTrace g (tr ++ p ∷ []) → IsOnlyFalse g (tr ++ p ∷ []) w)
