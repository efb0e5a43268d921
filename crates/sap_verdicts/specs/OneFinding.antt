-- What is found is one.
use Rattle.std.specs.Prelude.{◌≡◌, List}
use Rattle.sap_formula.specs.Laws.{IsClosed}
use Rattle.sap_formula.specs.Truth.{EachIn}
use Rattle.sap_terms.specs.Message.{IsMessageTrace}
use Rattle.sap_terms.specs.Signature.{Sig}
use Rattle.sap_terms.specs.Trace.{Trace}
use Rattle.sap_verdicts.specs.Findings.{AreFound, Found, Stated}

-- of closed formulas on a trace of messages one list is found, and some
pub record OneFinding : Type 0 where
  pub one : (g : Sig) (tr : Trace) (xs : List Stated) (ys zs : List Found) → IsMessageTrace g tr → EachIn (λ x. IsClosed g x.formula) xs
      → AreFound g tr xs ys → AreFound g tr xs zs → ys ≡ zs
  pub some : (g : Sig) (tr : Trace) (xs : List Stated) → IsMessageTrace g tr → EachIn (λ x. IsClosed g x.formula) xs
      → (ys : List Found) × AreFound g tr xs ys
