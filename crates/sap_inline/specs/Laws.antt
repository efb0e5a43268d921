-- What holds of formulas that carry restrictions.
use Rattle.std.specs.Prelude.{◌↔◌, List}
use Rattle.sap_formula.specs.Form.{Form}
use Rattle.sap_formula.specs.HoldsOf.{AreTrueOn}
use Rattle.sap_formula.specs.Truth.{IsTrueOn}
use Rattle.sap_formula.specs.declared.lemma.Mode.TheVariants.{AllTraces, ExistsTrace}
use Rattle.sap_inline.specs.Inline.{inlined}
use Rattle.sap_terms.specs.Signature.{Sig}
use Rattle.sap_terms.specs.Trace.{Trace}

-- a formula for all traces that carries restrictions is true on a trace exactly where the formula is, if the trace meets them
abbrev pub InlinedForAllLaw : Type 0
InlinedForAllLaw =
    (g : Sig) (us : List Form) (f : Form) (tr : Trace) → IsTrueOn g (inlined AllTraces us f) tr ↔ (AreTrueOn g us tr → IsTrueOn g f tr)

-- one for some trace is true on a trace exactly where the trace meets them and the formula is true on it
abbrev pub InlinedForSomeLaw : Type 0
InlinedForSomeLaw =
    (g : Sig) (us : List Form) (f : Form) (tr : Trace) → IsTrueOn g (inlined ExistsTrace us f) tr ↔ (AreTrueOn g us tr × IsTrueOn g f tr)
