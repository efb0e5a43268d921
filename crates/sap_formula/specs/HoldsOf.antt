-- When a lemma holds.
use Rattle.std.specs.Prelude.{List}
use Rattle.sap_terms.specs.Signature.{Sig}
use Rattle.sap_formula.specs.Form.{Form}
use Rattle.sap_terms.specs.Trace.{Trace}
use Rattle.sap_formula.specs.Truth.{EachIn, IsTrueOn}
use Rattle.sap_formula.specs.declared.lemma.Mode.{Mode}
use Rattle.sap_formula.specs.declared.lemma.Mode.TheVariants.{AllTraces, ExistsTrace}

-- each formula of the list is true on the trace
abbrev pub AreTrueOn : Sig → List Form → Trace → Type 0
AreTrueOn g us tr = EachIn (λ u. IsTrueOn g u tr) us

-- the formula is true on each trace of the set S, or on some one, among those on which all of us are true
abbrev pub HoldsOf : Sig → (Trace → Type 0) → List Form → Mode → Form → Type 0
HoldsOf g S us AllTraces f = (tr : Trace) → S tr → AreTrueOn g us tr → IsTrueOn g f tr
HoldsOf g S us ExistsTrace f = (tr : Trace) × S tr × AreTrueOn g us tr × IsTrueOn g f tr
