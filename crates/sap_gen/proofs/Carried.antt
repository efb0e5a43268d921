-- A lemma that carries restrictions holds of traces under none where the lemma holds of them under these.
use Rattle.std.specs.Prelude.{◌↔◌, List, []}
use Rattle.sap_terms.specs.Signature.{Sig}
use Rattle.sap_terms.specs.Trace.{Trace}
use Rattle.sap_formula.specs.Form.{Form}
use Rattle.sap_formula.specs.HoldsOf.{HoldsOf}
use Rattle.sap_formula.specs.declared.lemma.Mode.{Mode}
use Rattle.sap_formula.specs.declared.lemma.Mode.TheVariants.{AllTraces, ExistsTrace}
use Rattle.sap_restrict.specs.Inline.{inlined}
use Rattle.sap_restrict.specs.Laws.{InlinedForAllLaw, InlinedForSomeLaw}

module _ (for_all : InlinedForAllLaw) (for_some : InlinedForSomeLaw) (g : Sig) (S : Trace → Type 0) where
  pub carried : (us : List Form) (mode : Mode) (f : Form) → HoldsOf g S us mode f ↔ HoldsOf g S [] mode (inlined mode us f)
  carried us AllTraces f = (
    λ h tr among none. (for_all g us f tr).1 (λ true_there. h tr among true_there),
    λ h tr among true_there. (for_all g us f tr).0 (h tr among tt) true_there,
  )
  carried us ExistsTrace f = (
    λ h. (h.0, h.1, tt, (for_some g us f h.0).1 (h.2, h.3)),
    λ h. let both = (for_some g us f h.0).0 h.3 in (h.0, h.1, both.0, both.1),
  )
