-- What an accepted file means as it is written, and that these bytes are meant.
use Rattle.std.proofs.Common.{◌≡◌, ◌↔◌, ℕ, List, [], Ok, subst, sym}
use Rattle.sap_terms.specs.Signature.{Sig}
use Rattle.sap_terms.specs.Trace.{Trace}
use Rattle.sap_formula.specs.Form.{Form, LemmaForm}
use Rattle.sap_formula.specs.HoldsOf.{HoldsOf}
use Rattle.sap_formula.specs.declared.lemma.Mode.{Mode}
use Rattle.sap_formula.specs.declared.lemma.Mode.TheVariants.{AllTraces, ExistsTrace}
use Rattle.sap_process.specs.ProcessSteps.{IsProcessTrace}
use Rattle.sap_inline.specs.Inline.{formulas}
use Rattle.sap_macro.specs.Expansion.{plain}
use Rattle.sap_macro.specs.Written.{Written, Definition}
use Rattle.sap_macro.specs.WrittenRuns.{HasArgumentsInScope, IsFileTrace}
use Rattle.sap_read.specs.AsWritten.{FilesShowAsWritten, IsWrittenAs}
use Rattle.sap_read.specs.Files.{FileContent, IsRead}
use Rattle.sap_tool.specs.AsWritten.{ShowsAsWritten}

-- what the law of files as they are written says
pub record AreShownAsWritten : Type 0 where
  pub written : (z : List ℕ) (f : FileContent) → IsRead z (Ok f) → (ds : List Definition) × (p : Written) × IsWrittenAs z ds p
  pub shows : FilesShowAsWritten

-- of sets of traces that have the same traces the same lemmas hold
holds_alike : (g : Sig) (S T : Trace → Type 0) → ((tr : Trace) → S tr ↔ T tr) → (us : List Form) (m : Mode) (f : Form) → HoldsOf g S us m f ↔ HoldsOf g T us m f
holds_alike g S T same us AllTraces f = (λ h tr t. h tr ((same tr).1 t), λ h tr s. h tr ((same tr).0 s))
holds_alike g S T same us ExistsTrace f =
    (λ h. (h.0, (same h.0).0 h.1, h.2, h.3), λ h. (h.0, (same h.0).1 h.1, h.2, h.3))

pub shown_as_written : AreShownAsWritten → (z : List ℕ) (f : FileContent) → IsRead z (Ok f) → ShowsAsWritten z f
shown_as_written laws z f r =
    let w = laws.written z f r in
    record {
      definitions = w.0;
      process = w.1;
      written = w.2;
      shows = λ scoped tr. laws.shows z f w.0 w.1 tr r w.2 scoped;
      lemmas = λ scoped l.
          holds_alike f.signature (IsFileTrace f.signature w.0 w.1) (IsProcessTrace f.signature f.process) (λ tr. laws.shows z f w.0 w.1 tr r w.2 scoped) (formulas f.restrictions) l.mode
          l.formula;
    }

-- the definitions and the process show what the file's process shows, and the same lemmas hold of both
pub record IsMeant (f : FileContent) (ds : List Definition) (p : Written) : Type 0 where
  pub traces : (tr : Trace) → IsFileTrace f.signature ds p tr ↔ IsProcessTrace f.signature f.process tr
  pub lemmas : (l : LemmaForm) → HoldsOf f.signature (IsFileTrace f.signature ds p) (formulas f.restrictions) l.mode l.formula
      ↔ HoldsOf f.signature (IsProcessTrace f.signature f.process) (formulas f.restrictions) l.mode l.formula

-- bytes are written in one way, so it is this one that is meant
pub these_are_meant : ((z : List ℕ) (ds es : List Definition) (p q : Written) → IsWrittenAs z ds p → IsWrittenAs z es q → (ds ≡ es) × (p ≡ q))
    → (z : List ℕ) (f : FileContent) (ds : List Definition) (p : Written) → ShowsAsWritten z f → IsWrittenAs z ds p → HasArgumentsInScope [] (plain ds p) → IsMeant f ds p
these_are_meant one z f ds p shown w scoped =
    let es = shown.definitions in
    let q = shown.process in
    let same = one z ds es p q w shown.written in
    let there = subst (λ (d : List Definition). HasArgumentsInScope [] (plain d q)) same.0 (subst (λ (r : Written). HasArgumentsInScope [] (plain ds r)) same.1 scoped) in
    let here : IsMeant f es q = record { traces = shown.shows there; lemmas = shown.lemmas there } in
    subst (λ (d : List Definition). IsMeant f d p) (sym same.0) (subst (IsMeant f es) (sym same.1) here)
