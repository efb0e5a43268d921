use Rattle.std.proofs.Common.{◌≡◌, List, [], ◌∷◌}
use Rattle.sap_terms.specs.Signature.{Sig}
use Rattle.sap_terms.specs.Trace.{Trace}
use Rattle.sap_formula.specs.Form.{RestrictionForm}
use Rattle.sap_translate.specs.Faithful.{AreRestrictionsTrue}
use Rattle.sap_tool.proofs.laws.unrestricted_files_are_shown.Goals as goal

no_restriction : (g : Sig) (rs : List RestrictionForm) (tr : Trace) → rs ≡ [] → AreRestrictionsTrue g rs tr
no_restriction g [] tr none = tt
no_restriction g (r ∷ rs) tr none = cc

pub returns : goal.returns
returns c = λ f t tr keeps none.
    let shown = keeps.shows_restricted tr in
    (λ of_process. shown.0 (of_process, no_restriction f.signature f.restrictions tr none), λ of_theory. (shown.1 of_theory).0)
