use Rattle.std.proofs.Common.{map}
use Rattle.sap_formula.specs.Form.{LemmaForm}
use Rattle.sap_formula.specs.Laws.{IsClosed}
use Rattle.sap_formula.specs.Truth.{EachIn}
use Rattle.sap_terms.specs.Message.{IsMessageTrace}
use Rattle.sap_terms.specs.Signature.{Sig}
use Rattle.sap_verdicts.specs.Findings.{stated_lemma}
use Rattle.sap_verdicts.specs.View.{found}
use Rattle.sap_verdicts.proofs.Finds.{Behind}
use Rattle.sap_verdicts.proofs.finding.find_lemmas.Given as goal

abbrev pub invariant-loop-k : goal.invariant-loop-k
invariant-loop-k l =
    (g : Sig) → IsMessageTrace g l.trace → EachIn (λ (x : LemmaForm). IsClosed g x.formula) l.lemmas
    → Behind stated_lemma g l.trace l.lemmas l.k (map found l.initial.out) (map found l.out)
