use Rattle.std.proofs.Common.{drop}
use Rattle.sap_terms.specs.Message.{IsMessageTrace}
use Rattle.sap_terms.specs.Signature.{Sig}
use Rattle.sap_formula.specs.Form.{LemmaForm}
use Rattle.sap_formula.specs.Laws.{IsClosed}
use Rattle.sap_formula.specs.Truth.{EachIn}
use Rattle.sap_replay.specs.Verdicts.{judged_lemmas}
use Rattle.sap_replay.proofs.Lines.{Behind}
use Rattle.sap_replay.proofs.verdicts.push_lemmas.Given as goal

abbrev pub invariant-loop-k : goal.invariant-loop-k
invariant-loop-k l =
    (g : Sig) → IsMessageTrace g l.trace → EachIn (λ (x : LemmaForm). IsClosed g x.formula) l.lemmas
    → Behind g l.trace (judged_lemmas l.lemmas) (judged_lemmas (drop l.k l.lemmas)) l.initial.text l.text
