-- The judge's answers are right for each signature under which its condition holds.
use Rattle.std.proofs.Common.{Ok, Err, IfOk}
use Rattle.std.specs.Prelude.{Result}
use Rattle.sap_formula.specs.Form.{Form}
use Rattle.sap_formula.specs.Laws.{IsClosed}
use Rattle.sap_judge.specs.Verdict.{IsVerdict}
use Rattle.sap_judge.specs.code.Answer.{IsAnswer, PlanLaw}
use Rattle.sap_judge.specs.declared.verdict.Verdict.{Verdict}
use Rattle.sap_judge.specs.declared.verdict.Verdict.TheVariants.{Holds, Fails, TooCostly}
use Rattle.sap_terms.specs.Message.{IsMessageTrace}
use Rattle.sap_terms.specs.Signature.{Sig}
use Rattle.sap_terms.specs.Trace.{Trace}
use Rattle.sap_terms.specs.declared.mem.Mem.{Mem}

is_right : PlanLaw → (g : Sig) (f : Form) (tr : Trace) → IsMessageTrace g tr → IsClosed g f → (v : Verdict) → IsAnswer f tr v → IsVerdict g f tr v
is_right w g f tr m c Holds a = (a.0, (w g f tr m c).0 a.1)
is_right w g f tr m c Fails a = (a.0, λ h. let yes = (w g f tr m c).1 h in let no = a.1 in absurd (cc))
is_right w g f tr m c (TooCostly n) a = a

pub are_right : PlanLaw → (g : Sig) (f : Form) (tr : Trace) (r : Result Verdict Mem) → IfOk r (λ v. IsAnswer f tr v) → IsMessageTrace g tr → IsClosed g f → IfOk r (λ v. IsVerdict g f tr v)
are_right w g f tr (Ok v) a m c = is_right w g f tr m c v a
are_right w g f tr (Err e) a m c = a
