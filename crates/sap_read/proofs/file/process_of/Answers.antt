use Rattle.std.proofs.Common.{inr}
use Rattle.std.proofs.lemmas.Result.{IfOk-weaker}
use Rattle.sap_read.specs.code.Judged.{IsAnnotated, IsSound}
use Rattle.sap_process.specs.Proc.{proc}
use Rattle.sap_read.proofs.file.process_of.Goals as goal

pub returns-clause-refused : goal.returns-clause-refused
returns-clause-refused c = λ bs ss clash e parts h n.
    let found = c.in_ok-process.ensures.accepted c.args.sig.now bs ss clash parts in
    inr (record {
      process = proc c.in_ok-process.process.value;
      whole = found;
      unsound = rw c.deref.ensures at c.judge.ensures.refused e h n;
    })

pub returns-clause-accepted : goal.returns-clause-accepted
returns-clause-accepted c = λ bs ss clash parts.
    let g = c.args.sig.now in
    let whole = c.in_ok-process.ensures.accepted g bs ss clash parts in
    IfOk-weaker c.judge.result (λ q. IsSound g (proc c.deref.result.now) (proc q.value))
    (λ q. IsAnnotated g clash c.args.identifiers.now bs ss (proc q.value))
    (λ q s. record { process = proc c.in_ok-process.process.value; whole = whole; sound = rw c.deref.ensures at s }) c.judge.ensures.accepted
