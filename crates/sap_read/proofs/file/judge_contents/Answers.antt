use Rattle.std.proofs.Common.{rules, inl, inr}
use Rattle.std.proofs.lemmas.Result.{err_from_is_err_and}
use Rattle.sap_process.specs.Proc.{proc}
use Rattle.sap_read.proofs.file.judge_contents.Goals as goal

pub returns-in_err-process-clause-refused : goal.returns-in_err-process-clause-refused
returns-in_err-process-clause-refused c = λ bs clash e parts h n.
    let p = err_from_is_err_and c.from_residual.result c.from_residual.ensures.1 in
    inl (c.in_err-process.ensures.refused bs c.args.statements.now clash e parts (search (rules, p, h)) n)

pub returns-in_err-checked-clause-refused : goal.returns-in_err-checked-clause-refused
returns-in_err-checked-clause-refused c = λ bs clash e parts h n.
    let p = err_from_is_err_and c.from_residual-in_err-checked.result c.from_residual-in_err-checked.ensures.1 in
    inr (record {
      process = proc c.in_ok-process.process.value;
      annotated = c.in_ok-process.ensures.accepted bs c.args.statements.now clash parts;
      first = c.in_err-checked.ensures.refused e (search (rules, p, h)) n;
    })
