use Rattle.std.proofs.lemmas.Result.{err_from_is_err_and}
use Rattle.sap_lines.specs.Faults.{no_memory}
use Rattle.sap_intruder.proofs.filling.Filling.write.Goals as goal

pub returns-in_err-push-in-Ok-clause-refused : goal.returns-in_err-push-in-Ok-clause-refused
returns-in_err-push-in-Ok-clause-refused c = let p = err_from_is_err_and c.from_residual.result c.from_residual.ensures.1 in rw (p.1, p.2) (no_memory c.args.step)
