use Rattle.sap_read.specs.declared.fault.ReadFault.TheVariants.{Lock}
use Rattle.sap_explain.proofs.CausesWithPath.{lock_without_path, path_is_nowhere, path_is_told}
use Rattle.sap_explain.proofs.lock_told.told_in_process.Goals as goal

pub returns-in-Some-clause-place : goal.returns-in-Some-clause-place
returns-in-Some-clause-place c =
    path_is_told c.args.bytes.now (Lock c.args.lock.now) c.in-Some.path.now (rw c.in-Some.is at c.lock_path.ensures) c.path_told.result (rw c.as_slice.ensures.is at c.path_told.ensures.place)

pub returns-in-Some-clause-none : goal.returns-in-Some-clause-none
returns-in-Some-clause-none c =
    path_is_nowhere c.args.bytes.now (Lock c.args.lock.now) c.in-Some.path.now (rw c.in-Some.is at c.lock_path.ensures) c.path_told.result (rw c.as_slice.ensures.is at c.path_told.ensures.none)

pub returns-in-None-clause-none : goal.returns-in-None-clause-none
returns-in-None-clause-none c = λ e. lock_without_path c.args.bytes.now c.args.lock.now (rw c.in-None.is at c.lock_path.ensures)
