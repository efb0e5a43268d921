use Rattle.std.proofs.Common.{sym, subst}
use Rattle.sap_process.specs.Proc.{proc}
use Rattle.sap_process.specs.Ready.{IsReady}
use Rattle.sap_process.specs.code.Walks.{IsCounted}
use Rattle.sap_process.proofs.Firsts.{told-one}
use Rattle.sap_process.proofs.StillWell.{sorted_ready}
use Rattle.sap_process.proofs.checking.well_formed_boxed.Goals as goal

pub returns-in-Some-clause-flawed : goal.returns-in-Some-clause-flawed
returns-in-Some-clause-flawed c = λ w path h.
    let g = c.args.sig.now in
    let p = proc c.args.p.now in
    told-one g p c.in-Some.which w c.in-Some.path path (subst (IsCounted g p) c.in-Some.is c.in_ok-which.ensures) h

pub returns-in_ok-sorted_whole-in-None-clause-sound : goal.returns-in_ok-sorted_whole-in-None-clause-sound
returns-in_ok-sorted_whole-in-None-clause-sound c = subst (IsCounted c.args.sig.now (proc c.args.p.now)) c.in-None.is c.in_ok-which.ensures

pub returns-in_ok-sorted_whole-in-None-clause-well : goal.returns-in_ok-sorted_whole-in-None-clause-well
returns-in_ok-sorted_whole-in-None-clause-well c =
    let g = c.args.sig.now in
    let p = proc c.args.p.now in
    subst (IsReady g) (sym c.in_ok-sorted_whole-in-None.ensures) (sorted_ready g p (subst (IsCounted g p) c.in-None.is c.in_ok-which.ensures))
