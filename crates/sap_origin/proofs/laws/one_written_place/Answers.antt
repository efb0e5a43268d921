use Rattle.sap_origin.proofs.Found.{found, there}
use Rattle.sap_origin.proofs.OneReach.{one_reach}
use Rattle.sap_origin.proofs.laws.one_written_place.Goals as goal

pub returns-clause-some : goal.returns-clause-some
returns-clause-some c = λ ds s p x y path m e.
    let r = found {ds = ds} s path m e in
    (r.standing, r.place, r.reached, r.form, r.means)

pub returns-clause-one : goal.returns-clause-one
returns-clause-one c = λ ds v s z w p q r path m n. one_reach ds v m n

pub returns-clause-only : goal.returns-clause-only
returns-clause-only c = λ ds s z p q x path m h.
    let r = there {ds = ds} m h in
    (r.process, r.stands, r.means)
