use Rattle.sap_explain.proofs.explain.number_of.Goals as goal

pub returns-in-Some : goal.returns-in-Some
returns-in-Some c = λ ws h.
    let k = rw c.in-Some.is at h in
    k.first

pub returns-in-None : goal.returns-in-None
returns-in-None c = λ ws h.
    let k = rw c.in-None.is at h in
    k
