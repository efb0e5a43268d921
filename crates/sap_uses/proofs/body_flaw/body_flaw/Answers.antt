use Rattle.sap_uses.proofs.body_flaw.body_flaw.Goals as goal

pub returns-clause-found : goal.returns-clause-found
returns-clause-found c = λ g.
    let told = rw (c.in_ok-scope.ensures, c.deref-2.ensures, c.in_ok-body.ensures, c.deref.ensures) at c.in_ok-found.ensures.found g in
    told

pub returns-clause-none : goal.returns-clause-none
returns-clause-none c = λ g.
    let told = rw (c.in_ok-scope.ensures, c.deref-2.ensures, c.in_ok-body.ensures, c.deref.ensures) at c.in_ok-found.ensures.none g in
    told
