use Rattle.sap_read_places.proofs.body_flaw_told.spoken_in_body.Goals as goal

pub returns : goal.returns
returns c = λ k s stands is.
    let told = rw (c.in_ok-scope.ensures, c.deref-2.ensures, c.in_ok-body.ensures, c.deref.ensures) at c.in_ok-found.ensures k s in
    told stands is
