use Rattle.sap_terms.proofs.signature.held.Goals as goal

pub returns : goal.returns
returns c = c.named.ensures
