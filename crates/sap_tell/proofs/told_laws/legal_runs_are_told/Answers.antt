use Rattle.sap_terms.specs.Equations.{equations}
use Rattle.sap_tell.proofs.LegalTold.{legal, some_text}
use Rattle.sap_tell.proofs.told_laws.legal_runs_are_told.Goals as goal

pub returns-clause-legal : goal.returns-clause-legal
returns-clause-legal c = legal

pub returns-clause-told : goal.returns-clause-told
returns-clause-told c = some_text (λ g. c.each_term_has_a_normal_form.ensures (equations g))
