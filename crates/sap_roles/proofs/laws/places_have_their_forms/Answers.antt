use Rattle.sap_roles.proofs.Forms.{has_form}
use Rattle.sap_roles.proofs.Forms.{is_form}
use Rattle.sap_roles.proofs.laws.places_have_their_forms.Goals as goal

pub returns-clause-forms : goal.returns-clause-forms
returns-clause-forms c = λ ds p identifiers s path y order uses there.
    let meant = c.expansions_are_meant.ensures ds p identifiers order uses in
    let found = c.one_written_place.ensures.some ds s p _ y path meant there in
    (found.0, found.1, found.2, has_form found.3 found.4)

pub returns-clause-only : goal.returns-clause-only
returns-clause-only c = λ ds p q identifiers s z path order uses reaches.
    let meant = c.expansions_are_meant.ensures ds p identifiers order uses in
    let found = c.one_written_place.ensures.only ds s z p q _ path meant reaches in
    (found.0, found.1, has_form (is_form reaches) found.2)
