use Rattle.sap_rewrite.proofs.Bound.{new_once, extended_once, agrees_itself}
use Rattle.sap_rewrite.proofs.laws.variables_named_once_stay_so.Goals as goal

pub returns : goal.returns
returns c = record { first_occurrences = new_once; extended = extended_once; agree = agrees_itself }
