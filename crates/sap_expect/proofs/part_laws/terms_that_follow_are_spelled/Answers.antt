use Rattle.sap_expect.proofs.SpelledTerms.{args_spelled, term_spelled}
use Rattle.sap_expect.proofs.part_laws.terms_that_follow_are_spelled.Goals as goal

pub returns : goal.returns
returns c = record { term = term_spelled; arguments = args_spelled }
