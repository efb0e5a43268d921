use Rattle.sap_expect.proofs.SpelledTerms.{fact_spelled, facts_spelled, shown_spelled}
use Rattle.sap_expect.proofs.part_laws.facts_that_follow_are_spelled.Goals as goal

pub returns : goal.returns
returns c = record { fact = fact_spelled; facts = facts_spelled; shown = shown_spelled }
