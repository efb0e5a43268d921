use Rattle.sap_gen.proofs.Lemmas.Closed.{inlined_theory_closed, theory_closed}
use Rattle.sap_gen.proofs.laws.theories_are_closed.Goals as goal

pub returns-clause-plain : goal.returns-clause-plain
returns-clause-plain c = theory_closed c.restrictions_are_closed.ensures.closed c.faultless_formulas_are_checked.ensures.closed

pub returns-clause-inlined : goal.returns-clause-inlined
returns-clause-inlined c = inlined_theory_closed c.restrictions_are_closed.ensures.closed c.faultless_formulas_are_checked.ensures.closed
