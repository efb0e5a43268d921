use Rattle.sap_gen.proofs.Printable.OwnNames.{inlined_theory_names, theory_names}
use Rattle.sap_gen.proofs.laws.theories_are_named_apart.Goals as goal

pub returns-clause-plain : goal.returns-clause-plain
returns-clause-plain c = theory_names

pub returns-clause-inlined : goal.returns-clause-inlined
returns-clause-inlined c = inlined_theory_names
