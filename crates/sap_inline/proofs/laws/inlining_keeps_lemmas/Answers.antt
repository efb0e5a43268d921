use Rattle.sap_inline.proofs.Inlines.{for_all_law, for_some_law}
use Rattle.sap_inline.proofs.laws.inlining_keeps_lemmas.Goals as goal

pub returns-clause-for_all : goal.returns-clause-for_all
returns-clause-for_all c = for_all_law

pub returns-clause-for_some : goal.returns-clause-for_some
returns-clause-for_some c = for_some_law
