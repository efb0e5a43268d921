use Rattle.sap_restrict.proofs.Admissions.{admitted_law}
use Rattle.sap_restrict.proofs.Meaning.{meaning_law}
use Rattle.sap_restrict.proofs.Telling.{prefix_law}
use Rattle.sap_restrict.proofs.Quiets.{enough_law, needed_law, needs_law, quiet_law}
use Rattle.sap_restrict.proofs.laws.restrictions_say_sentences.Goals as goal

pub returns-clause-meaning : goal.returns-clause-meaning
returns-clause-meaning c = meaning_law c.normal_terms_decide.ensures

pub returns-clause-prefix : goal.returns-clause-prefix
returns-clause-prefix c = prefix_law c.normal_terms_decide.ensures

pub returns-clause-quiet : goal.returns-clause-quiet
returns-clause-quiet c = quiet_law

pub returns-clause-needed : goal.returns-clause-needed
returns-clause-needed c = needed_law

pub returns-clause-needs : goal.returns-clause-needs
returns-clause-needs c = needs_law

pub returns-clause-admitted : goal.returns-clause-admitted
returns-clause-admitted c = admitted_law c.normal_terms_decide.ensures

pub returns-clause-enough : goal.returns-clause-enough
returns-clause-enough c = enough_law
