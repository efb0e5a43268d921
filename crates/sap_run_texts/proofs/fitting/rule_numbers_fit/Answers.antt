use Rattle.sap_run_texts.proofs.Numbered.{uses_numbered}
use Rattle.sap_run_texts.proofs.fitting.rule_numbers_fit.Goals as goal

pub returns-in-Rule : goal.returns-in-Rule
returns-in-Rule c = rw c.in-Rule.is (tt, (tt, uses_numbered c.in-Rule.facts c.in-Rule.field-2 c.all_fit-in-Rule.ensures))
