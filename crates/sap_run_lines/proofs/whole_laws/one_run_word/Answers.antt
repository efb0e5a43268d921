use Rattle.sap_run_lines.proofs.WholeWords.{one_fresh, one_public, one_variable}
use Rattle.sap_run_lines.proofs.whole_laws.one_run_word.Goals as goal

pub returns-clause-fresh : goal.returns-clause-fresh
returns-clause-fresh c = one_fresh

pub returns-clause-public : goal.returns-clause-public
returns-clause-public c = one_public

pub returns-clause-variable : goal.returns-clause-variable
returns-clause-variable c = one_variable
