use Rattle.sap_run_lines.proofs.WholeWords.{name_decided, fresh_decided, public_decided, variable_decided, term_decided}
use Rattle.sap_run_lines.proofs.whole_laws.run_words_are_decided.Goals as goal

pub returns-clause-name : goal.returns-clause-name
returns-clause-name c = name_decided

pub returns-clause-fresh : goal.returns-clause-fresh
returns-clause-fresh c = fresh_decided

pub returns-clause-public : goal.returns-clause-public
returns-clause-public c = public_decided

pub returns-clause-variable : goal.returns-clause-variable
returns-clause-variable c = variable_decided

pub returns-clause-term : goal.returns-clause-term
returns-clause-term c = term_decided
