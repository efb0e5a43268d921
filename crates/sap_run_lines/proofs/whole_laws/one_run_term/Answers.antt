use Rattle.sap_run_lines.proofs.WholeWords.{one_term}
use Rattle.sap_run_lines.proofs.whole_laws.one_run_term.Goals as goal

pub returns : goal.returns
returns c = one_term
