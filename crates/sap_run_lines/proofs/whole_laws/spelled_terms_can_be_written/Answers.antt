use Rattle.sap_run_lines.proofs.Spelled.{spelled}
use Rattle.sap_run_lines.proofs.whole_laws.spelled_terms_can_be_written.Goals as goal

pub returns : goal.returns
returns c = spelled
