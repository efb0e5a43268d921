use Rattle.sap_json.proofs.WrittenRead.{read_can}
use Rattle.sap_json.proofs.laws.json_runs_can_be_written.Goals as goal

pub returns : goal.returns
returns c = read_can c.spelled_terms_can_be_written.ensures
