use Rattle.sap_json.specs.RunValues.{not_json}
use Rattle.sap_json.proofs.read.read_json.Goals as goal

pub returns-in-None : goal.returns-in-None
returns-in-None c = not_json (rw c.in-None.is at c.in_ok-parsed.ensures)
