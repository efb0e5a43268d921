use Rattle.sap_process.proofs.Firsts.{some-flaw}
use Rattle.sap_process.proofs.laws.some_flaw.Goals as goal

pub returns : goal.returns
returns c = some-flaw
