use Rattle.sap_read.proofs.Known.{unknown_same}
use Rattle.sap_read.proofs.undefined.undefined_names.Goals as goal

pub returns : goal.returns
returns c = λ known bs. unknown_same known bs
