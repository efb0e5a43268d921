use Rattle.sap_rewrite.proofs.Equality.{reduce_once}
use Rattle.sap_rewrite.proofs.laws.symbols_reduce_once.Goals as goal

pub returns : goal.returns
returns c = reduce_once
