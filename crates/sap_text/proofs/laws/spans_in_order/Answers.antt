use Rattle.sap_text.proofs.Ordered.{tokens_in_order}
use Rattle.sap_text.proofs.laws.spans_in_order.Goals as goal

pub returns : goal.returns
returns c = tokens_in_order
