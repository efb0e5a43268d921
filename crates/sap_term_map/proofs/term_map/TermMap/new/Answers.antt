use Rattle.sap_term_map.proofs.Maps.{at_empty}
use Rattle.sap_term_map.proofs.term_map.TermMap.new.Goals as goal

pub returns : goal.returns
returns c = at_empty c.new.result c.new.ensures.empty
