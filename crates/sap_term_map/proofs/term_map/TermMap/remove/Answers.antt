use Rattle.std.proofs.Common.{None}
use Rattle.sap_term_map.proofs.Maps.{at_written}
use Rattle.sap_term_map.proofs.term_map.TermMap.remove.Goals as goal

pub returns : goal.returns
returns c = at_written c.args.self.now.terms c.swap_remove.new.self c.args.key.now None c.swap_remove.ensures.updates.0
