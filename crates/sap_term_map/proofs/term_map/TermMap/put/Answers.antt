use Rattle.std.proofs.Common.{Some}
use Rattle.sap_term_map.proofs.Maps.{at_written}
use Rattle.sap_term_map.proofs.term_map.TermMap.put.Goals as goal

pub returns-clause-ok : goal.returns-clause-ok
returns-clause-ok c = at_written c.args.self.now.terms c.insert.new.self c.args.key (Some c.args.value) c.in_ok-insert.ensures.updates.0
