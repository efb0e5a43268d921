use Rattle.sap_terms.proofs.NameSetLemmas.{none_twice}
use Rattle.sap_terms.proofs.name_set.NameSet.new.Goals as goal

pub invariant_of-result : goal.invariant_of-result
invariant_of-result c = rw c.new.ensures none_twice
