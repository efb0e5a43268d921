use Rattle.sap_sides.proofs.Formed.{in_parts}
use Rattle.sap_sides.proofs.laws.large_facts_are_in_parts.Goals as goal

pub returns : goal.returns
returns c = in_parts
