-- The facts of fresh names and of private channels, as rules write them.
use Rattle.std.specs.Prelude.{[], ◌∷◌}
use Rattle.sap_terms.specs.AdversaryFacts.{linear}
use Rattle.sap_terms.specs.FactNames.{fr_name, msg_name, ack_name}
use Rattle.sap_terms.specs.Tree.{Tree}
use Rattle.sap_terms.specs.declared.fact.Fact.{Fact}

-- the fresh name, or the variable for one, was made, and is nobody's yet
abbrev pub fresh_fact : Tree → Fact
fresh_fact t = linear fr_name (t ∷ [])

-- u is under way on the channel t, under the tag n
abbrev pub msg_fact : Tree → Tree → Tree → Fact
msg_fact n t u = linear msg_name (n ∷ t ∷ u ∷ [])

-- what was sent under the tag n came
abbrev pub ack_fact : Tree → Fact
ack_fact n = linear ack_name (n ∷ [])
