use Rattle.sap_terms.specs.declared.var.Sort.TheVariants.{Fresh, Pub}
use Rattle.sap_uses.proofs.FlawedByHand.{by_plain, first_in_order, unbound_below, unbound_root, rebound_root, signed_root, used_root, unreached_none, right_none}
use Rattle.sap_uses.proofs.by_hand.flawed_by_hand.Goals as goal

pub returns-clause-unbound : goal.returns-clause-unbound
returns-clause-unbound c = unbound_root

pub returns-clause-rebound : goal.returns-clause-rebound
returns-clause-rebound c = rebound_root

pub returns-clause-signed : goal.returns-clause-signed
returns-clause-signed c = λ g. signed_root g Fresh (λ h. absurd (cc))

pub returns-clause-signed_public : goal.returns-clause-signed_public
returns-clause-signed_public c = λ g. signed_root g Pub (λ h. absurd (cc))

pub returns-clause-used : goal.returns-clause-used
returns-clause-used c = used_root

pub returns-clause-unreached : goal.returns-clause-unreached
returns-clause-unreached c = unreached_none

pub returns-clause-right : goal.returns-clause-right
returns-clause-right c = right_none

pub returns-clause-below : goal.returns-clause-below
returns-clause-below c = unbound_below

pub returns-clause-first : goal.returns-clause-first
returns-clause-first c = first_in_order

pub returns-clause-plain : goal.returns-clause-plain
returns-clause-plain c = by_plain
