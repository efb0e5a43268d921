use Rattle.sap_macro.proofs.PlainUses.{plain_bodies_are_in_order, plain_uses_are_defined}
use Rattle.sap_macro.proofs.sorting_laws.plain_bodies_are_in_order.Goals as goal

pub returns-clause-order : goal.returns-clause-order
returns-clause-order c = plain_bodies_are_in_order

pub returns-clause-uses : goal.returns-clause-uses
returns-clause-uses c = plain_uses_are_defined
