use Rattle.sap_attacks.proofs.Settled.{order-does-not-matter, settled-facts-are-one, early-uses-do-not-matter, early-uses-are-among-them, settled-facts-become}
use Rattle.sap_attacks.proofs.SilentOnce.{silent_once}
use Rattle.sap_attacks.proofs.laws.settling_is_one.Goals as goal

pub returns-clause-way : goal.returns-clause-way
returns-clause-way c = λ g p h. silent_once c.normal_forms_are_unique.ensures g p h _

pub returns-clause-order : goal.returns-clause-order
returns-clause-order c = λ g p. order-does-not-matter _

pub returns-clause-one : goal.returns-clause-one
returns-clause-one c = λ g p. settled-facts-are-one _

pub returns-clause-becomes : goal.returns-clause-becomes
returns-clause-becomes c = λ g p. settled-facts-become _

pub returns-clause-early : goal.returns-clause-early
returns-clause-early c = λ g p. early-uses-do-not-matter _

pub returns-clause-among : goal.returns-clause-among
returns-clause-among c = λ g p. early-uses-are-among-them _
