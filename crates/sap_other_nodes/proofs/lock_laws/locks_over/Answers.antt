use Rattle.sap_other_nodes.proofs.LocksOver.{one_over, some_over}
use Rattle.sap_other_nodes.proofs.lock_laws.locks_over.Goals as goal

pub returns-clause-one : goal.returns-clause-one
returns-clause-one c = λ p path d e f g. one_over p (record { by_path = c.lock_places_are_by_path.ensures.ways p; listed = c.lock_places_are_by_path.ensures.ways_listed p }) path d e f g

pub returns-clause-some : goal.returns-clause-some
returns-clause-some c = λ p path h. some_over p (record { by_path = c.lock_places_are_by_path.ensures.ways p; listed = c.lock_places_are_by_path.ensures.ways_listed p }) path h
