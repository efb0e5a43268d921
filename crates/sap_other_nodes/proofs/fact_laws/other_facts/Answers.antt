use Rattle.std.proofs.Common.{[]}
use Rattle.sap_process.specs.Sites.{above_of}
use Rattle.sap_other_nodes.proofs.FactsTold.{one_other, some_other}
use Rattle.sap_other_nodes.proofs.fact_laws.other_facts.Goals as goal

pub returns-clause-one : goal.returns-clause-one
returns-clause-one c = λ p path k v w m n f g. one_other p (record { by_path = λ s h. c.places_are_by_path.ensures.at_path p (above_of [] 0) s h; listed = λ path s h. c.places_are_by_path.ensures.listed p (above_of [] 0) path s h; path = λ path s h. c.places_are_by_path.ensures.path p (above_of [] 0) path s h; in_order = λ i j s t. c.places_are_by_path.ensures.in_order p (above_of [] 0) i j s t; not_itself = c.places_are_ordered.ensures.not_itself; ordered = c.places_are_ordered.ensures.ordered; onward = c.places_are_ordered.ensures.onward }) path k v w m n f g

pub returns-clause-some : goal.returns-clause-some
returns-clause-some c = λ g p i s k e h. some_other p (record { by_path = λ s h. c.places_are_by_path.ensures.at_path p (above_of [] 0) s h; listed = λ path s h. c.places_are_by_path.ensures.listed p (above_of [] 0) path s h; path = λ path s h. c.places_are_by_path.ensures.path p (above_of [] 0) path s h; in_order = λ i j s t. c.places_are_by_path.ensures.in_order p (above_of [] 0) i j s t; not_itself = c.places_are_ordered.ensures.not_itself; ordered = c.places_are_ordered.ensures.ordered; onward = c.places_are_ordered.ensures.onward }) g i s k e h
