use Rattle.std.proofs.Common.{map}
use Rattle.sap_origin.specs.Definitions.{plain_definition}
use Rattle.sap_origin.specs.declared.trail.Replaced.TheVariants.{Plain}
use Rattle.sap_seen.proofs.Found.{found}
use Rattle.sap_seen.proofs.SeenSo.{NamesStand, seen_so}
use Rattle.sap_seen.proofs.There.{OthersStay, is_seen, nodes_are, there}
use Rattle.sap_seen.proofs.laws.seen_places.Goals as goal

pub returns-clause-some : goal.returns-clause-some
returns-clause-some c = λ ds s p path y order uses e some.
    let so = seen_so ds (λ d ts among. c.plain_names_stand_for_bodies.ensures.defined (map plain_definition ds) d ts order among) order p uses in
    let r = found s path so some e in
    (r.standing, r.place, r.comes, r.nodes)

pub returns-clause-one : goal.returns-clause-one
returns-clause-one c = λ ds. c.one_written_place.ensures.one ds Plain

pub returns-clause-only : goal.returns-clause-only
returns-clause-only c = λ ds s z p q path order m.
    let es = map plain_definition ds in
    let law : NamesStand es = λ d ts among. c.plain_names_stand_for_bodies.ensures.defined es d ts order among in
    let others : OthersStay es = c.plain_names_stand_for_bodies.ensures.other es in
    (there ds law others m, nodes_are ds law others q (is_seen ds law others m))

pub returns-clause-written : goal.returns-clause-written
returns-clause-written c = λ ds. c.ways_lead_to_written_places.ensures ds Plain
