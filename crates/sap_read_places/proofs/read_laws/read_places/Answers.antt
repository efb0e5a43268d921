use Rattle.sap_read_places.proofs.ReadLaws.{one_read_place, some_read_place}
use Rattle.sap_read_places.proofs.read_laws.read_places.Goals as goal

pub returns-clause-one : goal.returns-clause-one
returns-clause-one c =
    one_read_place c.limit_places.ensures.one_place c.limit_places.ensures.one_level c.undefined_places.ensures.one c.use_places.ensures.one_other
    c.use_places.ensures.one_large c.flaw_places.ensures.one c.body_flaw_places.ensures.one c.part_places.ensures.one

pub returns-clause-some : goal.returns-clause-some
returns-clause-some c =
    some_read_place c.limit_places.ensures.some_place c.limit_places.ensures.some_level c.undefined_places.ensures.some c.use_places.ensures.some_other
    c.use_places.ensures.some_large c.flaw_places.ensures.some c.body_flaw_places.ensures.some c.part_places.ensures.some
