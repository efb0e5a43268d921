use Rattle.sap_origin.specs.Origins.{start}
use Rattle.sap_roles.proofs.OneWay.{one_role, some_role}
use Rattle.sap_roles.proofs.laws.one_role.Goals as goal

pub returns-clause-one : goal.returns-clause-one
returns-clause-one c = λ ds p behind path a b h g. one_role h g

pub returns-clause-some : goal.returns-clause-some
returns-clause-some c = λ ds p q behind z path reaches. some_role reaches

pub returns-clause-expanded : goal.returns-clause-expanded
returns-clause-expanded c = λ ds p behind identifiers path y order uses there.
    let meant = c.expansions_are_meant.ensures ds p identifiers order uses in
    let found = c.one_written_place.ensures.some ds (start behind) p _ y path meant there in
    some_role found.2
