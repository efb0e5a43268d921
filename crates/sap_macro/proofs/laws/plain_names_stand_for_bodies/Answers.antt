use Rattle.sap_macro.proofs.Replacing.{defined_stands, other_stays, plain_bodies_are}
use Rattle.sap_macro.proofs.laws.plain_names_stand_for_bodies.Goals as goal

pub returns-clause-defined : goal.returns-clause-defined
returns-clause-defined c = defined_stands

pub returns-clause-other : goal.returns-clause-other
returns-clause-other c = other_stays

pub returns-clause-bodies : goal.returns-clause-bodies
returns-clause-bodies c = plain_bodies_are
