use Rattle.std.proofs.Common.{map}
use Rattle.sap_origin.specs.Definitions.{plain_definition}
use Rattle.sap_origin.proofs.Meant.{PlainLaw, expansion_meant}
use Rattle.sap_origin.proofs.laws.expansions_are_meant.Goals as goal

pub returns : goal.returns
returns c = λ ds p identifiers order uses.
    let law : PlainLaw (map plain_definition ds) = record {
      stand = λ d ts among. c.plain_names_stand_for_bodies.ensures.defined (map plain_definition ds) d ts order among;
      bodies = c.plain_names_stand_for_bodies.ensures.bodies (map plain_definition ds) order;
    } in
    expansion_meant ds law order p identifiers uses
