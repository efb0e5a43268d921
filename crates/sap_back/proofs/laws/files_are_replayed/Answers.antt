use Rattle.sap_back.proofs.OneReserved.{show_one, small_places}
use Rattle.sap_back.proofs.laws.files_are_replayed.Goals as goal

pub returns-clause-made : goal.returns-clause-made
returns-clause-made c f r = c.rules_are_well_made.ensures.made f.signature r.process f.process r.pairs r.ready (small_places r.process r.small) r.annotation

pub returns-clause-shown : goal.returns-clause-shown
returns-clause-shown c f r =
    show_one f.signature f.process (c.rules_are_found_by_name.ensures.origin f.process) (c.rules_show_the_process.ensures.sound f.signature r.process f.process r.ready (small_places r.process r.small) r.annotation)

pub returns-clause-small : goal.returns-clause-small
returns-clause-small c f r = small_places r.process r.small
