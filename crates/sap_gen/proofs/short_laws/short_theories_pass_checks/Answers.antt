use Rattle.sap_gen.proofs.Printing.{theory_passes}
use Rattle.sap_gen.proofs.Theories.{PlaceLaws, places_sound}
use Rattle.sap_gen.proofs.short_laws.short_theories_pass_checks.Goals as goal

pub returns : goal.returns
returns c =
    let places : PlaceLaws = record { sound = c.rules_show_the_process.ensures.sound; origin = c.rules_are_found_by_name.ensures.origin; placed = c.rules_are_found_by_name.ensures.placed } in
    λ f t run fine named s. theory_passes f t (places_sound places f run) (places.placed f.process) s (c.theories_pass_checks.ensures.plain f run fine named)
