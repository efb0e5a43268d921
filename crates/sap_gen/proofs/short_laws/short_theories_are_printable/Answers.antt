use Rattle.sap_terms.specs.declared.limits.TheConstants.{MOST_THEORY_NAME_BYTES}
use Rattle.sap_gen.proofs.Printing.{theory_printable}
use Rattle.sap_gen.proofs.Theories.{PlaceLaws, places_sound}
use Rattle.sap_gen.proofs.short_laws.short_theories_are_printable.Goals as goal

pub returns : goal.returns
returns c =
    let places : PlaceLaws = record { sound = c.rules_show_the_process.ensures.sound; origin = c.rules_are_found_by_name.ensures.origin; placed = c.rules_are_found_by_name.ensures.placed } in
    λ f t run fine s. theory_printable f t MOST_THEORY_NAME_BYTES (places_sound places f run) (places.placed f.process) s (c.theories_are_printable.ensures.plain f run fine)
