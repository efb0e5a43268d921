use Rattle.sap_gen.proofs.Theories.{PlaceLaws, one_theory, some_theory}
use Rattle.sap_gen.proofs.short_laws.one_short_theory.Goals as goal

pub returns : goal.returns
returns c =
    let places : PlaceLaws = record { sound = c.rules_show_the_process.ensures.sound; origin = c.rules_are_found_by_name.ensures.origin; placed = c.rules_are_found_by_name.ensures.placed } in
    record { some = λ f run. some_theory places f run; one = one_theory }
