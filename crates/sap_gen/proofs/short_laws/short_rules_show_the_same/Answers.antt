use Rattle.sap_gen.proofs.Theories.{PlaceLaws, RunLaws, theory_shown, theory_visible}
use Rattle.sap_gen.proofs.short_laws.short_rules_show_the_same.Goals as goal

pub returns : goal.returns
returns c =
    let places : PlaceLaws = record { sound = c.rules_show_the_process.ensures.sound; origin = c.rules_are_found_by_name.ensures.origin; placed = c.rules_are_found_by_name.ensures.placed } in
    let runs : RunLaws = record {
      forms = c.each_term_has_a_normal_form.ensures;
      one_form = c.normal_forms_are_unique.ensures;
      decide = c.normal_terms_decide.ensures;
      reach = c.runs_reach_messages.ensures;
      made = c.rules_are_well_made.ensures.made;
      empty = record {
        truth = c.empty_times_are_not_seen.ensures.truth;
        hidden = c.empty_times_are_not_seen.ensures.hidden;
        admitted = c.restrictions_are_closed.ensures.filled;
      };
    } in
    record {
      admitted = λ f t tr run s. theory_visible places runs f t run s tr;
      restricted = λ f t tr run s. theory_shown places runs f t (c.theories_are_closed.ensures.plain f run) run s tr;
    }
