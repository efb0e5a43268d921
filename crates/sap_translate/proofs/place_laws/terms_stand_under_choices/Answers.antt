use Rattle.sap_translate.proofs.PlaceLaws.{as_chosen, in_scope, of_facts, of_pair, of_pattern, stays}
use Rattle.sap_translate.proofs.Terms.Choices.{join_new, put_choice, put_longer}
use Rattle.sap_translate.proofs.place_laws.terms_stand_under_choices.Goals as goal

pub returns : goal.returns
returns c = record {
  variables = in_scope;
  stays = stays;
  comes = join_new;
  picks = as_chosen;
  terms = put_choice;
  longer = put_longer;
  patterns = of_pattern;
  facts = of_facts;
  pairs = of_pair c.leaves_are_normal.ensures c.equality_is_kept.ensures c.destructors_head_left_sides.ensures;
}
