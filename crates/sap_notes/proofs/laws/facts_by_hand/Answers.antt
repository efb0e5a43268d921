use Rattle.std.proofs.Common.{refl}
use Rattle.sap_notes.proofs.ByHand.{fact_there, no_fact_before, no_fact_of_name}
use Rattle.sap_notes.proofs.laws.facts_by_hand.Goals as goal

pub returns : goal.returns
returns c = record {
  formula = refl;
  process = refl;
  said = (refl, refl, refl, refl, refl);
  shown = (refl, refl, refl);
  not_shown = (refl, refl, refl, refl, refl);
  items = (refl, refl, refl, refl, refl);
  fact = fact_there;
  no_fact = λ g. (no_fact_of_name g, no_fact_before g);
  one_event = refl;
  names = refl;
  list = (refl, refl, refl, refl);
  sentences = refl;
}
