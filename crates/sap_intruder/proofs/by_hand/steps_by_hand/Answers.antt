use Rattle.sap_intruder.proofs.SparingByHand as sparing
use Rattle.sap_intruder.proofs.StepsByHand as steps
use Rattle.sap_intruder.proofs.StepsByHand.{Laws}
use Rattle.sap_intruder.proofs.by_hand.steps_by_hand.Goals as goal

pub returns-clause-possible : goal.returns-clause-possible
returns-clause-possible c = steps.possible (record {
  leaves = c.leaves_are_normal.ensures;
  names = c.names_are_messages.ensures;
  heads = c.destructors_head_left_sides.ensures;
  one = c.normal_forms_are_unique.ensures;
  decide = c.normal_forms_decide.ensures;
  kept = c.equality_is_kept.ensures;
  once = c.symbols_reduce_once.ensures;
  cause = c.short_refusals_are_one.ensures.cause;
})

pub returns-clause-refused : goal.returns-clause-refused
returns-clause-refused c = steps.refused (record {
  leaves = c.leaves_are_normal.ensures;
  names = c.names_are_messages.ensures;
  heads = c.destructors_head_left_sides.ensures;
  one = c.normal_forms_are_unique.ensures;
  decide = c.normal_forms_decide.ensures;
  kept = c.equality_is_kept.ensures;
  once = c.symbols_reduce_once.ensures;
  cause = c.short_refusals_are_one.ensures.cause;
})

pub returns-clause-left_out : goal.returns-clause-left_out
returns-clause-left_out c = steps.left_out

pub returns-clause-sparing : goal.returns-clause-sparing
returns-clause-sparing c = sparing.by_hand c.leaves_are_normal.ensures c.normal_forms_are_unique.ensures
