use Rattle.sap_expect.proofs.DeepByHand.{deep_formula_100, deep_process_300, deep_term_100, deep_arguments, not_end, not_nested_98, not_replicated, process_not_term, formula_not_term, term_not_process}
use Rattle.sap_expect.proofs.expected_laws.too_deep_by_hand.Goals as goal

pub returns : goal.returns
returns c = record {
  term = (deep_term_100, deep_arguments);
  process = deep_process_300;
  formula = deep_formula_100;
  another = (term_not_process, process_not_term, formula_not_term);
  not_these = (not_replicated, not_nested_98, not_end);
}
