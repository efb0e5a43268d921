use Rattle.sap_expect.proofs.KindsAtLimits.{formula_98, formula_99, no_pair_99, no_term_99, pair_98, process_298, process_299, term_98, term_99}
use Rattle.sap_expect.proofs.kind_laws.kinds_at_limits_by_hand.Goals as goal

pub returns : goal.returns
returns c = record {
  term = (term_98, term_99);
  process = (process_298, process_299);
  formula = (formula_98, formula_99);
  pair = (pair_98, no_pair_99);
  not_these = no_term_99;
}
