use Rattle.sap_theory.proofs.ReadWithin.{read_within}
use Rattle.sap_theory.proofs.laws.spelled_theories_are_read.Goals as goal

pub returns : goal.returns
returns c = read_within c.faultless_formulas_keep_signs.ensures.sorts
