use Rattle.sap_expect.proofs.SpelledFormulas.{formula_spelled}
use Rattle.sap_expect.proofs.part_laws.formulas_that_follow_are_spelled.Goals as goal

pub returns : goal.returns
returns c = formula_spelled
