use Rattle.sap_theory.proofs.ReadSpelled.{read_theories_are_spelled}
use Rattle.sap_theory.proofs.laws.read_theories_are_spelled.Goals as goal

pub returns : goal.returns
returns c =
    let signs = c.faultless_formulas_keep_signs.ensures in
    read_theories_are_spelled signs.sorts signs.sorted c.builtins_stay_held.ensures
