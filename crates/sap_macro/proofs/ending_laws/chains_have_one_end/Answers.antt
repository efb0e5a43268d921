use Rattle.sap_macro.proofs.Endings.{comes_same, one_end_of}
use Rattle.sap_macro.proofs.ending_laws.chains_have_one_end.Goals as goal

pub returns-clause-one : goal.returns-clause-one
returns-clause-one c ds w p q order h k = one_end_of ds w p q order h.comes h.last k.comes k.last

pub returns-clause-same : goal.returns-clause-same
returns-clause-same c ds w p order h = comes_same ds w p order h.comes
