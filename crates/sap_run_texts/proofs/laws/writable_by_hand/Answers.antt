use Rattle.std.proofs.Common.{◌≡◌, true, false, refl, lit<, lit≤, arith}
use Rattle.sap_run_texts.proofs.laws.writable_by_hand.Goals as goal

pub returns-clause-number : goal.returns-clause-number
returns-clause-number c = (tt, (lit< tt, tt))

pub returns-clause-no_number : goal.returns-clause-no_number
returns-clause-no_number c = λ h. omega (arith, h.1.0)

pub returns-clause-name : goal.returns-clause-name
returns-clause-name c = record { is = refl; short = lit≤ tt }

pub returns-clause-no_name : goal.returns-clause-no_name
returns-clause-no_name c = λ h. let quoted : false ≡ true = h.is in cc

pub returns-clause-empty : goal.returns-clause-empty
returns-clause-empty c = record { is = refl; short = lit≤ tt }
