use Rattle.std.proofs.Common.{◌≡◌, drop}
use Rattle.sap_share.specs.code.Found.{number_of_name}
use Rattle.sap_share.proofs.index.first_number.Given as goal

abbrev pub invariant-loop-e : goal.invariant-loop-e
invariant-loop-e l = number_of_name l.bound l.name ≡ number_of_name (drop l.e-index l.bound) l.name
