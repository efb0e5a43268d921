use Rattle.std.proofs.Common.{◌≡◌, drop}
use Rattle.std.specs.Prelude.{map}
use Rattle.sap_cures.specs.ByteCures.{first_cure}
use Rattle.sap_cures.specs.code.Views.{byte_row_of}
use Rattle.sap_cures.proofs.at_byte.first_cure.Given as goal

abbrev pub invariant-loop-row : goal.invariant-loop-row
invariant-loop-row l = first_cure l.before l.from (map byte_row_of l.rows) ≡ first_cure l.before l.from (map byte_row_of (drop l.row-index l.rows))
