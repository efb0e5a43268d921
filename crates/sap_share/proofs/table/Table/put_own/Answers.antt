use Rattle.std.proofs.Common.{refl}
use Rattle.sap_share.specs.Shared.{given}
use Rattle.sap_share.proofs.table.Table.put_own.Goals as goal

pub returns-in-Some-clause-came : goal.returns-in-Some-clause-came
returns-in-Some-clause-came c = given c.in-Some.ensures.found.0 refl
