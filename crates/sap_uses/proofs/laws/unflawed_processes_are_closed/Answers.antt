use Rattle.std.proofs.Common.{[]}
use Rattle.sap_macro.specs.Expansion.{plain}
use Rattle.sap_uses.proofs.ClosedProcesses.{closed_names, closed_where_uses_are}
use Rattle.sap_uses.proofs.laws.unflawed_processes_are_closed.Goals as goal

pub returns : goal.returns
returns c = λ g ds p identifiers none.
    (closed_where_uses_are c.instances_of_processes.ensures.unchanged g ds p identifiers none, closed_names [] (plain ds p))
