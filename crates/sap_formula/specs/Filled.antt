-- A trace without its empty times.
use Rattle.std.specs.List.{flat_map}
use Rattle.sap_terms.specs.Trace.{Trace, shown}

-- the times at which something is shown, in order
abbrev pub filled : Trace → Trace
filled tr = flat_map shown tr
