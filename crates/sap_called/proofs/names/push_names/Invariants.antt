use Rattle.std.proofs.Common.{◌≡◌, ◌++◌, take}
use Rattle.std.specs.Prelude.{flat_map}
use Rattle.sap_called.specs.Names.{name_line}
use Rattle.sap_called.proofs.names.push_names.Given as goal

abbrev pub invariant-loop-k : goal.invariant-loop-k
invariant-loop-k l = l.text ≡ l.initial.text ++ flat_map (name_line l.names) (take l.k l.names)
