use Rattle.sap_share.specs.Shared.{Keeps}
use Rattle.std.proofs.Common.{◌≡◌, length, take}
use Rattle.sap_share.specs.Env.{AreBound, bindings_of}
use Rattle.sap_sides.proofs.bindings.number_bindings.Given as goal

abbrev pub invariant-loop-i : goal.invariant-loop-i
invariant-loop-i l = record {
  are : bindings_of l.table.trees l.env ≡ take l.i l.b;
  bound : AreBound (length l.table.trees) l.env;
  keeps : Keeps l.initial.table l.table;
}
