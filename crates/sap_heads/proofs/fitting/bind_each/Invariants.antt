use Rattle.std.proofs.Common.{◌≡◌, ◌++◌, length, take}
use Rattle.sap_share.specs.Env.{AreBound, bindings_of}
use Rattle.sap_share.specs.Shared.{Keeps}
use Rattle.sap_heads.proofs.fitting.bind_each.Given as goal

abbrev pub invariant-loop-i : goal.invariant-loop-i
invariant-loop-i l = record {
  is : bindings_of l.table.trees l.env ≡ bindings_of l.initial.table.trees l.initial.env ++ take l.i l.b;
  below : AreBound (length l.table.trees) l.env;
  keeps : Keeps l.initial.table l.table;
}
