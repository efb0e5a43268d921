use Rattle.std.proofs.Common.{◌≡◌, map, take}
use Rattle.sap_shapes.specs.Shapes.{binder}
use Rattle.sap_restrict.proofs.shape.binders.Given as goal

abbrev pub invariant-loop-k : goal.invariant-loop-k
invariant-loop-k l = l.binders ≡ map binder (take l.k l.letters)
