use Rattle.std.proofs.Common.{take}
use Rattle.sap_sides.specs.Forms.{HaveArgs}
use Rattle.sap_sides.proofs.evaluated.have_args.Given as goal

abbrev pub invariant-loop-k : goal.invariant-loop-k
invariant-loop-k l = HaveArgs (take l.k l.fs) (take l.k l.hs)
