use Rattle.std.proofs.Common.{take}
use Rattle.sap_share.specs.Shared.{Keeps}
use Rattle.sap_heads.specs.code.Forms.{AreFormed}
use Rattle.sap_heads.proofs.forms.forms.Given as goal

abbrev pub invariant-loop-i : goal.invariant-loop-i
invariant-loop-i l = record {
  formed : AreFormed l.initial.table l.env (take l.i l.ts) l.out;
  keeps : Keeps l.initial.table l.table;
}
