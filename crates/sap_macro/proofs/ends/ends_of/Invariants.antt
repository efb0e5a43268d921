use Rattle.std.proofs.Common.{◌≡◌, length}
use Rattle.sap_macro.specs.Sources.{definitions}
use Rattle.sap_macro.specs.code.Ending.{AreFirstEnds}
use Rattle.sap_macro.proofs.ends.ends_of.Given as goal

abbrev pub invariant-loop : goal.invariant-loop
invariant-loop l = record {
  long : length l.ends ≡ l.counter;
  first : AreFirstEnds (definitions l.defs) l.ends;
}
