use Rattle.std.proofs.Common.{drop}
use Rattle.sap_expect.proofs.KindTexts.{IsPut}
use Rattle.sap_expect.proofs.kind_text.push_others.Given as goal

abbrev pub invariant-loop-k : goal.invariant-loop-k
invariant-loop-k l = IsPut l.initial.text l.text l.kinds (drop l.k l.kinds)
