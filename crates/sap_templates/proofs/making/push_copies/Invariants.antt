use Rattle.std.proofs.Common.{◌≡◌, ◌++◌, take}
use Rattle.sap_templates.proofs.making.push_copies.Given as goal

abbrev pub invariant-loop-other : goal.invariant-loop-other
invariant-loop-other l = l.facts ≡ l.initial.facts ++ take l.other-index l.others
