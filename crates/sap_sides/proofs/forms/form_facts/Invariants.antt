use Rattle.sap_share.specs.Shared.{Keeps}
use Rattle.std.proofs.Common.{length, map, take}
use Rattle.sap_share.specs.Env.{given}
use Rattle.sap_sides.specs.SharedFacts.{fact_seen, AreFactsBelow}
use Rattle.sap_sides.proofs.Formed.{AreFactsFormed}
use Rattle.sap_sides.proofs.forms.form_facts.Given as goal

abbrev pub invariant-loop-k : goal.invariant-loop-k
invariant-loop-k l = record {
  formed : AreFactsFormed l.initial.table.sig (given l.initial.table.trees l.env) (take l.k l.fs) (map (fact_seen l.table.trees) l.shared.items);
  below : AreFactsBelow (length l.table.trees) l.shared.items;
  keeps : Keeps l.initial.table l.table;
}
