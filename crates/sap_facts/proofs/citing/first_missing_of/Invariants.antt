use Rattle.std.proofs.Common.{take, nat_eq}
use Rattle.indexmap.specs.IndexSet.{contains}
use Rattle.sap_facts.specs.Cited.{left_of, AreTaken}
use Rattle.sap_facts.specs.code.Left.{IsLeft}
use Rattle.sap_facts.proofs.citing.first_missing_of.Given as goal

abbrev pub invariant-loop-at : goal.invariant-loop-at
invariant-loop-at g l =
    AreTaken (g.F.HasFacts.facts_of l.facts) (take l.at l.numbers) × IsLeft (g.F.HasFacts.facts_of l.facts) (contains nat_eq l.gone) (left_of (g.F.HasFacts.facts_of l.facts) (take l.at l.numbers))
