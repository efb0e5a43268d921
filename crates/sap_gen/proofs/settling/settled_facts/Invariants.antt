use Rattle.sap_process.specs.Proc.{Proc}
use Rattle.sap_translate.specs.relation.Totals.{total}
use Rattle.sap_gen.specs.code.Walks.{CanWalk, IsUnderWay, ahead_of, cost}
use Rattle.sap_gen.proofs.settling.settled_facts.Given as goal

abbrev pub invariant-loop-f : goal.invariant-loop-f
invariant-loop-f l = (p : Proc) → CanWalk l.rules l.takers l.facts p → IsUnderWay l.rules l.takers l.facts (ahead_of l.ahead.items) l.settled p

abbrev pub decreases-loop-f : goal.decreases-loop-f
decreases-loop-f l = total (cost l.rules l.takers) (ahead_of l.ahead.items)
