use Rattle.std.proofs.Common.{◌≡◌, ◌++◌, drop, map}
use Rattle.sap_judge.specs.code.Laid.{action, place}
use Rattle.sap_search.specs.View.{guard}
use Rattle.sap_judge.specs.code.Ready.{guards_of, seen_by}
use Rattle.sap_judge.proofs.laying.lay_guards.Given as goal

abbrev pub invariant-loop-k : goal.invariant-loop-k
invariant-loop-k l = record {
  guards : map guard l.out ++ guards_of l.trace (place l.spot) l.seen (map action (drop l.k l.actions)) ≡ guards_of l.trace (place l.spot) l.initial.seen (map action l.actions);
  seen : seen_by (place l.spot) l.seen (map action (drop l.k l.actions)) ≡ seen_by (place l.spot) l.initial.seen (map action l.actions);
}
