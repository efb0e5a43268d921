use Rattle.std.proofs.Common.{◌≡◌, ◌++◌, drop}
use Rattle.std.specs.Prelude.{flat_map}
use Rattle.sap_search.specs.View.{chosen_value}
use Rattle.sap_verdicts.specs.VerdictText.{choice_marks}
use Rattle.sap_verdicts.proofs.marks.push_found.Given as goal

abbrev pub invariant-loop-k : goal.invariant-loop-k
invariant-loop-k l =
    l.out ++ flat_map (λ c. choice_marks l.lines l.y.name.now (chosen_value c).binder (chosen_value c).value) (drop l.k l.choices)
    ≡ l.initial.out ++ flat_map (λ c. choice_marks l.lines l.y.name.now (chosen_value c).binder (chosen_value c).value) l.choices
