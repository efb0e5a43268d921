-- Small formulas, judged by hand as the code does.
use Rattle.std.proofs.Common.{◌≡◌, [], ◌∷◌, true, false, refl}
use Rattle.std.specs.Prelude.{codes}
use Rattle.sap_formula.specs.Examples.{a, x, fact, trace_a, trace_ab, only_a}
use Rattle.sap_formula.specs.Form.{action, exists}
use Rattle.sap_formula.specs.declared.binder.Binder.TheVariants.{Message, Time}
use Rattle.sap_judge.specs.code.Folded.{judged}

-- the judge looks at each fact
two_facts : judged only_a trace_ab ≡ false
two_facts = refl

one_fact : judged only_a trace_a ≡ true
one_fact = refl

-- x and #x in one quantifier
hidden : judged (exists (Message x ∷ Time (codes "x") ∷ []) (action (fact false (a ∷ [])) (codes "x"))) trace_a ≡ true
hidden = refl

hidden_nowhere : judged (exists (Message x ∷ Time (codes "x") ∷ []) (action (fact false (a ∷ [])) (codes "x"))) [] ≡ false
hidden_nowhere = refl
