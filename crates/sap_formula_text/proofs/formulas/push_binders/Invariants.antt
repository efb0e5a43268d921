use Rattle.std.proofs.Common.{◌≡◌, ◌++◌, drop}
use Rattle.sap_formula_text.specs.FormulaText.{binders_text}
use Rattle.sap_formula_text.proofs.formulas.push_binders.Given as goal

abbrev pub invariant-loop-binder : goal.invariant-loop-binder
invariant-loop-binder l = l.text ++ binders_text (drop l.binder-index l.binder-items) ≡ l.initial.text ++ binders_text l.binder-items
