use Rattle.std.proofs.Common.{◌≡◌, [], ◌∷◌, map, take}
use Rattle.sap_terms.specs.Tree.{variable}
use Rattle.sap_shapes.specs.Formulas.{any_message}
use Rattle.sap_restrict.proofs.shape.terms.Given as goal

abbrev pub invariant-loop-k : goal.invariant-loop-k
invariant-loop-k l = l.terms ≡ map (λ v. variable (any_message (v ∷ []))) (take l.k l.letters)
