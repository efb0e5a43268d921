use Rattle.std.proofs.Common.{◌≡◌, ◌++◌, take}
use Rattle.std.specs.Prelude.{codes}
use Rattle.sap_grammar.specs.Pieces.{joined}
use Rattle.sap_theory.proofs.statements.push_names.Given as goal

abbrev pub invariant-loop-k : goal.invariant-loop-k
invariant-loop-k l = l.text ≡ l.initial.text ++ joined (codes ", ") (take l.k l.names)
