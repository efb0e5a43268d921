use Rattle.std.proofs.Common.{◌≡◌, ◌++◌, map, take}
use Rattle.std.specs.Prelude.{codes}
use Rattle.sap_grammar.specs.Pieces.{joined}
use Rattle.sap_grammar.specs.FactText.{fact_text}
use Rattle.sap_grammar.proofs.fact_text.push_each_fact.Given as goal

abbrev pub invariant-loop-k : goal.invariant-loop-k
invariant-loop-k l = l.text ≡ l.initial.text ++ joined (codes ", ") (map fact_text (take l.k l.facts))
