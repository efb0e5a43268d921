use Rattle.std.proofs.Common.{◌≡◌, ◌++◌, map, take}
use Rattle.std.specs.Prelude.{codes}
use Rattle.sap_called.specs.NamedTerms.{named_fact}
use Rattle.sap_grammar.specs.Pieces.{joined}
use Rattle.sap_grammar.specs.FactText.{fact_text}
use Rattle.sap_called.proofs.facts.push_each_fact.Given as goal

abbrev pub invariant-loop-k : goal.invariant-loop-k
invariant-loop-k l = l.text ≡ l.initial.text ++ joined (codes ", ") (map (λ f. fact_text (named_fact l.names f)) (take l.k l.facts))
