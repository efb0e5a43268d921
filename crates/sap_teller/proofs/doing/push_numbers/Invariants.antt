use Rattle.std.proofs.Common.{◌≡◌, ◌++◌, codes, decimal, map, take}
use Rattle.sap_grammar.specs.Pieces.{joined}
use Rattle.sap_teller.proofs.doing.push_numbers.Given as goal

abbrev pub invariant-loop-k : goal.invariant-loop-k
invariant-loop-k l = l.text ≡ l.initial.text ++ joined (codes ",") (map decimal (take l.k l.numbers))
