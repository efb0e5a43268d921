use Rattle.std.proofs.Common.{◌≡◌, drop}
use Rattle.std.specs.Option.{option_copied}
use Rattle.sap_formula_words.specs.code.Faulty.{innermost}
use Rattle.sap_formula_words.proofs.faults.innermost.Given as goal

abbrev pub invariant-loop-k : goal.invariant-loop-k
invariant-loop-k l = innermost l.name l.bs (option_copied l.inner) ≡ innermost l.name (drop l.k l.bs) (option_copied l.found)
