use Rattle.std.proofs.Common.{◌≡◌, drop, take, length}
use Rattle.sap_terms.specs.Signature.{declared_all}
use Rattle.sap_terms.proofs.signature.declare_each.Given as goal

-- what is left to declare leads to the same symbols, and those that were stand in front
abbrev pub invariant-loop-s : goal.invariant-loop-s
invariant-loop-s l =
    (declared_all l.initial.symbols l.added ≡ declared_all l.symbols (drop l.s-index l.s-items)) × (take (length l.initial.symbols) l.symbols ≡ l.initial.symbols)
