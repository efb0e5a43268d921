use Rattle.std.proofs.Common.{◌≡◌, map, take}
use Rattle.sap_terms.specs.Signature.{public_symbol}
use Rattle.sap_terms.proofs.signature.public_symbols.Given as goal

abbrev pub invariant-loop-row : goal.invariant-loop-row
invariant-loop-row l = l.symbols ≡ map (λ row. public_symbol row.0.now row.1) (take l.row-index l.rows)
