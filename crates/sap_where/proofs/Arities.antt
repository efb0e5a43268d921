-- Digits of an arity.
use Rattle.std.proofs.Common.{rules, ◌≡◌, ◌≤◌, ◌<◌, ◌+◌, ◌*◌, ◌-◌, ℕ, false, List, [], ◌∷◌, None, refl, arith}
use Rattle.std.specs.Prelude.{nat_le}
use Rattle.sap_terms.specs.declared.limits.TheConstants.{MOST_ARITY}
use Rattle.sap_grammar.specs.Declarations.{value, value_from}
use Rattle.sap_grammar.specs.ItemReading.{arity_of_digits}

-- what comes later makes no value smaller
value_grows : (n : ℕ) (ds : List ℕ) → n ≤ value_from n ds
value_grows n [] = omega arith
value_grows n (d ∷ ds) = omega (arith, value_grows (n * 10 + (d - 48)) ds)

too_large : (m : ℕ) → MOST_ARITY < m → nat_le m MOST_ARITY ≡ false
too_large m lt = search rules

-- a part that is too large makes the whole too large
pub arity_stop : (all ds : List ℕ) (n : ℕ) → value all ≡ value_from n ds → MOST_ARITY < n → arity_of_digits all ≡ None
arity_stop all ds n e lt = rw (too_large (value all) (omega (arith, e, lt, value_grows n ds))) refl
