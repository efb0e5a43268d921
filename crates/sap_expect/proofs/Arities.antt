-- Digits of arities, from the left.
use Rattle.std.proofs.Common.{rules, ◌≡◌, ◌≤◌, ◌<◌, ◌+◌, ◌*◌, ◌-◌, ℕ, true, false, List, [], ◌∷◌, ap, ◌∙◌, arith}
use Rattle.std.specs.Prelude.{nat_le}
use Rattle.sap_terms.specs.declared.limits.TheConstants.{MOST_ARITY}
use Rattle.sap_grammar.specs.Declarations.{value_from, value}
use Rattle.sap_expect.specs.FileTable.{is_arity}

-- what comes later makes no value smaller
value_grows : (n : ℕ) (ds : List ℕ) → n ≤ value_from n ds
value_grows n [] = omega arith
value_grows n (d ∷ ds) = omega (arith, value_grows (n * 10 + (d - 48)) ds)

too_large : (m : ℕ) → MOST_ARITY < m → nat_le m MOST_ARITY ≡ false
too_large m lt = search rules

small : (m : ℕ) → m ≤ MOST_ARITY → nat_le m MOST_ARITY ≡ true
small m le = search rules

-- a part that is too large makes the whole too large
pub arity_stop : (all ds : List ℕ) (n : ℕ) → value all ≡ value_from n ds → MOST_ARITY < n → is_arity all ≡ false
arity_stop all ds n e lt = too_large (value all) (omega (arith, e, lt, value_grows n ds))

pub arity_end : (all ds : List ℕ) (n : ℕ) → value all ≡ value_from n ds → ds ≡ [] → n ≤ MOST_ARITY → is_arity all ≡ true
arity_end all ds n e none le =
    let same : value all ≡ n = e ∙ ap (λ (y : List ℕ). value_from n y) none in
    small (value all) (omega (arith, same, le))
