-- Names of facts of control are of one path each.
use Rattle.std.proofs.Common.{◌≡◌, ℕ, ◌+◌, List, [], ◌∷◌, refl, arith}
use Rattle.sap_place.specs.StateFacts.{digits}
use Rattle.sap_translate.specs.relation.Names.{state_name, semi_name}

digits_same : (p q : List ℕ) → digits p ≡ digits q → p ≡ q
digits_same [] [] e = refl
digits_same [] (y ∷ q) e = absurd (cc)
digits_same (x ∷ p) [] e = absurd (cc)
digits_same (x ∷ p) (y ∷ q) e =
    let head : 48 + x ≡ 48 + y = cc in
    let tail : digits p ≡ digits q = cc in
    let same : x ≡ y = omega arith in
    let rest : p ≡ q = digits_same p q tail in
    cc

pub state_name_same : (p q : List ℕ) → state_name p ≡ state_name q → p ≡ q
state_name_same p q e = digits_same p q (cc)

pub semi_name_same : (p q : List ℕ) → semi_name p ≡ semi_name q → p ≡ q
semi_name_same p q e = digits_same p q (cc)
