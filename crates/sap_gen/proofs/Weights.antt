-- Sums of weights over piles.
use Rattle.std.proofs.Common.{◌≡◌, ◌+◌, List, [], ◌∷◌, Some, Bool, false, cond, map, refl, sym, ap, ◌∙◌, arith}
use Rattle.std.specs.Prelude.{All}
use Rattle.std.specs.List.{flat_map}
use Rattle.std.proofs.lemmas.List.Elements.{All-head, All-tail}
use Rattle.sap_terms.specs.declared.fact.Fact.{Fact}
use Rattle.sap_terms.specs.Piles.{Pile, adds}
use Rattle.sap_translate.proofs.Shared.Takings.{spent}
use Rattle.sap_translate.proofs.Shared.Totals.{total-append}
use Rattle.sap_translate.specs.relation.Totals.{total}
use Rattle.sap_gen.specs.Carried.{count, counts, count_after}

-- what is added weighs what it will be
pub added_total : (after : Fact → List Fact) (test : Fact → Bool) (fs : List Fact) → total (count_after after test) (map Some fs) ≡ counts test (flat_map after fs)
added_total after test [] = refl
added_total after test (f ∷ fs) =
    ap (λ n. counts test (after f) + n) (added_total after test fs) ∙ sym (total-append (count test) (after f) (flat_map after fs))

pub adds_total : (after : Fact → List Fact) (test : Fact → Bool) (facts : Pile) (fs : List Fact)
    → total (count_after after test) (adds facts fs) ≡ total (count_after after test) facts + counts test (flat_map after fs)
adds_total after test facts fs =
    total-append (count_after after test) facts (map Some fs) ∙ ap (λ n. total (count_after after test) facts + n) (added_total after test fs)

-- linear facts are used up
pub linear_spent : (after : Fact → List Fact) (test : Fact → Bool) (fs : List Fact) → All (λ (f : Fact). f.persistent ≡ false) fs
    → total (spent (count_after after test)) fs ≡ counts test (flat_map after fs)
linear_spent after test [] h = refl
linear_spent after test (f ∷ fs) h =
    let P : Fact → Type 0 = λ (g : Fact). g.persistent ≡ false in
    let head : f.persistent ≡ false = All-head P f fs h in
    let tail = linear_spent after test fs (All-tail P f fs h) in
    let here : spent (count_after after test) f ≡ counts test (after f) = ap (λ (b : Bool). cond b 0 (counts test (after f))) head in
    omega (arith, here, tail, total-append (count test) (after f) (flat_map after fs))
