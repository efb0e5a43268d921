-- The rule that a name finds.
use Rattle.std.proofs.Common.{◌≡◌, ℕ, Bool, true, false, List, [], ◌∷◌, Some, refl, sym, ap, subst, ◌∙◌}
use Rattle.std.specs.Prelude.{Contains}
use Rattle.std.specs.Str.{bytes_eq}
use Rattle.sap_terms.proofs.PlainLaws.Items.{first_item, later_item}
use Rattle.sap_rule.specs.Named.{rule_named}
use Rattle.sap_rule.specs.declared.rule.Rule.{Rule}
use Rattle.sap_translate.proofs.Shared.Facts.{same_name_true}

-- it is one of the rules
pub found_among : (rs : List Rule) (name : List ℕ) (r : Rule) → rule_named rs name ≡ Some r → Contains rs r
found_among [] name r e = absurd (cc)
found_among (q ∷ rs) name r e = by (bytes_eq q.name name) refl (found_among rs name r)
  where
    some_rule : (x y : Rule) → Some x ≡ Some y → x ≡ y
    some_rule x y i = cc

    by : (b : Bool) → bytes_eq q.name name ≡ b → (rule_named rs name ≡ Some r → Contains rs r) → Contains (q ∷ rs) r
    by true t more = let same : Some q ≡ Some r = (let h : Some q ≡ rule_named (q ∷ rs) name = rw t refl in h ∙ e) in subst (λ z. Contains (q ∷ rs) z) (some_rule q r same) (first_item q rs)
    by false t more = later_item q rs r (more ((let h : rule_named rs name ≡ rule_named (q ∷ rs) name = rw t refl in h) ∙ e))

-- and it has that name
pub found_named : (rs : List Rule) (name : List ℕ) (r : Rule) → rule_named rs name ≡ Some r → r.name ≡ name
found_named [] name r e = absurd (cc)
found_named (q ∷ rs) name r e = by (bytes_eq q.name name) refl (found_named rs name r)
  where
    some_rule : (x y : Rule) → Some x ≡ Some y → x ≡ y
    some_rule x y i = cc

    by : (b : Bool) → bytes_eq q.name name ≡ b → (rule_named rs name ≡ Some r → r.name ≡ name) → r.name ≡ name
    by true t more = let h : Some q ≡ rule_named (q ∷ rs) name = rw t refl in let same = some_rule q r (h ∙ e) in ap (λ (z : Rule). z.name) (sym same) ∙ same_name_true q.name name t
    by false t more = more ((let h : rule_named rs name ≡ rule_named (q ∷ rs) name = rw t refl in h) ∙ e)
