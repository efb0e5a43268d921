use Rattle.std.proofs.Common.{◌≡◌, ℕ, List, sym, subst, ◌∙◌}
use Rattle.sap_read.specs.declared.fault.ReadFault.TheVariants.{Parameters}
use Rattle.sap_where.specs.Parameters.{IsParameter}
use Rattle.sap_where.specs.Where.{HoldsOnce}
use Rattle.sap_where.proofs.other.other_among.Goals as goal

same_name : (x y : List ℕ) → Parameters x ≡ Parameters y → x ≡ y
same_name x y e = cc

pub returns-in-Parameters-clause-once : goal.returns-in-Parameters-clause-once
returns-in-Parameters-clause-once c = λ x e none.
    subst (λ (y : List ℕ). (i : ℕ) → HoldsOnce (IsParameter c.args.bytes.now c.args.tokens.now y i)) (same_name _ x (sym c.in-Parameters.is ∙ e))
    (c.first_parameter.ensures.once none)
