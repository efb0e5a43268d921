-- Short rules.
use Rattle.std.specs.Prelude.{List, [], ◌∷◌}
use Rattle.sap_process.specs.Proc.{Proc}
use Rattle.sap_rule.specs.declared.rule.Rule.{Rule}
use Rattle.sap_terms.specs.declared.fact.Fact.{Fact}
use Rattle.sap_templates.specs.Templates.{rules_of}
use Rattle.sap_gen.specs.Settled.{IsSettled}
use Rattle.sap_gen.specs.Silent.{IsSilentRule}

-- the second rules are the first without the silent ones of the process, in order, each with its right side settled
pub data AreShort (p : Proc) : List Rule → List Rule → Type 0 where
  no_rules : AreShort p [] []
  drops : {r : Rule} {rs ss : List Rule} → IsSilentRule p r → AreShort p rs ss
      → AreShort p (r ∷ rs) ss
  keeps : {r : Rule} {rs ss : List Rule} {right : List Fact} → (IsSilentRule p r → ⊥)
      → IsSettled (IsSilentRule p) r.right right → AreShort p rs ss
      → AreShort p (r ∷ rs) (record r { right = right } ∷ ss)

-- these are the short rules of the process
abbrev pub AreShortRulesOf : Proc → List Rule → Type 0
AreShortRulesOf p ss = AreShort p (rules_of p) ss
