-- How the list of short rules grows.
use Rattle.std.specs.Prelude.{◌≡◌, true, false, List, [], ◌∷◌, ◌++◌}
use Rattle.sap_terms.specs.declared.fact.Fact.{Fact}
use Rattle.sap_rule.specs.declared.rule.Rule.{Rule}
use Rattle.sap_rule.specs.declared.theory.Theory.{Theory}
use Rattle.sap_process.specs.Proc.{Proc}
use Rattle.sap_gen.specs.Short.{AreShort}
use Rattle.sap_silent.specs.SilentNames.{is_silent_name}
use Rattle.sap_gen.specs.code.Takers.{NamesTell}
use Rattle.sap_gen.specs.code.Walks.{IsSettlingOf, Takers}

-- the rule with its right side settled
pub record IsSettledRule (rules : List Rule) (takers : Takers) (r s : Rule) : Type 0 where
  pub right : List Fact
  pub settle : IsSettlingOf rules takers r.right right
  pub is : s ≡ record r { right = right }

-- a rule with a silent one's name is left out, any other stands last with its right side settled
pub record IsAddedRule (rules : List Rule) (takers : Takers) (r : Rule) (old new : List Rule)
    : Type 0 where
  pub silent : is_silent_name r.name ≡ true → new ≡ old
  pub other : is_silent_name r.name ≡ false
      → (s : Rule) × IsSettledRule rules takers r s × (new ≡ old ++ s ∷ [])

-- the second theory is the first, but that its rules are short, for each process of whose rules
-- names tell
pub record HasShortRules (t s : Theory) : Type 0 where
  pub rules : (p : Proc) → NamesTell p t.rules → AreShort p t.rules s.rules
  pub others : s ≡ record t { rules = s.rules }
