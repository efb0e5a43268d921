-- Which silent rules take which facts, as the code reads it off names.
use Rattle.std.specs.Prelude.{◌≡◌, ◌<◌, ℕ, true, false, length, List, [], ◌∷◌, Option, Some, None, MatchOption, if◌then◌else◌, slice_get}
use Rattle.sap_terms.specs.NameMap.{Puts, value_at}
use Rattle.sap_terms.specs.declared.fact.Fact.{Fact}
use Rattle.sap_rule.specs.declared.rule.Rule.{Rule}
use Rattle.sap_process.specs.Proc.{Proc}
use Rattle.sap_silent.specs.SilentNames.{is_silent_name}
use Rattle.sap_gen.specs.Silent.{IsSilentRule}
use Rattle.sap_gen.specs.code.Walks.{Takers, TellRight}

-- the first fact's name
abbrev pub taken_first : List Fact → Option (List ℕ)
taken_first [] = None
taken_first (f ∷ fs) = Some f.name

-- the name of what the rule takes, if it is silent
abbrev pub taken_name : Rule → Option (List ℕ)
taken_name r = if is_silent_name r.name then taken_first r.left else None

-- behind rule k, the takers tell of it too, if it is silent
abbrev pub Notes : Takers → Takers → Rule → ℕ → Type 0
Notes old new r k = MatchOption (taken_name r) (new ≡ old) (λ n. Puts old new n (Some k))

-- the takers are the silent ones among the first rules
pub record AreTakers (rules : List Rule) (k : ℕ) (takers : Takers) : Type 0 where
  pub sound : (n : List ℕ) (j : ℕ) → value_at takers n ≡ Some j
      → (r : Rule) × (slice_get rules j ≡ Some r) × (taken_name r ≡ Some n)
  pub complete : (j : ℕ) (r : Rule) (n : List ℕ) → j < k → slice_get rules j ≡ Some r
      → taken_name r ≡ Some n → value_at takers n ≡ None → ⊥

-- names tell of each rule whether it is silent, and its takers tell rightly of each fact on right
-- sides
pub record NamesTell (p : Proc) (rules : List Rule) : Type 0 where
  pub yes : (k : ℕ) (r : Rule) → slice_get rules k ≡ Some r → is_silent_name r.name ≡ true
      → IsSilentRule p r
  pub no : (k : ℕ) (r : Rule) → slice_get rules k ≡ Some r → is_silent_name r.name ≡ false
      → IsSilentRule p r → ⊥
  pub takers : (takers : Takers) → AreTakers rules (length rules) takers
      → TellRight p rules takers
