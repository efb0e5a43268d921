-- What the walk through right sides rests on, what it costs, and where it stands.
use Rattle.std.specs.Prelude.{◌≡◌, ◌<◌, ◌-◌, ◌^◌, ℕ, suc, List, [], ◌∷◌, ◌++◌, Option, Some, None, MatchOption, length, map, reverse, slice_get}
use denote.Ref.{Bor}
use Rattle.sap_terms.specs.NameMap.{value_at}
use Rattle.sap_terms.specs.declared.fact.Fact.{Fact}
use Rattle.sap_formula.specs.Truth.{EachIn}
use Rattle.sap_process.specs.Proc.{Proc}
use Rattle.sap_rule.specs.declared.rule.Rule.{Rule}
use Rattle.sap_translate.specs.relation.Totals.{total}
use Rattle.sap_gen.specs.Settled.{IsSettled}
use Rattle.sap_gen.specs.Silent.{IsSilentRule}

-- by the names of facts, the indexes of the silent rules that take them
abbrev pub Takers : Type 0
Takers = List (List ℕ × ℕ)

-- the bytes of the names of all facts that rules take: none of these names is longer
abbrev pub name_bytes : List Rule → ℕ
name_bytes rules = total (λ (r : Rule). total (λ (f : Fact). length f.name) r.left) rules

-- what it costs to look at a fact of this name: where a rule takes it, more than to look at what
-- that adds, since names of state facts are the longer the deeper their place
abbrev pub cost_at : ℕ → Option ℕ → List ℕ → ℕ
cost_at most None name = 1
cost_at most (Some k) name = 4 ^ (suc most - length name)

abbrev pub cost : List Rule → Takers → Fact → ℕ
cost rules takers f = cost_at (name_bytes rules) (value_at takers f.name) f.name

-- rule k is silent, takes this fact alone, and costs less to go on with
pub record IsTakenBy (p : Proc) (rules : List Rule) (takers : Takers) (f : Fact) (k : ℕ)
    : Type 0 where
  pub rule : Rule
  pub at : slice_get rules k ≡ Some rule
  pub silent : IsSilentRule p rule
  pub takes : rule.left ≡ f ∷ []
  pub cheaper : total (cost rules takers) rule.right < cost rules takers f

-- the takers tell rightly of a fact which silent rule takes it, or that none does
abbrev pub IsToldRight : Proc → List Rule → Takers → Fact → Type 0
IsToldRight p rules takers f =
    MatchOption (value_at takers f.name) ((q : Rule) → IsSilentRule p q → q.left ≡ f ∷ [] → ⊥)
    (λ k. IsTakenBy p rules takers f k)

-- so they do of each fact on right sides of the rules
abbrev pub TellRight : Proc → List Rule → Takers → Type 0
TellRight p rules takers =
    (k : ℕ) (r : Rule) → slice_get rules k ≡ Some r → EachIn (IsToldRight p rules takers) r.right

-- and of each of these facts
pub record CanWalk (rules : List Rule) (takers : Takers) (facts : List Fact) (p : Proc)
    : Type 0 where
  pub tell : TellRight p rules takers
  pub told : EachIn (IsToldRight p rules takers) facts

-- the facts that are ahead, in turn, where the next one is kept last
abbrev pub ahead_of : List (Bor Fact) → List Fact
ahead_of fs = reverse (map (λ (f : Bor Fact). f.now) fs)

-- the fact was looked at: a rule takes it, and what that adds is ahead in its place, or none does,
-- and it stands last of what has settled
abbrev pub IsLookedAt : List Rule → Takers → Fact → List Fact → List Fact → List Fact → List Fact
    → Type 0
IsLookedAt rules takers f ahead more settled longer =
    MatchOption (value_at takers f.name) ((more ≡ ahead) × (longer ≡ settled ++ f ∷ []))
    (λ k. (q : Rule) × (slice_get rules k ≡ Some q) × (more ≡ q.right ++ ahead)
    × (longer ≡ settled))

-- for each process of which the takers tell rightly, the facts settle to these
abbrev pub IsSettlingOf : List Rule → Takers → List Fact → List Fact → Type 0
IsSettlingOf rules takers facts settled =
    (p : Proc) → CanWalk rules takers facts p → IsSettled (IsSilentRule p) facts settled

-- so far these have settled, and those are ahead
pub record IsUnderWay (rules : List Rule) (takers : Takers) (facts ahead settled : List Fact)
    (p : Proc) : Type 0 where
  pub can : CanWalk rules takers ahead p
  pub leads : (rest : List Fact) → IsSettled (IsSilentRule p) ahead rest
      → IsSettled (IsSilentRule p) facts (settled ++ rest)
