-- Rules, and shorter ones that carry out at once what silent rules do.
use Rattle.std.specs.Prelude.{◌≡◌, ◌⊎◌, ◌↔◌, ℕ, Bool, false, List, [], ◌∷◌, ◌++◌, Option, Some, None, All, Contains, cond, slice_get}
use Rattle.std.specs.List.{flat_map}
use Rattle.sap_terms.specs.AdversaryFacts.{in_fact, out_fact, fr_fact}
use Rattle.sap_terms.specs.Choice.{Choice}
use Rattle.sap_terms.specs.Equations.{Equations, equations}
use Rattle.sap_terms.specs.Normal.{IsNormal}
use Rattle.sap_terms.specs.Signature.{Sig}
use Rattle.sap_terms.specs.Trace.{Trace}
use Rattle.sap_formula.specs.Filled.{filled}
use Rattle.sap_terms.specs.Tree.{Tree}
use Rattle.sap_terms.specs.declared.fact.Fact.{Fact}
use Rattle.sap_rule.specs.RuleSteps.{RuleState, RuleRun, IsUse}
use Rattle.sap_rule.specs.declared.rule.Rule.{Rule}
use Rattle.sap_translate.specs.relation.Totals.{total}

-- 1 for a fact that passes the test
abbrev pub count : (Fact → Bool) → Fact → ℕ
count test f = cond (test f) 1 0

-- so many of the facts do
abbrev pub counts : (Fact → Bool) → List Fact → ℕ
counts test fs = total (count test) fs

-- the same facts, each as often
abbrev pub AreAlike : List Fact → List Fact → Type 0
AreAlike fs hs = (test : Fact → Bool) → counts test fs ≡ counts test hs

-- of a fact of a pile, which may be taken already, how many of those that it will be pass the test
abbrev pub count_after : (Fact → List Fact) → (Fact → Bool) → Option Fact → ℕ
count_after after test None = 0
count_after after test (Some f) = counts test (after f)

-- the fact stays as it is
abbrev pub Stays : (Fact → List Fact) → Fact → Type 0
Stays after f = after f ≡ f ∷ []

-- the arguments of the facts are normal
abbrev pub AreNormalFacts : Equations → List Fact → Type 0
AreNormalFacts e fs = All (λ (f : Fact). All (IsNormal e) f.args) fs

-- those of the facts that are live are
abbrev pub HoldsNormal : Equations → RuleState → Type 0
HoldsNormal e s = (k : ℕ) (f : Fact) → slice_get s.facts k ≡ Some (Some f) → All (IsNormal e) f.args

-- the rule shows nothing, and what it adds will be what it took would have been
abbrev pub IsSilent : Sig → (Fact → List Fact) → Rule → Type 0
IsSilent g after r =
    (σ : Choice) (left acts right : List Fact) → AreNormalFacts (equations g) left
    → IsUse g r σ left acts right
    → (acts ≡ []) × All (λ (f : Fact). f.persistent ≡ false) left
    × AreAlike (flat_map after left) (flat_map after right)

-- s takes what r takes, all of which stays as it is; it shows what r shows, and adds what r's facts will be
abbrev pub Carries : Sig → (Fact → List Fact) → Rule → Rule → Type 0
Carries g after r s =
    (σ : Choice) (left acts right : List Fact) → AreNormalFacts (equations g) left
    → IsUse g r σ left acts right
    → All (Stays after) left × ((added : List Fact) × IsUse g s σ left acts added
    × AreAlike (flat_map after right) (flat_map (λ f. f ∷ []) added))

-- each rule is silent, or carried by one of the short ones; what the adversary makes and takes stays as it is
pub record AreCarried (g : Sig) (after : Fact → List Fact) (rules shorts : List Rule) : Type 0 where
  pub each : (r : Rule) → Contains rules r
      → IsSilent g after r ⊎ ((s : Rule) × Contains shorts s × Carries g after r s)
  pub in_stays : (t : Tree) → Stays after (in_fact t)
  pub out_stays : (t : Tree) → Stays after (out_fact t)
  pub fr_stays : (n : ℕ) → Stays after (fr_fact n)

-- the short state has what the other's facts will be, each as often; knowledge and names are the same
pub record IsMatchedBy (after : Fact → List Fact) (s z : RuleState) : Type 0 where
  pub facts : (test : Fact → Bool)
      → total (count_after after test) s.facts ≡ total (count_after (λ f. f ∷ []) test) z.facts
  pub known : z.known ≡ s.known
  pub made : z.made ≡ s.made

-- by silent rules, one after another, the facts become those, up to order
pub data SettleTo (g : Sig) (rules : List Rule) : List Fact → List Fact → Type 0 where
  done : {fs hs : List Fact} → AreAlike fs hs → SettleTo g rules fs hs
  step : {fs hs : List Fact} (rest : List Fact) (q : Rule) (τ : Choice) (f : Fact)
      (more : List Fact) → Contains rules q → IsUse g q τ (f ∷ []) [] more
      → f.persistent ≡ false → AreAlike fs (f ∷ rest) → SettleTo g rules (more ++ rest) hs
      → SettleTo g rules fs hs

-- each use of a short rule is a use of a rule that takes and shows the same, and what this adds settles to what that adds
pub record AreExpanded (g : Sig) (rules shorts : List Rule) : Type 0 where
  pub each : (s : Rule) → Contains shorts s → (r : Rule) × Contains rules r
      × ((σ : Choice) (left acts added : List Fact) → IsUse g s σ left acts added
      → (right : List Fact) × IsUse g r σ left acts right × SettleTo g rules right added)

-- this is the full trace of a run of the rules, but for empty times
abbrev pub IsFilledTrace : Sig → List Rule → Trace → Type 0
IsFilledTrace g rules tr =
    (s : RuleState) × (full : Trace) × RuleRun g rules s full × (filled full ≡ tr)

-- where runs hold normal facts alone, rules and short rules that carry them, and whose uses they expand, show the same but for empty
-- times
abbrev pub CarriedRulesShowTheSame : Type 0
CarriedRulesShowTheSame =
    (g : Sig) (after : Fact → List Fact) (rules shorts : List Rule)
    → ((s : RuleState) (full : Trace) → RuleRun g rules s full → HoldsNormal (equations g) s)
    → AreCarried g after rules shorts → AreExpanded g rules shorts
    → (tr : Trace) → IsFilledTrace g rules tr ↔ IsFilledTrace g shorts tr
