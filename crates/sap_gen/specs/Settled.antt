-- Facts with each that some rule takes replaced by what the rule adds.
use Rattle.std.specs.Prelude.{◌≡◌, List, [], ◌∷◌, ◌++◌}
use Rattle.sap_terms.specs.declared.fact.Fact.{Fact}
use Rattle.sap_rule.specs.declared.rule.Rule.{Rule}

-- the second facts are the first with each that one of the rules Q takes, and nothing else, replaced by what this rule adds, at its
-- position, until none is left
pub data IsSettled (Q : Rule → Type 0) : List Fact → List Fact → Type 0 where
  nothing_left : IsSettled Q [] []
  stays : {fs hs : List Fact} (f : Fact) → ((q : Rule) → Q q → q.left ≡ f ∷ [] → ⊥)
      → IsSettled Q fs hs → IsSettled Q (f ∷ fs) (f ∷ hs)
  goes_on : {fs hs : List Fact} (f : Fact) (q : Rule) → Q q → q.left ≡ f ∷ []
      → IsSettled Q (q.right ++ fs) hs → IsSettled Q (f ∷ fs) hs
