-- Silent rules with what they settle to, and rules that go with them: the conditions of the law on rules alone, all of them syntax.
use Rattle.std.specs.Prelude.{◌≡◌, ◌⊎◌, ◌↔◌, ℕ, false, List, [], ◌∷◌, Option, Some, None, All, Contains, map}
use Rattle.sap_terms.specs.FactNames.{fr_name, in_name, out_name}
use Rattle.sap_terms.specs.Signature.{HoldsBuiltins, Sig}
use Rattle.sap_terms.specs.Trace.{Trace}
use Rattle.sap_terms.specs.Tree.{variable}
use Rattle.sap_terms.specs.declared.fact.Fact.{Fact}
use Rattle.sap_terms.specs.declared.var.Var.{Var}
use Rattle.sap_rule.specs.WellMade.{IsWellMade}
use Rattle.sap_rule.specs.declared.rule.Rule.{Rule}
use Rattle.sap_translate.specs.Scoped.{FactsWithin}
use Rattle.sap_gen.specs.Carried.{IsFilledTrace}
use Rattle.sap_gen.specs.Settled.{IsSettled}

-- the rule takes one linear fact on variables, and shows nothing
pub record IsMove (q : Rule) : Type 0 where
  pub state : Fact
  pub left : q.left ≡ state ∷ []
  pub linear : state.persistent ≡ false
  pub vars : List Var
  pub args : state.args ≡ map variable vars
  pub acts : q.acts ≡ []

-- a silent rule, and the facts that its right side settles to, whose variables are among those that it takes
pub record Move (Q : Rule → Type 0) : Type 0 where
  pub rule : Rule
  pub shape : IsMove rule
  pub settled : List Fact
  pub settles : IsSettled Q rule.right settled
  pub scoped : FactsWithin shape.vars settled

-- for each name of facts the move that takes facts of this name, if there is one
abbrev pub Moves : (Rule → Type 0) → Type 0
Moves Q = List ℕ → Option (Move Q)

-- no move takes facts of the name of this
abbrev pub IsPlain : {Q : Rule → Type 0} → Moves Q → Fact → Type 0
IsPlain moves f = moves f.name ≡ None

-- so it is with each of these
abbrev pub ArePlain : {Q : Rule → Type 0} → Moves Q → List Fact → Type 0
ArePlain moves [] = Unit {0}
ArePlain moves (f ∷ fs) = IsPlain moves f × ArePlain moves fs

-- the fact is what a move takes, as the rule has it, or no move takes facts of its name
abbrev pub IsAsTaken : {Q : Rule → Type 0} → Moves Q → Fact → Type 0
IsAsTaken {Q} moves f =
    IsPlain moves f ⊎ ((m : Move Q) × (moves f.name ≡ Some m) × (f ≡ m.shape.state))

-- and with each of these
abbrev pub AreAsTaken : {Q : Rule → Type 0} → Moves Q → List Fact → Type 0
AreAsTaken moves [] = Unit {0}
AreAsTaken moves (f ∷ fs) = IsAsTaken moves f × AreAsTaken moves fs

-- s is r with its right side settled
pub record IsShortened (Q : Rule → Type 0) (r s : Rule) : Type 0 where
  pub name : s.name ≡ r.name
  pub left : s.left ≡ r.left
  pub acts : s.acts ≡ r.acts
  pub right : IsSettled Q r.right s.right

-- each silent rule is found among the moves by what it takes, and is one of the rules; each rule is silent, or takes plain facts and is
-- shortened to one of the short rules, and these are all of them; and each adds facts as they should be
pub record IsShortening (Q : Rule → Type 0) (moves : Moves Q)
    (rules shorts : List Rule) : Type 0 where
  pub found : (q : Rule) → Q q → (m : Move Q) × (m.rule ≡ q) × (moves m.shape.state.name ≡ Some m)
  pub named : (n : List ℕ) (m : Move Q) → moves n ≡ Some m → Q m.rule × (m.shape.state.name ≡ n)
  pub among : (q : Rule) → Q q → Contains rules q
  pub each : (r : Rule) → Contains rules r
      → Q r ⊎ (ArePlain moves r.left × ((s : Rule) × Contains shorts s × IsShortened Q r s))
  pub all_right : (r : Rule) → Contains rules r → AreAsTaken moves r.right
  pub back : (s : Rule) → Contains shorts s → (r : Rule) × Contains rules r × IsShortened Q r s
  pub in_plain : moves in_name ≡ None
  pub out_plain : moves out_name ≡ None
  pub fr_plain : moves fr_name ≡ None

-- well-made rules show the same as the short ones but for empty times, where the silent ones are these
abbrev pub ShorteningsShowTheSame : Type 0
ShorteningsShowTheSame =
    (g : Sig) (silent rules shorts : List Rule) (moves : Moves (Contains silent))
    → HoldsBuiltins g → All (IsWellMade g) rules
    → IsShortening (Contains silent) moves rules shorts
    → (tr : Trace) → IsFilledTrace g rules tr ↔ IsFilledTrace g shorts tr
