-- Rules run: states, steps and full traces.
use Rattle.std.specs.Prelude.{◌≡◌, ℕ, List, [], ◌∷◌, ◌++◌, Some, length, All, Contains}
use Rattle.sap_terms.specs.AdversaryFacts.{k_fact, in_fact, out_fact, fr_fact}
use Rattle.sap_terms.specs.Choice.{Choice}
use Rattle.sap_terms.specs.Message.{IsMessageChoice}
use Rattle.sap_terms.specs.Modulo.{instance_facts, AreEqualFacts, AreFormsOfFacts}
use Rattle.sap_terms.specs.Normal.{IsNormalForm}
use Rattle.sap_terms.specs.Piles.{Pile, Takes, adds}
use Rattle.sap_terms.specs.Signature.{Sig, IsPublic, arity_of}
use Rattle.sap_terms.specs.Equations.{equations}
use Rattle.sap_terms.specs.Trace.{Trace}
use Rattle.sap_terms.specs.Tree.{Tree, public, fresh, apply, trees_of}
use Rattle.sap_terms.specs.declared.fact.Fact.{Fact}
use Rattle.sap_rule.specs.declared.rule.Rule.{Rule}

-- where a run of rules stands
pub record RuleState : Type 0 where
  -- the facts by their numbers: none where one was taken
  pub facts : Pile
  -- the terms that the adversary knows, in order of coming
  pub known : List Tree
  -- the names that Fr was made of, in order of coming
  pub made : List ℕ

-- where each run starts
abbrev pub empty_state : RuleState
empty_state = record { facts = []; known = []; made = [] }

-- the state, where Fr is made of one more name
abbrev pub makes : RuleState → ℕ → RuleState
makes s n = record { facts = adds s.facts (fr_fact n ∷ []); known = s.known; made = s.made ++ n ∷ [] }

-- where the adversary knows one more term
abbrev pub gains : RuleState → Tree → RuleState
gains s t = record { facts = s.facts; known = s.known ++ t ∷ []; made = s.made }

-- where this is left of the facts
abbrev pub leaves : RuleState → Pile → RuleState
leaves s rest = record { facts = rest; known = s.known; made = s.made }

-- the rule's left side under the choice is theory-equal to the facts taken; the acts and the facts added are the normal
-- forms of its other sides
pub record IsUse (g : Sig) (r : Rule) (σ : Choice) (left acts right : List Fact) : Type 0 where
  pub messages : IsMessageChoice g σ
  pub takes : AreEqualFacts (equations g) (instance_facts σ r.left) left
  pub shows : AreFormsOfFacts (equations g) (instance_facts σ r.acts) acts
  pub adds : AreFormsOfFacts (equations g) (instance_facts σ r.right) right

-- the old state, what is shown, the new state
pub data RuleStep (g : Sig) (rules : List Rule) : RuleState → List Fact → RuleState → Type 0 where
  -- Fr is made of a name that it was not made of
  makes_name : {s : RuleState} (n : ℕ) → ¬ Contains s.made n → RuleStep g rules s [] (makes s n)
  -- the adversary learns what was put out
  learns : {s : RuleState} {rest : Pile} (k : ℕ) (t : Tree)
      → Takes s.facts (k ∷ []) (out_fact t ∷ []) rest
      → RuleStep g rules s [] (gains (leaves s rest) t)
  -- it takes a name that Fr was made of
  owns : {s : RuleState} {rest : Pile} (k n : ℕ) → Takes s.facts (k ∷ []) (fr_fact n ∷ []) rest
      → RuleStep g rules s [] (gains (leaves s rest) (fresh n))
  -- it knows a public name
  knows_public : {s : RuleState} (a : List ℕ) → RuleStep g rules s [] (gains s (public a))
  -- it applies a public symbol to terms that it knows
  applies : {s : RuleState} (f : List ℕ) (ts : List Tree) (t : Tree) → IsPublic g f
      → arity_of g f ≡ Some (length ts) → All (Contains s.known) ts
      → IsNormalForm (equations g) (apply f (trees_of ts)) t → RuleStep g rules s [] (gains s t)
  -- it gives a term that it knows
  gives : {s : RuleState} (t : Tree) → Contains s.known t
      → RuleStep g rules s (k_fact t ∷ []) (leaves s (adds s.facts (in_fact t ∷ [])))
  -- a rule takes its left side, shows its acts and adds its right side
  uses : {s : RuleState} {rest : Pile} (r : Rule) (ks : List ℕ) (σ : Choice)
      (left acts right : List Fact) → Contains rules r → Takes s.facts ks left rest
      → IsUse g r σ left acts right → RuleStep g rules s acts (leaves s (adds rest right))

-- from the empty state a run leads to this state, and what its steps show, time by time, is this full trace
pub data RuleRun (g : Sig) (rules : List Rule) : RuleState → Trace → Type 0 where
  starts : RuleRun g rules empty_state []
  further : {s z : RuleState} {full : Trace} {acts : List Fact} → RuleRun g rules s full
      → RuleStep g rules s acts z → RuleRun g rules z (full ++ acts ∷ [])

-- this is the full trace of some run of the rules
abbrev pub IsFullTrace : Sig → List Rule → Trace → Type 0
IsFullTrace g rules full = (s : RuleState) × RuleRun g rules s full
