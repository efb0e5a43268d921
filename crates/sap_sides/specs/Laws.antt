-- How facts keep what they are, fit one after another, and are evaluated.
use Rattle.std.specs.Prelude.{◌≡◌, ◌⊎◌, ◌+◌, ℕ, List, [], ◌++◌, Some, map, take, length, slice_get, All}
use Rattle.sap_terms.specs.Choice.{Choice, instance}
use Rattle.sap_terms.specs.Equations.{equations}
use Rattle.sap_terms.specs.Modulo.{instance_facts, AreFormsOfFacts}
use Rattle.sap_terms.specs.Signature.{Sig}
use Rattle.sap_terms.specs.Subst.{bound_to}
use Rattle.sap_terms.specs.Tree.{Tree, trees_of}
use Rattle.sap_terms.specs.declared.binding.Binding.{Binding}
use Rattle.sap_terms.specs.declared.fact.Fact.{Fact}
use Rattle.sap_rewrite.specs.Around.{all_outer_vars}
use Rattle.sap_share.specs.Env.{given, bindings_of}
use Rattle.sap_share.specs.Shared.{Shared, AreBelow, Keeps}
use Rattle.sap_share.specs.declared.env.Bound.{Bound}
use Rattle.sap_sides.specs.Fitting.{facts_outer_vars, FactFit, FactsFit, IsOnlyChoice, HasNoChoice}
use Rattle.sap_sides.specs.Forms.{SomeLarge, args_of}
use Rattle.sap_sides.specs.Messages.{IsSmallMessageFact, HasNoDestructor}
use Rattle.sap_sides.specs.SharedFacts.{fact_seen}
use Rattle.sap_sides.specs.declared.shared_fact.SharedFact.{SharedFact}

-- where numbers keep their meaning, a fact stays what it is
abbrev pub SharedFactsStay : Type 0
SharedFactsStay =
    (s t : Shared) (f : SharedFact) → Keeps s t → AreBelow (length s.trees) f.args → (fact_seen t.trees f ≡ fact_seen s.trees f) × AreBelow (length t.trees) f.args

-- what numbers give variables is what the bindings to their terms choose
abbrev pub NumbersGiveTerms : Type 0
NumbersGiveTerms = (ts : List Tree) (env : List Bound) → given ts env ≡ bound_to (bindings_of ts env)

-- how choices are found fact by fact
pub record FactsFitInTurn : Type 0 where
  -- no facts fit no facts, and nothing is bound for them
  pub none : (g : Sig) (b : List Binding) → IsOnlyChoice (FactsFit g [] []) (facts_outer_vars g []) b b
  -- behind the only choice for those before it, the only choice for a fact is the only one for all of them
  pub further : (g : Sig) (fs hs : List Fact) (k : ℕ) (f h : Fact) (b c d : List Binding) → slice_get fs k ≡ Some f → slice_get hs k ≡ Some h
      → IsOnlyChoice (FactsFit g (take k fs) (take k hs)) (facts_outer_vars g (take k fs)) b c → IsOnlyChoice (FactFit g f h) (all_outer_vars g (trees_of f.args)) c d
      → IsOnlyChoice (FactsFit g (take (k + 1) fs) (take (k + 1) hs)) (facts_outer_vars g (take (k + 1) fs)) b d
  -- where there is none for a fact behind the only choice for those before it, there is none for the whole list
  pub not : (g : Sig) (fs hs : List Fact) (k : ℕ) (f h : Fact) (b c : List Binding) → slice_get fs k ≡ Some f → slice_get hs k ≡ Some h
      → IsOnlyChoice (FactsFit g (take k fs) (take k hs)) (facts_outer_vars g (take k fs)) b c → HasNoChoice (FactFit g f h) (all_outer_vars g (trees_of f.args)) c
      → HasNoChoice (FactsFit g fs hs) (facts_outer_vars g fs) b

-- facts without destructors are turned into the facts that they fit
abbrev pub PlainFactsAreMet : Type 0
PlainFactsAreMet =
    (g : Sig) (σ : Choice) (fs hs : List Fact) → All (HasNoDestructor g) fs → FactsFit g fs hs σ → instance_facts σ fs ≡ hs

-- facts of messages within the limit are their own normal forms, and nothing in them is large
abbrev pub MessageFactsAreForms : Type 0
MessageFactsAreForms =
    (g : Sig) (hs : List Fact) → All (IsSmallMessageFact g) hs → AreFormsOfFacts (equations g) hs hs × (SomeLarge g (args_of hs) → ⊥)

-- what is large in two lists of facts is large in the first or in the second
pub record LargeInParts : Type 0 where
  pub front : (g : Sig) (σ : Choice) (fs hs : List Fact) → SomeLarge g (map (instance σ) (args_of fs)) → SomeLarge g (map (instance σ) (args_of (fs ++ hs)))
  pub back : (g : Sig) (σ : Choice) (fs hs : List Fact) → SomeLarge g (map (instance σ) (args_of hs)) → SomeLarge g (map (instance σ) (args_of (fs ++ hs)))
  pub cases : (g : Sig) (σ : Choice) (fs hs : List Fact) → SomeLarge g (map (instance σ) (args_of (fs ++ hs))) → SomeLarge g (map (instance σ) (args_of fs)) ⊎ SomeLarge g (map (instance σ) (args_of hs))
