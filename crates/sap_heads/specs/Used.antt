-- Rules that are used on facts under what is bound.
use Rattle.std.specs.Prelude.{List, ◌++◌, All}
use Rattle.sap_terms.specs.Choice.{Choice}
use Rattle.sap_terms.specs.Equations.{equations}
use Rattle.sap_terms.specs.Modulo.{instance_facts, AreFormsOfFacts}
use Rattle.sap_terms.specs.Variables.{facts_vars}
use Rattle.sap_terms.specs.declared.binding.Binding.{Binding}
use Rattle.sap_terms.specs.declared.fact.Fact.{Fact}
use Rattle.sap_process.specs.Heads.{facts_terms}
use Rattle.sap_share.specs.Env.{given}
use Rattle.sap_share.specs.Shared.{Shared}
use Rattle.sap_share.specs.declared.env.Bound.{Bound}
use Rattle.sap_sides.specs.Messages.{IsSmallMessageFact}
use Rattle.sap_lines.specs.Faults.{AreRight, FitsFacts, EvaluateLarge, EvaluateSmall}
use Rattle.sap_lines.specs.Lines.{left_open}
use Rattle.sap_lines.specs.declared.fault.PFault.{PFault}
use Rattle.sap_lines.specs.declared.fault.PFault.TheVariants.{Mem, BadBinding, NoMatch, TermLarge}
use Rattle.sap_heads.specs.Bound.{IsExtended}

-- what facts stand for
abbrev pub facts_given : Shared → List Bound → List Fact → List Fact
facts_given s env fs = instance_facts (given s.trees env) fs

-- what the three lists of a rule stand for, one after another
abbrev pub rule_given : Shared → List Bound → List Fact → List Fact → List Fact → List Fact
rule_given s env l e r = facts_given s env l ++ (facts_given s env e ++ facts_given s env r)

-- the bindings are of the variables that the rule leaves open, in order, each to a message of its sort
abbrev pub AreForRule : Shared → List Bound → List Fact → List Fact → List Fact → List Binding → Type 0
AreForRule s env l e r b = AreRight s.sig (left_open (facts_given s env l) (facts_given s env e) (facts_given s env r)) b

-- a choice agrees with the bindings and makes the left side fit the cited facts; these facts are what the rule shows and adds
-- under it, in small normal forms, and more is bound by it
pub record IsUsed (s : Shared) (env : List Bound) (cited l e r : List Fact) (b : List Binding) (new : List Bound) (shown added : List Fact) : Type 0 where
  pub choice : Choice
  pub opened : AreForRule s env l e r b
  pub fits : FitsFacts s.sig (facts_given s env l) b cited choice
  pub acts : AreFormsOfFacts (equations s.sig) (instance_facts choice (facts_given s env e)) shown
  pub right : AreFormsOfFacts (equations s.sig) (instance_facts choice (facts_given s env r)) added
  pub small : EvaluateSmall s.sig (facts_terms (instance_facts choice (rule_given s env l e r)))
  pub messages : All (IsSmallMessageFact s.sig) added
  pub bound : IsExtended s env choice (facts_vars (l ++ (e ++ r))) (facts_vars (rule_given s env l e r)) new

-- why not: the first test that fails
pub data IsUnused (s : Shared) (env : List Bound) (cited l e r : List Fact) (b : List Binding) : PFault → Type 0 where
  no_memory : IsUnused s env cited l e r b Mem
  -- the bindings aren't right
  not_opened : ¬ AreForRule s env l e r b → IsUnused s env cited l e r b BadBinding
  -- they are, and no choice fits
  not_fitting : AreForRule s env l e r b → ((σ : Choice) → ¬ FitsFacts s.sig (facts_given s env l) b cited σ) → IsUnused s env cited l e r b NoMatch
  -- one does, and what the rule holds under it is too large
  too_large : (σ : Choice) → AreForRule s env l e r b → FitsFacts s.sig (facts_given s env l) b cited σ
      → EvaluateLarge s.sig (facts_terms (instance_facts σ (rule_given s env l e r))) → IsUnused s env cited l e r b TermLarge
