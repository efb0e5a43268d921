-- What a line of a short run of rules means.
use Rattle.std.specs.Prelude.{◌≡◌, ◌⊎◌, ℕ, List, [], ◌∷◌, ◌++◌, Some, All, Contains}
use Rattle.sap_terms.specs.AdversaryFacts.{k_fact}
use Rattle.sap_terms.specs.Choice.{Choice}
use Rattle.sap_terms.specs.Deduce.{IsDeducible}
use Rattle.sap_terms.specs.Equations.{equations}
use Rattle.sap_terms.specs.Message.{IsMessage, IsMessageChoice, IsOver}
use Rattle.sap_terms.specs.Modulo.{instance_fact, IsFormOfFact}
use Rattle.sap_terms.specs.Normal.{IsNormalForm}
use Rattle.sap_terms.specs.Signature.{Sig}
use Rattle.sap_terms.specs.Trace.{shown}
use Rattle.sap_terms.specs.Tree.{Tree, fresh}
use Rattle.sap_terms.specs.Variables.{facts_vars}
use Rattle.sap_terms.specs.View.{tree}
use Rattle.sap_terms.specs.declared.binding.Binding.{Binding}
use Rattle.sap_terms.specs.declared.fact.Fact.{Fact}
use Rattle.sap_terms.specs.declared.term.Term.{Term}
use Rattle.sap_terms.specs.declared.var.Var.{Var}
use Rattle.sap_process.specs.Proc.{Proc}
use Rattle.sap_restrict.specs.Standard.{IsAdmitted}
use Rattle.sap_rewrite.specs.Match.{Agrees, bound_vars}
use Rattle.sap_rule.specs.Named.{rule_named}
use Rattle.sap_rule.specs.declared.rule.Rule.{Rule}
use Rattle.sap_steps.specs.Lines.{IsEvaluated}
use Rattle.sap_templates.specs.Templates.{rules_of}
use Rattle.sap_attacks.specs.Settling.{Use}
use Rattle.sap_attacks.specs.ShortRuleStates.{ShortState, Adds}
use Rattle.sap_attacks.specs.SilentUses.{IsInstance, MayBeLeftOut, use_of, variables_of}
use Rattle.sap_attacks.specs.Taking.{TakesEach}
use Rattle.sap_attacks.specs.declared.short_rule_step.ShortRuleStep.{ShortRuleStep}
use Rattle.sap_attacks.specs.declared.short_rule_step.ShortRuleStep.TheVariants.{Rule as Using, Know, Name}

-- no variable stands twice
abbrev pub AreApart : List Var → Type 0
AreApart [] = Unit {0}
AreApart (v ∷ vs) = (¬ Contains vs v) × AreApart vs

-- the variables of the first of these facts
abbrev pub first_vars : List Fact → List Var
first_vars [] = []
first_vars (f ∷ fs) = facts_vars (f ∷ [])

-- the bindings are of variables of the rule, none twice, each to a message of its sort; where a variable isn't bound, it stands in the
-- fact that the rule takes first
pub record AreBindings (g : Sig) (r : Rule) (b : List Binding) : Type 0 where
  pub apart : AreApart (bound_vars b)
  pub own : All (Contains (variables_of r)) (bound_vars b)
  pub terms : All (λ (e : Binding). IsMessage g e.var.sort (tree e.term)) b
  pub others : All (λ v. Contains (bound_vars b) v ⊎ Contains (first_vars r.left) v) (variables_of r)

-- they leave a variable of the rule out
abbrev pub LeavesOut : Rule → List Binding → Type 0
LeavesOut r b = (v : Var) × Contains (variables_of r) v × (¬ Contains (bound_vars b) v)

-- under the choice the fact that the rule takes first stands; or, of a rule that may be left out, a use that no line named took it
pub data HasFirst (g : Sig) (p : Proc) (s : ShortState) (r : Rule) (σ : Choice) : Type 0 where
  it_stands : (first f : Fact) (others : List Fact) → r.left ≡ first ∷ others
      → IsFormOfFact (equations g) (instance_fact σ first) f → Contains s.facts f → HasFirst g p s r σ
  was_taken : MayBeLeftOut p r → Contains s.unnamed (use_of r σ) → HasFirst g p s r σ

-- a choice of messages with these bindings, under which it is so
pub record Fits (g : Sig) (p : Proc) (s : ShortState) (r : Rule) (b : List Binding) (σ : Choice) : Type 0 where
  pub messages : IsMessageChoice g σ
  pub agrees : Agrees b σ
  pub first : HasFirst g p s r σ

-- the choice that a line names: it has the bindings; where these leave variables out it fits, and each that fits is of the same use
pub record IsChosen (g : Sig) (p : Proc) (s : ShortState) (r : Rule) (b : List Binding) (σ : Choice) : Type 0 where
  pub messages : IsMessageChoice g σ
  pub agrees : Agrees b σ
  pub first : LeavesOut r b → HasFirst g p s r σ
  pub only : LeavesOut r b → (τ : Choice) → Fits g p s r b τ → use_of r τ ≡ use_of r σ

-- each normal form that the rule evaluates under the choice is as W says
abbrev pub IsWithin : Sig → (Tree → Type 0) → Rule → Choice → Type 0
IsWithin g W r σ = (n : Tree) → IsEvaluated g r σ n → W n

-- this is the rule of this name, and this the choice that the bindings name
pub record IsRuleNamed (g : Sig) (W : Tree → Type 0) (p : Proc) (s : ShortState) (name : List ℕ) (b : List Binding) (r : Rule) (σ : Choice)
    : Type 0 where
  pub named : rule_named (rules_of p) name ≡ Some r
  pub bindings : AreBindings g r b
  pub chosen : IsChosen g p s r b σ
  pub within : IsWithin g W r σ

-- a rule for which a line has to stand is used: its left side is taken, its acts are shown, and its right side comes
pub record IsUsed (g : Sig) (W : Tree → Type 0) (p : Proc) (s : ShortState) (name : List ℕ) (b : List Binding) (z : ShortState) : Type 0 where
  pub rule : Rule
  pub choice : Choice
  pub is : IsRuleNamed g W p s name b rule choice
  pub happens : ¬ MayBeLeftOut p rule
  pub left : List Fact
  pub acts : List Fact
  pub right : List Fact
  pub is_instance : IsInstance g rule choice left acts right
  pub taken : ShortState
  pub takes : TakesEach g s left taken
  pub admitted : IsAdmitted g (taken.shown ++ shown acts)
  pub adds : Adds g W p taken right (shown acts) z

-- of a rule that may be left out a use is named, which is among those that no line has named; nothing else happens
pub record IsNamed (g : Sig) (W : Tree → Type 0) (p : Proc) (s : ShortState) (name : List ℕ) (b : List Binding) (z : ShortState) : Type 0 where
  pub rule : Rule
  pub choice : Choice
  pub is : IsRuleNamed g W p s name b rule choice
  pub left_out : MayBeLeftOut p rule
  pub earlier : List Use
  pub later : List Use
  pub cut : s.unnamed ≡ earlier ++ use_of rule choice ∷ later
  pub becomes : z ≡ record s { unnamed = earlier ++ later }

-- the adversary shows what the term is, which it can give
pub record IsShown (g : Sig) (s : ShortState) (u : Term) (z : ShortState) : Type 0 where
  pub form : Tree
  pub over : IsOver g (tree u)
  pub is_form : IsNormalForm (equations g) (tree u) form
  pub can_give : IsDeducible g [] s.known form
  pub becomes : z ≡ record s { shown = s.shown ++ (k_fact form ∷ []) ∷ [] }

-- it draws a name
pub record IsDrawn (s : ShortState) (n : ℕ) (z : ShortState) : Type 0 where
  pub new : ¬ Contains s.made n
  pub becomes : z ≡ record s { known = s.known ++ fresh n ∷ []; made = s.made ++ n ∷ [] }

-- the line leads from the state to the next
abbrev pub IsShortRuleLine : Sig → (Tree → Type 0) → Proc → ShortState → ShortRuleStep → ShortState → Type 0
IsShortRuleLine g W p s (Using name b) z = IsUsed g W p s name b z ⊎ IsNamed g W p s name b z
IsShortRuleLine g W p s (Know u) z = IsShown g s u z
IsShortRuleLine g W p s (Name n) z = IsDrawn s n z
