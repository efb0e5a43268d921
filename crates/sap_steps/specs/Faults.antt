-- Why a line is refused: the first test that fails.
use Rattle.std.specs.Prelude.{◌≡◌, ◌<◌, ℕ, List, [], ◌∷◌, length, Some, None, map, slice_get, All, Contains, ⊤}
use Rattle.std.specs.List.{AllZip}
use Rattle.sap_terms.specs.AdversaryFacts.{out_fact, fr_fact}
use Rattle.sap_terms.specs.Choice.{Choice, IsSorted}
use Rattle.sap_terms.specs.Deduce.{IsFirstUnknown}
use Rattle.sap_terms.specs.Message.{IsMessage, IsMessageChoice}
use Rattle.sap_terms.specs.Normal.{IsNormalForm}
use Rattle.sap_terms.specs.Piles.{Pile, Takes}
use Rattle.sap_terms.specs.Signature.{Sig, IsPublic, arity_of}
use Rattle.sap_terms.specs.Equations.{equations}
use Rattle.sap_terms.specs.Tree.{Tree, apply, trees_of, node_count}
use Rattle.sap_terms.specs.View.{tree}
use Rattle.sap_terms.specs.declared.binding.Binding.{Binding}
use Rattle.sap_terms.specs.declared.fact.Fact.{Fact}
use Rattle.sap_terms.specs.declared.limits.TheConstants.{MOST_TERM_NODES}
pub use Rattle.sap_facts.specs.Missing.{IsFirstMissing}
pub use Rattle.sap_sides.specs.Fitting.{FactFits}
use Rattle.sap_rewrite.specs.Around.{HoldAll}
use Rattle.sap_rewrite.specs.Match.{Agrees, bound_vars}
use Rattle.sap_rule.specs.Named.{rule_named}
use Rattle.sap_rule.specs.RuleSteps.{RuleState}
use Rattle.sap_rule.specs.Variables.{open_variables}
use Rattle.sap_rule.specs.declared.rule.Rule.{Rule}
use Rattle.sap_runs.specs.declared.rule_step.RStep.{RStep}
use Rattle.sap_runs.specs.declared.rule_step.RStep.TheVariants.{Fresh, Learn, Own, Apply, Know, Rule as RuleLine}
use Rattle.sap_steps.specs.Lines.{IsEvaluated, HasFewNodes}
use Rattle.sap_steps.specs.declared.fault.RFault.{RFault}
use Rattle.sap_steps.specs.declared.fault.RFault.TheVariants.{Mem, NoRule, FactCount, FactMissing, BadBinding, NoMatch, TermLarge, Unequal, UsedName, WrongFact, NoEntry, NotPublic, Arity}

-- the bindings are of the rule's open variables, in order, each to a message of its sort
pub record AreRight (g : Sig) (r : Rule) (b : List Binding) : Type 0 where
  pub vars : bound_vars b ≡ open_variables g r
  pub terms : All (λ (e : Binding). IsMessage g e.var.sort (tree e.term)) b

-- what a destructor heads in the fact has under the choice the normal form that stands there in the other
abbrev pub FactHolds : Sig → Choice → Fact → Fact → Type 0
FactHolds g σ f h = HoldAll g σ (trees_of f.args) (trees_of h.args)

-- a choice of messages that agrees with the bindings and turns the rule's left side into the cited facts around destructors
pub record IsFitting (g : Sig) (r : Rule) (b : List Binding) (cited : List Fact)
    (σ : Choice) : Type 0 where
  pub messages : IsMessageChoice g σ
  pub agrees : Agrees b σ
  pub facts : AllZip (FactFits g σ) r.left cited

-- no sorted choice that agrees with the bindings, which are right, turns the left side into the cited facts around destructors
pub record FitsNothing (g : Sig) (r : Rule) (b : List Binding) (cited : List Fact) : Type 0 where
  pub right : AreRight g r b
  pub none : (σ : Choice) → IsSorted σ → Agrees b σ → AllZip (FactFits g σ) r.left cited → ⊥

-- under a fitting choice a normal form that is evaluated is too large
pub record EvaluatesLarge (g : Sig) (r : Rule) (b : List Binding) (cited : List Fact) : Type 0 where
  pub right : AreRight g r b
  pub choice : Choice
  pub fitting : IsFitting g r b cited choice
  pub form : Tree
  pub evaluated : IsEvaluated g r choice form
  pub large : MOST_TERM_NODES < node_count form

-- under a fitting choice none is, but a cited fact holds another normal form where a destructor stands in the left side
pub record HoldsOther (g : Sig) (r : Rule) (b : List Binding) (cited : List Fact) : Type 0 where
  pub right : AreRight g r b
  pub choice : Choice
  pub fitting : IsFitting g r b cited choice
  pub small : (n : Tree) → IsEvaluated g r choice n → HasFewNodes n
  pub other : ¬ AllZip (FactHolds g choice) r.left cited

-- a rule is not used on the cited facts with these bindings, for this cause; each comes only where none before it does
abbrev pub IsRuleRefusal : Sig → Rule → List Binding → List Fact → RFault → Type 0
IsRuleRefusal g r b cited BadBinding = ¬ AreRight g r b
IsRuleRefusal g r b cited NoMatch = FitsNothing g r b cited
IsRuleRefusal g r b cited TermLarge = EvaluatesLarge g r b cited
IsRuleRefusal g r b cited Unequal = HoldsOther g r b cited
IsRuleRefusal g r b cited Mem = ⊤
IsRuleRefusal g r b cited NoRule = ⊥
IsRuleRefusal g r b cited FactCount = ⊥
IsRuleRefusal g r b cited (FactMissing p) = ⊥
IsRuleRefusal g r b cited (UsedName n) = ⊥
IsRuleRefusal g r b cited (WrongFact f) = ⊥
IsRuleRefusal g r b cited (NoEntry k) = ⊥
IsRuleRefusal g r b cited (NotPublic f) = ⊥
IsRuleRefusal g r b cited (Arity f) = ⊥

-- as many facts are cited as the left side has, and one is missing
pub record LacksFact (r : Rule) (facts : Pile) (ks : List ℕ) (index : ℕ) : Type 0 where
  pub count : length ks ≡ length r.left
  pub first : IsFirstMissing facts ks index

-- as many are cited and can be taken, and the rule is not used on them for this cause
pub record IsRefusedUse (g : Sig) (r : Rule) (facts : Pile) (ks : List ℕ) (b : List Binding)
    (fault : RFault) : Type 0 where
  pub count : length ks ≡ length r.left
  pub cited : List Fact
  pub rest : Pile
  pub takes : Takes facts ks cited rest
  pub refusal : IsRuleRefusal g r b cited fault

-- why a rule line is refused, once its rule is found
abbrev pub IsRuleFault : Sig → Rule → Pile → List ℕ → List Binding → RFault → Type 0
IsRuleFault g r facts ks b FactCount = ¬ (length ks ≡ length r.left)
IsRuleFault g r facts ks b (FactMissing index) = LacksFact r facts ks index
IsRuleFault g r facts ks b fault = IsRefusedUse g r facts ks b fault

-- the rule of this name is found, and the line is refused for this cause
pub record IsFaultOfNamed (g : Sig) (rules : List Rule) (facts : Pile) (name ks : List ℕ)
    (b : List Binding) (fault : RFault) : Type 0 where
  pub rule : Rule
  pub named : rule_named rules name ≡ Some rule
  pub cause : IsRuleFault g rule facts ks b fault

-- no entry has the number
abbrev pub IsUnknownEntry : RuleState → ℕ → Type 0
IsUnknownEntry s k = slice_get s.known k ≡ None

-- the first of these numbers that is no entry's
abbrev pub IsFirstUnknownEntry : RuleState → List ℕ → ℕ → Type 0
IsFirstUnknownEntry s ks k = IsFirstUnknown (length s.known) ks k

-- the symbol may be applied to the entries, and the normal form is too large
pub record AppliesLarge (g : Sig) (s : RuleState) (f ks : List ℕ) : Type 0 where
  pub public_symbol : IsPublic g f
  pub arity : arity_of g f ≡ Some (length ks)
  pub terms : List Tree
  pub entries : map (slice_get s.known) ks ≡ map Some terms
  pub form : Tree
  pub is_form : IsNormalForm (equations g) (apply f (trees_of terms)) form
  pub large : MOST_TERM_NODES < node_count form

-- why a symbol on entries is refused
abbrev pub IsApplyFault : Sig → RuleState → List ℕ → List ℕ → RFault → Type 0
IsApplyFault g s f ks (NotPublic n) = (n ≡ f) × ¬ IsPublic g f
IsApplyFault g s f ks (Arity n) = (n ≡ f) × IsPublic g f × ¬ (arity_of g f ≡ Some (length ks))
IsApplyFault g s f ks (NoEntry n) = IsPublic g f × (arity_of g f ≡ Some (length ks))
    × IsFirstUnknownEntry s ks n
IsApplyFault g s f ks TermLarge = AppliesLarge g s f ks
IsApplyFault g s f ks _ = ⊥

-- the fault is want of memory, or the first test of the line that fails
abbrev pub IsLineFault : Sig → List Rule → RuleState → RStep → RFault → Type 0
IsLineFault g rules s line Mem = ⊤
IsLineFault g rules s (Fresh n) (UsedName m) = (m ≡ n) × Contains s.made n
IsLineFault g rules s (Learn k) (WrongFact f) = (f ≡ k)
    × ((t : Tree) (rest : Pile) → ¬ Takes s.facts (k ∷ []) (out_fact t ∷ []) rest)
IsLineFault g rules s (Own k) (WrongFact f) = (f ≡ k)
    × ((n : ℕ) (rest : Pile) → ¬ Takes s.facts (k ∷ []) (fr_fact n ∷ []) rest)
IsLineFault g rules s (Apply f ks) fault = IsApplyFault g s f ks fault
IsLineFault g rules s (Know k) (NoEntry n) = (n ≡ k) × IsUnknownEntry s k
IsLineFault g rules s (RuleLine name ks b) NoRule = rule_named rules name ≡ None
IsLineFault g rules s (RuleLine name ks b) fault = IsFaultOfNamed g rules s.facts name ks b fault
IsLineFault g rules s _ _ = ⊥
