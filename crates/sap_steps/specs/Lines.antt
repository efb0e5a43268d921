-- What a written step of rules means: one step, with its choices named.
use Rattle.std.specs.Prelude.{◌≡◌, ℕ, List, [], ◌∷◌, ◌++◌, length, Some, map, slice_get, Contains}
use Rattle.std.specs.List.{flat_map}
use Rattle.sap_terms.specs.AdversaryFacts.{k_fact, in_fact, out_fact, fr_fact}
use Rattle.sap_terms.specs.Choice.{Choice, instances}
use Rattle.sap_terms.specs.Normal.{IsNormalForm}
use Rattle.sap_terms.specs.Piles.{Pile, Takes, adds}
use Rattle.sap_terms.specs.Signature.{Sig, IsPublic, arity_of}
use Rattle.sap_terms.specs.Equations.{equations}
use Rattle.sap_terms.specs.Tree.{Tree, public, fresh, apply, trees_of}
use Rattle.sap_terms.specs.declared.binding.Binding.{Binding}
use Rattle.sap_terms.specs.declared.fact.Fact.{Fact}
use Rattle.sap_rewrite.specs.Large.{SomeSubtermWithin}
use Rattle.sap_rewrite.specs.Match.{Agrees, bound_vars}
use Rattle.sap_rule.specs.Named.{rule_named}
use Rattle.sap_rule.specs.RuleSteps.{RuleState, makes, gains, leaves, IsUse}
use Rattle.sap_rule.specs.Variables.{open_variables}
use Rattle.sap_rule.specs.declared.rule.Rule.{Rule}
pub use Rattle.sap_runs.specs.Limits.{AnySize, HasFewNodes}
use Rattle.sap_runs.specs.declared.rule_step.RStep.{RStep}
use Rattle.sap_runs.specs.declared.rule_step.RStep.TheVariants.{Fresh, Learn, Own, Public, Apply, Know, Rule as RuleLine}

-- the bindings are of the rule's open variables, in order, to what the choice gives them
pub record Binds (g : Sig) (r : Rule) (b : List Binding) (σ : Choice) : Type 0 where
  pub vars : bound_vars b ≡ open_variables g r
  pub agrees : Agrees b σ

-- each term of the rule's facts: of its left side, its acts, its right side
abbrev pub rule_terms : Rule → List Tree
rule_terms r = flat_map (λ (f : Fact). f.args) (r.left ++ (r.acts ++ r.right))

-- n is a normal form of a subterm of the rule's terms under the choice
abbrev pub IsEvaluated : Sig → Rule → Choice → Tree → Type 0
IsEvaluated g r σ n =
    SomeSubtermWithin (λ u. IsNormalForm (equations g) u n) (instances σ (trees_of (rule_terms r)))

-- under some choice, which the bindings name, the rule takes these facts, shows acts and adds right; each normal form that
-- is evaluated is as W says
pub record Fires (g : Sig) (W : Tree → Type 0) (r : Rule) (b : List Binding)
    (left acts right : List Fact) : Type 0 where
  pub choice : Choice
  pub binds : Binds g r b choice
  pub use_ : IsUse g r choice left acts right
  pub within : (n : Tree) → IsEvaluated g r choice n → W n

-- the rule of this name takes the facts with these numbers
pub record IsRuleLine (g : Sig) (rules : List Rule) (W : Tree → Type 0) (s : RuleState)
    (name ks : List ℕ) (b : List Binding) (acts : List Fact) (z : RuleState) : Type 0 where
  pub rule : Rule
  pub named : rule_named rules name ≡ Some rule
  pub left : List Fact
  pub right : List Fact
  pub rest : Pile
  pub takes : Takes s.facts ks left rest
  pub fires : Fires g W rule b left acts right
  pub becomes : z ≡ leaves s (adds rest right)

-- the name is new, and is made
pub record IsMade (s : RuleState) (n : ℕ) (acts : List Fact) (z : RuleState) : Type 0 where
  pub new : ¬ Contains s.made n
  pub silent : acts ≡ []
  pub becomes : z ≡ makes s n

-- the entry of this number is given, and shown
pub record IsGiven (s : RuleState) (k : ℕ) (acts : List Fact) (z : RuleState) : Type 0 where
  pub term : Tree
  pub entry : slice_get s.known k ≡ Some term
  pub shows : acts ≡ k_fact term ∷ []
  pub becomes : z ≡ leaves s (adds s.facts (in_fact term ∷ []))

-- the fact of this number is taken, and the adversary knows t
pub record IsTaken (s : RuleState) (k : ℕ) (f : Fact) (t : Tree) (acts : List Fact)
    (z : RuleState) : Type 0 where
  pub rest : Pile
  pub takes : Takes s.facts (k ∷ []) (f ∷ []) rest
  pub silent : acts ≡ []
  pub becomes : z ≡ gains (leaves s rest) t

-- the symbol is applied to the entries with these numbers
pub record IsApplied (g : Sig) (W : Tree → Type 0) (s : RuleState) (f ks : List ℕ)
    (acts : List Fact) (z : RuleState) : Type 0 where
  pub terms : List Tree
  pub form : Tree
  pub public_symbol : IsPublic g f
  pub arity : arity_of g f ≡ Some (length ks)
  pub entries : map (slice_get s.known) ks ≡ map Some terms
  pub is_form : IsNormalForm (equations g) (apply f (trees_of terms)) form
  pub within : W form
  pub silent : acts ≡ []
  pub becomes : z ≡ gains s form

-- the line leads from the state s to the state z and shows acts; each normal form that is evaluated is as W says
abbrev pub IsLine : Sig → List Rule → (Tree → Type 0) → RuleState → RStep → List Fact → RuleState
    → Type 0
IsLine g rules W s (Fresh n) acts z = IsMade s n acts z
IsLine g rules W s (Learn k) acts z = (t : Tree) × IsTaken s k (out_fact t) t acts z
IsLine g rules W s (Own k) acts z = (n : ℕ) × IsTaken s k (fr_fact n) (fresh n) acts z
IsLine g rules W s (Public a) acts z = (acts ≡ []) × (z ≡ gains s (public a))
IsLine g rules W s (Apply f ks) acts z = IsApplied g W s f ks acts z
IsLine g rules W s (Know k) acts z = IsGiven s k acts z
IsLine g rules W s (RuleLine name ks b) acts z = IsRuleLine g rules W s name ks b acts z
