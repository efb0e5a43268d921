-- Uses of the rules by which nothing happens but that control moves on.
use Rattle.std.specs.Prelude.{◌≡◌, ◌⊎◌, List, [], ◌∷◌, map, codes}
use Rattle.sap_terms.specs.Choice.{Choice}
use Rattle.sap_terms.specs.Equations.{equations}
use Rattle.sap_terms.specs.Message.{IsMessageChoice}
use Rattle.sap_terms.specs.Modulo.{instance_facts, AreFormsOfFacts}
use Rattle.sap_terms.specs.Signature.{Sig}
use Rattle.sap_terms.specs.Tree.{Tree}
use Rattle.sap_terms.specs.Variables.{new_vars}
use Rattle.sap_terms.specs.declared.fact.Fact.{Fact}
use Rattle.sap_terms.specs.declared.var.Var.{Var}
use Rattle.sap_process.specs.Proc.{Proc}
use Rattle.sap_rule.specs.Variables.{rule_vars}
use Rattle.sap_rule.specs.declared.rule.Rule.{Rule}
use Rattle.sap_steps.specs.Lines.{IsEvaluated}
use Rattle.sap_templates.specs.Templates.{init_rule}
use Rattle.sap_attacks.specs.Settling.{Use, Settles}
use Rattle.sap_attacks.specs.Silent.{IsSilentRule}

-- the rule is silent, or the one that starts the run: a short run may have a line for it, and need not
abbrev pub MayBeLeftOut : Proc → Rule → Type 0
MayBeLeftOut p r = IsSilentRule p r ⊎ (r ≡ init_rule)

-- the variables of a rule, in order of first occurrence
abbrev pub variables_of : Rule → List Var
variables_of r = new_vars [] (rule_vars r)

-- the use of the rule under the choice
abbrev pub use_of : Rule → Choice → Use
use_of r σ = record { name = r.name; terms = map σ (variables_of r) }

-- the use of the rule that starts the run
abbrev pub init_use : Use
init_use = record { name = codes "Init"; terms = [] }

-- under a choice of messages these are the normal forms of the rule's left side, acts and right side
pub record IsInstance (g : Sig) (r : Rule) (σ : Choice) (left acts right : List Fact) : Type 0 where
  pub messages : IsMessageChoice g σ
  pub takes : AreFormsOfFacts (equations g) (instance_facts σ r.left) left
  pub shows : AreFormsOfFacts (equations g) (instance_facts σ r.acts) acts
  pub adds : AreFormsOfFacts (equations g) (instance_facts σ r.right) right

-- a silent rule of the process takes the fact alone and adds these; each normal form that is evaluated is as W says
pub record IsSilentUse (g : Sig) (W : Tree → Type 0) (p : Proc) (f : Fact) (u : Use) (more : List Fact) : Type 0 where
  pub rule : Rule
  pub silent : IsSilentRule p rule
  pub choice : Choice
  pub is_instance : IsInstance g rule choice (f ∷ []) [] more
  pub within : (n : Tree) → IsEvaluated g rule choice n → W n
  pub is : u ≡ use_of rule choice

-- the facts with all silent rules done at once, and the uses by which that was
abbrev pub SettlesTo : Sig → (Tree → Type 0) → Proc → List Fact → List Fact → List Use → Type 0
SettlesTo g W p = Settles (IsSilentUse g W p)
