-- The use of a rule in its parts: the normal forms that are made.
use Rattle.std.specs.Prelude.{◌↔◌, Bool, List, map, ⊤, IsTrue}
use Rattle.sap_terms.specs.Choice.{Choice, instance}
use Rattle.sap_terms.specs.Equations.{equations}
use Rattle.sap_terms.specs.Modulo.{instance_facts, AreFormsOfFacts}
use Rattle.sap_terms.specs.Signature.{Sig}
use Rattle.sap_terms.specs.declared.fact.Fact.{Fact}
use Rattle.sap_rewrite.specs.Around.{MatchingAroundIsModulo, FittingGivesMessages}
use Rattle.sap_rewrite.specs.Bound.{NamedOnceStay, BindingsGiveChoices, AgreeingSubstitutes}
use Rattle.sap_rewrite.specs.Laws.{FormIsOne, FormsAreMessages}
use Rattle.sap_rewrite.specs.declared.cut.Cut.{Cut}
use Rattle.sap_rewrite.specs.declared.cut.Cut.TheVariants.{Mem as CutMem, Large}
use Rattle.sap_rule.specs.declared.rule.Rule.{Rule}
use Rattle.sap_sides.specs.Forms.{SomeLarge, args_of, HaveArgs}
use Rattle.sap_sides.specs.Laws.{PlainFactsAreMet, MessageFactsAreForms, LargeInParts, NumbersGiveTerms}
use Rattle.sap_steps.specs.Lines.{rule_terms}
use Rattle.sap_steps.specs.declared.fault.RFault.{RFault}
use Rattle.sap_steps.specs.declared.fault.RFault.TheVariants.{Mem, TermLarge, Unequal}

-- the laws of the layers below
pub record Laws : Type 0 where
  pub modulo : MatchingAroundIsModulo
  pub messages : FittingGivesMessages
  pub once : NamedOnceStay
  pub choices : BindingsGiveChoices
  pub substitutes : AgreeingSubstitutes
  pub one_form : FormIsOne
  pub forms : FormsAreMessages
  pub plain : PlainFactsAreMet
  pub own : MessageFactsAreForms
  pub parts : LargeInParts
  pub given : NumbersGiveTerms

-- these are the forms of the left facts under the choice, and none is large; b says whether they have the arguments of
-- the cited facts
pub record IsLeftSame (g : Sig) (τ : Choice) (fs cited : List Fact) (b : Bool) : Type 0 where
  pub left : List Fact
  pub forms : AreFormsOfFacts (equations g) (instance_facts τ fs) left
  pub same : IsTrue b ↔ HaveArgs left cited
  pub small : SomeLarge g (map (instance τ) (args_of fs)) → ⊥

-- the forms of the rule's left side under the choice have the arguments of the cited facts, those of its other sides are
-- these, and none is large
pub record Evaluates (g : Sig) (τ : Choice) (r : Rule) (cited acts right : List Fact) : Type 0 where
  pub left : List Fact
  pub left_forms : AreFormsOfFacts (equations g) (instance_facts τ r.left) left
  pub same : HaveArgs left cited
  pub acts_forms : AreFormsOfFacts (equations g) (instance_facts τ r.acts) acts
  pub right_forms : AreFormsOfFacts (equations g) (instance_facts τ r.right) right
  pub small : SomeLarge g (map (instance τ) (rule_terms r)) → ⊥

-- the forms of the left side have other arguments, and none is large
pub record EvaluatesOtherwise (g : Sig) (τ : Choice) (r : Rule) (cited : List Fact) : Type 0 where
  pub left : List Fact
  pub left_forms : AreFormsOfFacts (equations g) (instance_facts τ r.left) left
  pub other : ¬ HaveArgs left cited
  pub small : SomeLarge g (map (instance τ) (rule_terms r)) → ⊥

-- why the rule's sides are not evaluated
abbrev pub IsEvaluationFault : Sig → Choice → Rule → List Fact → RFault → Type 0
IsEvaluationFault g τ r cited Mem = ⊤
IsEvaluationFault g τ r cited TermLarge = SomeLarge g (map (instance τ) (rule_terms r))
IsEvaluationFault g τ r cited Unequal = EvaluatesOtherwise g τ r cited
IsEvaluationFault g τ r cited _ = ⊥

-- the fault of a cut
abbrev pub limited_fault : Cut → RFault
limited_fault CutMem = Mem
limited_fault Large = TermLarge
