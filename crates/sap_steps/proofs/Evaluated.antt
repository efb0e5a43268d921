-- The evaluation of a rule's sides.
use Rattle.std.proofs.Common.{◌≡◌, List, ◌++◌, map, inl, inr, refl, sym, subst}
use Rattle.std.specs.Prelude.{Result, Ok, Err, IfErr, IsErrAnd}
use Rattle.sap_terms.specs.Choice.{Choice, instance}
use Rattle.sap_terms.specs.Signature.{Sig}
use Rattle.sap_terms.specs.declared.fact.Fact.{Fact}
use Rattle.sap_rewrite.specs.declared.cut.Cut.{Cut}
use Rattle.sap_rewrite.specs.declared.cut.Cut.TheVariants.{Mem as CutMem, Large}
use Rattle.sap_rule.specs.declared.rule.Rule.{Rule}
use Rattle.sap_sides.specs.Forms.{SomeLarge, args_of}
use Rattle.sap_sides.specs.Laws.{LargeInParts}
use Rattle.sap_steps.specs.code.Firing.{IsEvaluationFault, limited_fault}
use Rattle.sap_steps.specs.Lines.{rule_terms}
use Rattle.sap_steps.specs.declared.fault.RFault.{RFault}

pub fault_large : (g : Sig) (τ : Choice) (r : Rule) (cited : List Fact) (k : Cut) → (k ≡ Large → SomeLarge g (map (instance τ) (rule_terms r))) → IsEvaluationFault g τ r cited (limited_fault k)
fault_large g τ r cited CutMem h = tt
fault_large g τ r cited Large h = h refl

pub in_left : LargeInParts → (g : Sig) (τ : Choice) (r : Rule) → SomeLarge g (map (instance τ) (args_of r.left)) → SomeLarge g (map (instance τ) (rule_terms r))
in_left parts g τ r s = parts.front g τ r.left (r.acts ++ r.right) s

pub in_acts : LargeInParts → (g : Sig) (τ : Choice) (r : Rule) → SomeLarge g (map (instance τ) (args_of r.acts)) → SomeLarge g (map (instance τ) (rule_terms r))
in_acts parts g τ r s = parts.back g τ r.left (r.acts ++ r.right) (parts.front g τ r.acts r.right s)

pub in_right : LargeInParts → (g : Sig) (τ : Choice) (r : Rule) → SomeLarge g (map (instance τ) (args_of r.right)) → SomeLarge g (map (instance τ) (rule_terms r))
in_right parts g τ r s = parts.back g τ r.left (r.acts ++ r.right) (parts.back g τ r.acts r.right s)

pub none_large : LargeInParts → (g : Sig) (τ : Choice) (r : Rule) → (SomeLarge g (map (instance τ) (args_of r.left)) → ⊥) → (SomeLarge g (map (instance τ) (args_of r.acts)) → ⊥) → (SomeLarge g (map (instance τ) (args_of r.right)) → ⊥) → SomeLarge g (map (instance τ) (rule_terms r)) → ⊥
none_large parts g τ r a b c s = elim (parts.cases g τ r.left (r.acts ++ r.right) s) as (λ _. ⊥) [
  | inl x ↦ a x
  | inr y ↦ elim (parts.cases g τ r.acts r.right y) as (λ _. ⊥) [ inl u ↦ b u | inr v ↦ c v ]
]

-- a fault that is passed on
pub passed : {T : Type 0} (r : Result T RFault) (P : RFault → Type 0) (k : Cut) → P (limited_fault k) → IsErrAnd r (λ e. e ≡ limited_fault k) → IfErr r P
passed (Ok x) P k h s = tt
passed (Err e) P k h s = subst P (sym s) h
