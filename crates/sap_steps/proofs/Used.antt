-- Lines that use a rule.
use Rattle.std.proofs.Common.{◌≡◌, ℕ, List, Some, ◌⊎◌, inl, inr}
use Rattle.sap_terms.specs.Piles.{Pile, adds}
use Rattle.sap_terms.specs.Signature.{Sig}
use Rattle.sap_terms.specs.Tree.{Tree}
use Rattle.sap_terms.specs.declared.binding.Binding.{Binding}
use Rattle.sap_terms.specs.declared.fact.Fact.{Fact}
use Rattle.sap_rule.specs.Named.{rule_named}
use Rattle.sap_rule.specs.RuleSteps.{RuleState}
use Rattle.sap_rule.specs.declared.rule.Rule.{Rule}
use Rattle.sap_runs.specs.declared.rule_step.RStep.TheVariants.{Rule as RuleLine}
use Rattle.sap_steps.specs.Faults.{IsLineFault, IsRuleFault}
use Rattle.sap_facts.specs.Cited.{cited_at}
use Rattle.sap_facts.specs.Cited.{left_of, AreTaken}
use Rattle.sap_steps.specs.Lines.{IsLine, Fires, HasFewNodes}
use Rattle.sap_steps.specs.declared.fault.RFault.{RFault}
use Rattle.sap_steps.specs.declared.fault.RFault.TheVariants.{Mem, NoRule, FactCount, FactMissing, BadBinding, NoMatch, TermLarge, Unequal, UsedName, WrongFact, NoEntry, NotPublic, Arity}

fault_of_rule : (g : Sig) (rules : List Rule) (s : RuleState) (name ks : List ℕ) (b : List Binding) (r : Rule) (e : RFault) → rule_named rules name ≡ Some r → IsRuleFault g r s.facts ks b e → IsLineFault g rules s (RuleLine name ks b) e
fault_of_rule g rules s name ks b r Mem named h = tt
fault_of_rule g rules s name ks b r NoRule named h = absurd h.refusal
fault_of_rule g rules s name ks b r FactCount named h = record { rule = r; named = named; cause = h }
fault_of_rule g rules s name ks b r (FactMissing p) named h = record { rule = r; named = named; cause = h }
fault_of_rule g rules s name ks b r BadBinding named h = record { rule = r; named = named; cause = h }
fault_of_rule g rules s name ks b r NoMatch named h = record { rule = r; named = named; cause = h }
fault_of_rule g rules s name ks b r TermLarge named h = record { rule = r; named = named; cause = h }
fault_of_rule g rules s name ks b r Unequal named h = record { rule = r; named = named; cause = h }
fault_of_rule g rules s name ks b r (UsedName n) named h = record { rule = r; named = named; cause = h }
fault_of_rule g rules s name ks b r (WrongFact n) named h = record { rule = r; named = named; cause = h }
fault_of_rule g rules s name ks b r (NoEntry n) named h = record { rule = r; named = named; cause = h }
fault_of_rule g rules s name ks b r (NotPublic n) named h = record { rule = r; named = named; cause = h }
fault_of_rule g rules s name ks b r (Arity n) named h = record { rule = r; named = named; cause = h }

pub rule_fault : (g : Sig) (rules : List Rule) (s : RuleState) (name ks : List ℕ) (b : List Binding) (r : Rule) (e : RFault) → rule_named rules name ≡ Some r → (e ≡ Mem) ⊎ IsRuleFault g r s.facts ks b e → IsLineFault g rules s (RuleLine name ks b) e
rule_fault g rules s name ks b r e named (inl memory) = rw memory tt
rule_fault g rules s name ks b r e named (inr fault) = fault_of_rule g rules s name ks b r e named fault

pub rule_line : (g : Sig) (rules : List Rule) (facts after : Pile) (known : List Tree) (made name ks : List ℕ) (b : List Binding) (r : Rule) (acts right : List Fact) → rule_named rules name ≡ Some r → AreTaken facts ks → Fires g HasFewNodes r b (cited_at facts ks) acts right
    → after ≡ adds (left_of facts ks) right → let s : RuleState = record { facts = facts; known = known; made = made } in let z : RuleState = record { facts = after; known = known; made = made } in IsLine g rules HasFewNodes s (RuleLine name ks b) acts z
rule_line g rules facts after known made name ks b r acts right named taken fires becomes = record {
  rule = r;
  named = named;
  left = cited_at facts ks;
  right = right;
  rest = left_of facts ks;
  takes = taken;
  fires = fires;
  becomes = λ i. record { facts = becomes i; known = known; made = made };
}
