-- The facts and the knowledge of a rule state are in normal form.
use Rattle.sap_translate.proofs.Premises.LowerLaws.{Laws}
use Rattle.sap_translate.specs.Members.{Member}
use Rattle.sap_translate.proofs.Terms.Derive.{member}
use Rattle.sap_translate.proofs.Terms.Forms.{IsTidy, public_normal, fresh_normal, forms_are_facts, nf_facts_tidy}
use Rattle.sap_translate.proofs.Shared.Lookups.{Every, only_member, every_member_push}
use Rattle.sap_translate.proofs.Shared.Takings.{takes_every, every-adds, taken_each}
use Rattle.sap_templates.specs.ChannelFacts.{fresh_fact}
use Rattle.sap_rule.specs.RuleSteps.{RuleState, RuleStep, RuleRun}
use Rattle.sap_rule.specs.declared.rule.Rule.{Rule}
use Rattle.sap_terms.specs.AdversaryFacts.{out_fact, in_fact}
use Rattle.sap_terms.specs.Modulo.{instance_facts}
use Rattle.sap_terms.specs.Normal.{IsNormal}
use Rattle.sap_terms.specs.Signature.{Sig}
use Rattle.sap_terms.specs.Equations.{Equations, equations}
use Rattle.sap_terms.specs.Trace.{Trace}
use Rattle.sap_terms.specs.Tree.{Tree, public, fresh}
use Rattle.sap_terms.specs.declared.fact.Fact.{Fact}
use Rattle.std.proofs.Common.{List, [], ◌∷◌, ◌++◌, sym, subst}

pub record Tidy (e : Equations) (s : RuleState) : Type 0 where
  pub facts : Every (IsTidy e) s.facts
  pub known : (x : Tree) → Member x s.known → IsNormal e x

one_more : (e : Equations) (known : List Tree) (x y : Tree) → IsNormal e x → ((z : Tree) → Member z known → IsNormal e z) → Member y (known ++ x ∷ []) → IsNormal e y
one_more e known x y h all m = every_member_push (λ z. IsNormal e z) known x all h y m

only_tidy : (e : Equations) (f : Fact) → IsTidy e f → (h : Fact) → Member h (f ∷ []) → IsTidy e h
only_tidy e f t h m = subst (λ x. IsTidy e x) (sym (only_member m)) t

tidy_step : (laws : Laws) → {sig : Sig} {rules : List Rule} {s z : RuleState} {acts : List Fact} → Tidy (equations sig) s → RuleStep sig rules s acts z → Tidy (equations sig) z
tidy_step laws {sig} {s = s} t (RuleStep.makes_name n u) = record { facts = every-adds (IsTidy (equations sig)) s.facts (fresh_fact (fresh n) ∷ []) t.facts (only_tidy (equations sig) (fresh_fact (fresh n)) ((fresh_normal laws) (equations sig) n, tt)); known = t.known }
tidy_step laws {sig} {s = s} t (RuleStep.learns k x takes) = record {
  facts = takes_every (IsTidy (equations sig)) t.facts takes;
  known = λ y m. one_more (equations sig) s.known x y (taken_each (IsTidy (equations sig)) t.facts takes (out_fact x) Member.here).0 t.known m;
}
tidy_step laws {sig} {s = s} t (RuleStep.owns k n takes) = record { facts = takes_every (IsTidy (equations sig)) t.facts takes; known = λ y m. one_more (equations sig) s.known (fresh n) y ((fresh_normal laws) (equations sig) n) t.known m }
tidy_step laws {sig} {s = s} t (RuleStep.knows_public a) = record { facts = t.facts; known = λ y m. one_more (equations sig) s.known (public a) y ((public_normal laws) (equations sig) a) t.known m }
tidy_step laws {sig} {s = s} t (RuleStep.applies f ts x p a all n) = record { facts = t.facts; known = λ y m. one_more (equations sig) s.known x y n.normal t.known m }
tidy_step laws {sig} {s = s} t (RuleStep.gives x m) = record { facts = every-adds (IsTidy (equations sig)) s.facts (in_fact x ∷ []) t.facts (only_tidy (equations sig) (in_fact x) (t.known x (member x s.known m), tt)); known = t.known }
tidy_step laws {sig} {s = s} t (RuleStep.uses {rest = rest} r ks σ left acts right m takes fits) = record {
  facts = every-adds (IsTidy (equations sig)) rest right (takes_every (IsTidy (equations sig)) t.facts takes) (λ h n. (nf_facts_tidy laws) (equations sig) (instance_facts σ r.right) h (subst (λ fs. Member h fs) ((forms_are_facts laws) (equations sig) (instance_facts σ r.right) right fits.adds) n));
  known = t.known;
}

pub tidy : (laws : Laws) → {sig : Sig} {rules : List Rule} {s : RuleState} {full : Trace} → RuleRun sig rules s full → Tidy (equations sig) s
tidy laws RuleRun.starts = record { facts = λ t a e. absurd (cc); known = λ x m. elim m [ ] }
tidy laws (RuleRun.further run step) = (tidy_step laws) ((tidy laws) run) step
