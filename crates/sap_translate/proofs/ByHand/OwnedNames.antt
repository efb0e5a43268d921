-- A name that the adversary took is none that a process makes.
use Rattle.std.proofs.Common.{◌≡◌, ℕ, List, [], ◌∷◌, true, false, refl, sym, ap, subst, ◌∙◌, arith}
use Rattle.std.specs.Prelude.{codes, Contains}
use Rattle.std.specs.Str.{bytes_eq}
use Rattle.sap_formula.specs.Truth.{EachIn}
use Rattle.sap_terms.specs.Choice.{Choice}
use Rattle.sap_terms.specs.Equations.{equations}
use Rattle.sap_terms.specs.Message.{IsMessageChoice}
use Rattle.sap_terms.specs.Modulo.{instance_facts, AreEqualFacts}
use Rattle.sap_terms.specs.Piles.{Pile, Takes}
use Rattle.sap_terms.specs.Signature.{Sig}
use Rattle.sap_terms.specs.declared.fact.Fact.{Fact}
use Rattle.sap_rule.specs.RuleSteps.{RuleRun, RuleStep, IsUse}
use Rattle.sap_rule.specs.declared.rule.Rule.{Rule}
use Rattle.sap_translate.specs.Members.{Member}
use Rattle.sap_translate.specs.NameExamples.{name_told, name_owned, name_owned_trace, other_drawn, other_made}
use Rattle.sap_templates.specs.Templates.{rules_of}
use Rattle.sap_translate.proofs.ByHand.RuleRuns.{rule_at, used, unmade, tagged, tags_messages}
use Rattle.sap_translate.proofs.ByHand.Tags.{EachLeft, every_left}
use Rattle.sap_translate.proofs.Shared.Takings.{taken_each}
use Rattle.sap_translate.proofs.Premises.LowerLaws.{Laws}
use Rattle.sap_translate.proofs.Premises.WellMade.{each_at}
use Rattle.sap_translate.proofs.Terms.Derive.{member}

pub run_to_owned : (laws : Laws) → (g : Sig) → RuleRun g (rules_of name_told) name_owned name_owned_trace
run_to_owned laws g =
    let named : IsMessageChoice g (tagged 2) = tags_messages laws g 2 in
    RuleRun.further (RuleRun.further (RuleRun.further RuleRun.starts
    (used laws (rule_at name_told 0) [] (tagged 2) (0, omega arith, refl) named Takes.nothing refl refl))
    (RuleStep.makes_name 2 (unmade [] 2 tt)))
    (RuleStep.owns 1 2 (Takes.one refl Takes.nothing))

pub other_is_made : (laws : Laws) → (g : Sig) → RuleStep g (rules_of name_told) other_drawn [] other_made
other_is_made laws g =
    used laws (rule_at name_told 1) (0 ∷ 2 ∷ []) (tagged 2) (1, omega arith, refl) (tags_messages laws g 2) (Takes.one refl (Takes.one refl Takes.nothing)) refl refl

-- no fact Fr stands
abbrev IsNoName : Fact → Type 0
IsNoName f = bytes_eq f.name (codes "Fr") ≡ false

no_names : EachLeft IsNoName name_owned.facts
no_names = (refl, tt)

-- the one rule of this name
abbrev IsItsRule : Rule → Type 0
IsItsRule r = bytes_eq r.name (codes "New_") ≡ true → r ≡ rule_at name_told 1

other : {r : Rule} → false ≡ true → r ≡ rule_at name_told 1
other e = absurd (cc)

its_rule : EachIn IsItsRule (rules_of name_told)
its_rule = (other, (λ e. refl, (other, (other, tt))))

module _ (g : Sig) (σ : Choice) where
  no_left : (left : List Fact) → ((f : Fact) → Member f left → IsNoName f) → AreEqualFacts (equations g) (instance_facts σ (rule_at name_told 1).left) left → ⊥
  no_left [] each h = absurd h
  no_left (f ∷ []) each h = absurd h.1
  no_left (f ∷ k ∷ []) each h =
      let is : bytes_eq k.name (codes "Fr") ≡ true = ap (λ n. bytes_eq n (codes "Fr")) h.1.0.name in
      let no : bytes_eq k.name (codes "Fr") ≡ false = each k (Member.later Member.here) in
      let z : true ≡ false = sym is ∙ no in
      cc
  no_left (f ∷ k ∷ l ∷ left) each h = absurd h.1.1

  pub not_owned : (r : Rule) (ks : List ℕ) (left acts right : List Fact) (rest : Pile) → Contains (rules_of name_told) r → r.name ≡ codes "New_" → Takes name_owned.facts ks left rest → IsUse g r σ left acts right → ⊥
  not_owned r ks left acts right rest has name takes by =
      let is : r ≡ rule_at name_told 1 = each_at IsItsRule (rules_of name_told) its_rule r (member r (rules_of name_told) has) (ap (λ n. bytes_eq n (codes "New_")) name) in
      no_left left (taken_each IsNoName (every_left IsNoName name_owned.facts no_names) takes) (subst (λ z. AreEqualFacts (equations g) (instance_facts σ z.left) left) is by.takes)
