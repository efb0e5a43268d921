-- A sender that waits under one tag doesn't go on by what is acknowledged under another.
use Rattle.std.proofs.Common.{◌≡◌, ℕ, zero, suc, List, [], ◌∷◌, Bool, Some, None, true, false, refl, sym, ap, subst, ◌∙◌}
use Rattle.std.specs.Prelude.{codes, Contains}
use Rattle.std.specs.List.{AllZip}
use Rattle.std.specs.Str.{bytes_eq}
use Rattle.sap_formula.specs.Truth.{EachIn}
use Rattle.sap_terms.specs.Choice.{Choice}
use Rattle.sap_terms.specs.Equal.{IsTheoryEqual}
use Rattle.sap_terms.specs.Equations.{equations}
use Rattle.sap_terms.specs.Modulo.{instance_facts, AreEqualFacts}
use Rattle.sap_terms.specs.Piles.{Pile, Takes}
use Rattle.sap_terms.specs.Signature.{Sig}
use Rattle.sap_terms.specs.Tree.{Tree, fresh}
use Rattle.sap_terms.specs.declared.fact.Fact.{Fact}
use Rattle.sap_place.specs.StateFacts.{tag}
use Rattle.sap_rule.specs.RuleSteps.{IsUse}
use Rattle.sap_rule.specs.declared.rule.Rule.{Rule}
use Rattle.sap_translate.specs.Examples.{c, two_senders, both_wait}
use Rattle.sap_translate.specs.Members.{Member}
use Rattle.sap_templates.specs.Templates.{rules_of}
use Rattle.sap_translate.proofs.ByHand.RuleRuns.{rule_at}
use Rattle.sap_translate.proofs.Shared.Lookups.{Every}
use Rattle.sap_translate.proofs.Shared.Takings.{taken_each}
use Rattle.sap_translate.proofs.Premises.LowerLaws.{Laws, nf-equal, nf-fresh, chain, back}
use Rattle.sap_translate.proofs.Premises.WellMade.{each_at}
use Rattle.sap_translate.proofs.Terms.Derive.{member}

-- so it is with each fact of the pile
abbrev pub EachLeft : (Fact → Type 0) → Pile → Type 0
EachLeft P [] = Unit {0}
EachLeft P (None ∷ facts) = EachLeft P facts
EachLeft P (Some f ∷ facts) = P f × EachLeft P facts

pub every_left : (P : Fact → Type 0) (facts : Pile) → EachLeft P facts → Every P facts
every_left P [] h t a e = absurd (cc)
every_left P (None ∷ facts) h zero a e = absurd (cc)
every_left P (None ∷ facts) h (suc t) a e = every_left P facts h t a e
every_left P (Some f ∷ facts) h zero a e = subst P (let same : f ≡ a = cc in same) h.0
every_left P (Some f ∷ facts) h (suc t) a e = every_left P facts h.1 t a e

-- the waiting fact of the second sender has the tag ~3, and what is acknowledged has ~2
abbrev HasTag : Fact → Type 0
HasTag f = (bytes_eq f.name (codes "Semi_1221") ≡ true → f.args ≡ fresh 1 ∷ fresh 3 ∷ []) × (bytes_eq f.name (codes "Ack") ≡ true → f.args ≡ fresh 2 ∷ [])

have_tags : EachLeft HasTag both_wait.facts
have_tags = (
  (λ e. absurd (let z : false ≡ true = e in cc), λ e. absurd (let z : false ≡ true = e in cc)),
  (
    (λ e. absurd (let z : false ≡ true = e in cc), λ e. refl),
    (
      (λ e. absurd (let z : false ≡ true = e in cc), λ e. absurd (let z : false ≡ true = e in cc)),
      ((λ e. absurd (let z : false ≡ true = e in cc), λ e. absurd (let z : false ≡ true = e in cc)), ((λ e. refl, λ e. absurd (let z : false ≡ true = e in cc)), tt)),
    ),
  ),
)

abbrev is_third : Tree → Bool
is_third (fresh (suc (suc (suc zero)))) = true
is_third _ = false

-- the one rule of this name
abbrev IsItsRule : Rule → Type 0
IsItsRule r = bytes_eq r.name (codes "OutAck_1221") ≡ true → r ≡ rule_at two_senders 15

other : {r : Rule} → false ≡ true → r ≡ rule_at two_senders 15
other e = absurd (cc)

its_rule : EachIn IsItsRule (rules_of two_senders)
its_rule = (other, (other, (other, (other, (other, (other, (other, (other, (other, (other, (other, (other, (other, (other, (other, (λ e. refl, (other, (other, tt))))))))))))))))))

module _ (laws : Laws) (g : Sig) (σ : Choice) where
  first_of_two : (ts : List Tree) → AllZip (IsTheoryEqual (equations g)) (σ c ∷ σ tag ∷ []) ts → ts ≡ fresh 1 ∷ fresh 3 ∷ [] → IsTheoryEqual (equations g) (σ tag) (fresh 3)
  first_of_two ts h e = let at : AllZip (IsTheoryEqual (equations g)) (σ c ∷ σ tag ∷ []) (fresh 1 ∷ fresh 3 ∷ []) = subst (AllZip (IsTheoryEqual (equations g)) (σ c ∷ σ tag ∷ [])) e h in at.1.0

  first_of_one : (ts : List Tree) → AllZip (IsTheoryEqual (equations g)) (σ tag ∷ []) ts → ts ≡ fresh 2 ∷ [] → IsTheoryEqual (equations g) (σ tag) (fresh 2)
  first_of_one ts h e = let at : AllZip (IsTheoryEqual (equations g)) (σ tag ∷ []) (fresh 2 ∷ []) = subst (AllZip (IsTheoryEqual (equations g)) (σ tag ∷ [])) e h in at.0

  tags_differ : IsTheoryEqual (equations g) (σ tag) (fresh 3) → IsTheoryEqual (equations g) (σ tag) (fresh 2) → ⊥
  tags_differ three two =
      let same : fresh 3 ≡ fresh 2 = sym ((nf-fresh laws) (equations g) 3) ∙ ((nf-equal laws) (equations g) ((chain laws) ((back laws) three) two) ∙ (nf-fresh laws) (equations g) 2) in
      let z : true ≡ false = ap is_third same in
      cc

  no_left : (left : List Fact) → ((f : Fact) → Member f left → HasTag f) → AreEqualFacts (equations g) (instance_facts σ (rule_at two_senders 15).left) left → ⊥
  no_left [] each h = absurd h
  no_left (f ∷ []) each h = absurd h.1
  no_left (f ∷ k ∷ []) each h =
      let waits = h.0 in
      let came = h.1.0 in
      let three = first_of_two f.args waits.args ((each f Member.here).0 (ap (λ n. bytes_eq n (codes "Semi_1221")) waits.name)) in
      let two = first_of_one k.args came.args ((each k (Member.later Member.here)).1 (ap (λ n. bytes_eq n (codes "Ack")) came.name)) in
      tags_differ three two
  no_left (f ∷ k ∷ l ∷ left) each h = absurd h.1.1

  pub not_by_other_tag : (r : Rule) (ks : List ℕ) (left acts right : List Fact) (rest : Pile) → Contains (rules_of two_senders) r → r.name ≡ codes "OutAck_1221" → Takes both_wait.facts ks left rest → IsUse g r σ left acts right → ⊥
  not_by_other_tag r ks left acts right rest has name takes by =
      let is : r ≡ rule_at two_senders 15 = each_at IsItsRule (rules_of two_senders) its_rule r (member r (rules_of two_senders) has) (ap (λ n. bytes_eq n (codes "OutAck_1221")) name) in
      no_left left (taken_each HasTag (every_left HasTag both_wait.facts have_tags) takes) (subst (λ z. AreEqualFacts (equations g) (instance_facts σ z.left) left) is by.takes)
