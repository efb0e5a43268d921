-- Runs of the rules of small processes, step by step: one whose full trace isn't admitted, and one to where a sender waits that
-- nobody acknowledges.
use Rattle.std.proofs.Common.{◌≡◌, ℕ, List, [], ◌∷◌, Bool, true, false, ◌&&◌, refl, arith}
use Rattle.std.specs.Prelude.{codes, slice_index_or, Contains, if◌then◌else◌}
use Rattle.std.specs.List.{AllZip}
use Rattle.std.specs.Str.{bytes_eq}
use Rattle.sap_terms.proofs.PlainLaws.Tests.{and_left, and_right}
use Rattle.sap_terms.specs.Choice.{Choice}
use Rattle.sap_terms.specs.Equal.{IsTheoryEqual}
use Rattle.sap_terms.specs.Equations.{Equations, equations}
use Rattle.sap_terms.specs.Message.{IsMessage, IsMessageChoice}
use Rattle.sap_terms.specs.Modulo.{instance_facts, AreEqualFacts, AreFormsOfFacts}
use Rattle.sap_terms.specs.Normal.{IsNormalForm}
use Rattle.sap_terms.specs.Piles.{Pile, Takes, adds}
use Rattle.sap_terms.specs.Signature.{Sig}
use Rattle.sap_terms.specs.Tree.{Tree, public, fresh, variable, apply}
use Rattle.sap_terms.specs.declared.fact.Fact.{Fact}
use Rattle.sap_terms.specs.declared.var.Sort.{Sort}
use Rattle.sap_terms.specs.declared.var.Sort.TheVariants.{Msg, Fresh, Pub}
use Rattle.sap_process.specs.Proc.{Proc}
use Rattle.sap_rule.specs.RuleSteps.{RuleState, leaves, RuleStep, RuleRun, IsFullTrace}
use Rattle.sap_rule.specs.declared.rule.Rule.{Rule}
use Rattle.sap_translate.specs.Examples.{term_a, two_inputs, two_inputs_served_once, two_senders, both_wait, both_wait_trace, first_goes_on}
use Rattle.sap_formula.specs.Truth.{EachIn}
use Rattle.sap_translate.specs.Members.{Member}
use Rattle.sap_templates.specs.Templates.{init_rule, rules_of}
use Rattle.sap_translate.proofs.ByHand.Parts.{names_messages, all_named}
use Rattle.sap_translate.proofs.Premises.LowerLaws.{Laws}
use Rattle.sap_translate.proofs.Premises.WellMade.{each_at}
use Rattle.sap_translate.proofs.Terms.Derive.{contains, member}

-- all arguments are names
abbrev is_name : Tree → Bool
is_name (public n) = true
is_name (fresh k) = true
is_name (variable v) = false
is_name (apply f ts) = false

abbrev are_names : List Tree → Bool
are_names [] = true
are_names (t ∷ ts) = is_name t && are_names ts

abbrev have_names : List Fact → Bool
have_names [] = true
have_names (f ∷ fs) = are_names f.args && have_names fs

name_form : (laws : Laws) → (e : Equations) (t : Tree) → is_name t ≡ true → IsNormalForm e t t
name_form laws e (public n) h = record { equal = IsTheoryEqual.same; normal = laws.leaves.of_public_name e n }
name_form laws e (fresh k) h = record { equal = IsTheoryEqual.same; normal = laws.leaves.of_fresh_name e k }
name_form laws e (variable v) h = absurd (cc)
name_form laws e (apply f ts) h = absurd (cc)

name_forms : (laws : Laws) → (e : Equations) (ts : List Tree) → are_names ts ≡ true → AllZip (IsNormalForm e) ts ts
name_forms laws e [] h = tt
name_forms laws e (t ∷ ts) h = (name_form laws e t (and_left (is_name t) (are_names ts) h), name_forms laws e ts (and_right (is_name t) (are_names ts) h))

fact_forms : (laws : Laws) → (e : Equations) (fs : List Fact) → have_names fs ≡ true → AreFormsOfFacts e fs fs
fact_forms laws e [] h = tt
fact_forms laws e (f ∷ fs) h =
    (record { name = refl; persistent = refl; args = name_forms laws e f.args (and_left (are_names f.args) (have_names fs) h) }, fact_forms laws e fs (and_right (are_names f.args) (have_names fs) h))

terms_equal : (e : Equations) (ts : List Tree) → AllZip (IsTheoryEqual e) ts ts
terms_equal e [] = tt
terms_equal e (t ∷ ts) = (IsTheoryEqual.same, terms_equal e ts)

facts_equal : (e : Equations) (fs : List Fact) → AreEqualFacts e fs fs
facts_equal e [] = tt
facts_equal e (f ∷ fs) = (record { name = refl; persistent = refl; args = terms_equal e f.args }, facts_equal e fs)

-- the rule with this number, counted from 0
abbrev pub rule_at : Proc → ℕ → Rule
rule_at p n = slice_index_or (rules_of p) n init_rule

-- a use of a rule where all that it shows and adds are names
pub used : (laws : Laws) → {g : Sig} {rules : List Rule} {s : RuleState} {rest : Pile} (r : Rule) (ks : List ℕ) (σ : Choice) → Contains rules r → IsMessageChoice g σ → Takes s.facts ks (instance_facts σ r.left) rest
    → have_names (instance_facts σ r.acts) ≡ true → have_names (instance_facts σ r.right) ≡ true
    → RuleStep g rules s (instance_facts σ r.acts) (leaves s (adds rest (instance_facts σ r.right)))
used laws {g = g} r ks σ is messages takes acts right =
    RuleStep.uses r ks σ (instance_facts σ r.left) (instance_facts σ r.acts) (instance_facts σ r.right) is takes (record {
      messages = messages;
      takes = facts_equal (equations g) (instance_facts σ r.left);
      shows = fact_forms laws (equations g) (instance_facts σ r.acts) acts;
      adds = fact_forms laws (equations g) (instance_facts σ r.right) right;
    })

-- both inputs take what the adversary gave before
pub served_once : (laws : Laws) → (g : Sig) → IsFullTrace g (rules_of two_inputs) two_inputs_served_once
served_once laws g =
    let σ = all_named (codes "a") in
    let named : IsMessageChoice g σ = names_messages laws g (codes "a") in (
      _,
      RuleRun.further (RuleRun.further (RuleRun.further (RuleRun.further (RuleRun.further (RuleRun.further (RuleRun.further RuleRun.starts
          (used laws (rule_at two_inputs 0) [] σ (0, omega arith, refl) named Takes.nothing refl refl))
          (used laws (rule_at two_inputs 1) (0 ∷ []) σ (1, omega arith, refl) named (Takes.one refl Takes.nothing) refl refl))
          (RuleStep.knows_public (codes "a")))
          (RuleStep.gives term_a (contains (Member.here {xs = []})))) (RuleStep.gives term_a (contains (Member.here {xs = []}))))
          (used laws (rule_at two_inputs 2) (1 ∷ 3 ∷ []) σ (2, omega arith, refl) named (Takes.one refl (Takes.one refl Takes.nothing)) refl refl))
          (used laws (rule_at two_inputs 5) (2 ∷ 4 ∷ []) σ (5, omega arith, refl) named (Takes.one refl (Takes.one refl Takes.nothing)) refl refl),
    )

-- the channel is ~1, and each tag is this name
abbrev pub name_of : ℕ → List ℕ → Sort → Tree
name_of n v Msg = public (codes "m")
name_of n v Fresh = fresh (if bytes_eq v (codes "c") then 1 else n)
name_of n v Pub = public (codes "m")

abbrev pub tagged : ℕ → Choice
tagged n v = name_of n v.name v.sort

of_message : (laws : Laws) → (g : Sig) (n : ℕ) (v : List ℕ) (s : Sort) → IsMessage g s (name_of n v s)
of_message laws g n v Msg = record { ground = tt; over = tt; normal = laws.leaves.of_public_name (equations g) (codes "m"); sorted = refl }
of_message laws g n v Fresh = record { ground = tt; over = tt; normal = laws.leaves.of_fresh_name (equations g) (if bytes_eq v (codes "c") then 1 else n); sorted = refl }
of_message laws g n v Pub = record { ground = tt; over = tt; normal = laws.leaves.of_public_name (equations g) (codes "m"); sorted = refl }

pub tags_messages : (laws : Laws) → (g : Sig) (n : ℕ) → IsMessageChoice g (tagged n)
tags_messages laws g n v = of_message laws g n v.name v.sort

pub unmade : (made : List ℕ) (n : ℕ) → EachIn (λ k. k ≡ n → ⊥) made → Contains made n → ⊥
unmade made n others has = each_at (λ k. k ≡ n → ⊥) made others n (member n made has) refl

-- the first sender's message is taken, and then the second sender sends
pub run_to_both : (laws : Laws) → (g : Sig) → RuleRun g (rules_of two_senders) both_wait both_wait_trace
run_to_both laws g =
    let two : IsMessageChoice g (tagged 2) = tags_messages laws g 2 in
    let three : IsMessageChoice g (tagged 3) = tags_messages laws g 3 in
    RuleRun.further (RuleRun.further (RuleRun.further (RuleRun.further (RuleRun.further (RuleRun.further (RuleRun.further (RuleRun.further (RuleRun.further (RuleRun.further (RuleRun.further (RuleRun.further RuleRun.starts
    (used laws (rule_at two_senders 0) [] (tagged 2) (0, omega arith, refl) two Takes.nothing refl refl))
    (RuleStep.makes_name 1 (unmade [] 1 tt)))
    (used laws (rule_at two_senders 1) (0 ∷ 1 ∷ []) (tagged 2) (1, omega arith, refl) two (Takes.one refl (Takes.one refl Takes.nothing)) refl refl))
    (used laws (rule_at two_senders 2) (2 ∷ []) (tagged 2) (2, omega arith, refl) two (Takes.one refl Takes.nothing) refl refl))
    (used laws (rule_at two_senders 7) (4 ∷ []) (tagged 2) (7, omega arith, refl) two (Takes.one refl Takes.nothing) refl refl))
    (RuleStep.makes_name 2 (unmade (1 ∷ []) 2 (λ e. omega (arith, e), tt))))
    (used laws (rule_at two_senders 4) (3 ∷ 7 ∷ []) (tagged 2) (4, omega arith, refl) two (Takes.one refl (Takes.one refl Takes.nothing)) refl refl))
    (used laws (rule_at two_senders 9) (5 ∷ 8 ∷ []) (tagged 2) (9, omega arith, refl) two (Takes.one refl (Takes.one refl Takes.nothing)) refl refl))
    (used laws (rule_at two_senders 10) (11 ∷ []) (tagged 2) (10, omega arith, refl) two (Takes.one refl Takes.nothing) refl refl))
    (used laws (rule_at two_senders 12) (6 ∷ []) (tagged 2) (12, omega arith, refl) two (Takes.one refl Takes.nothing) refl refl))
    (RuleStep.makes_name 3 (unmade (1 ∷ 2 ∷ []) 3 (λ e. omega (arith, e), (λ e. omega (arith, e), tt)))))
    (used laws (rule_at two_senders 14) (13 ∷ 14 ∷ []) (tagged 3) (14, omega arith, refl) three (Takes.one refl (Takes.one refl Takes.nothing)) refl refl)

-- the first sender goes on by what was acknowledged under its tag
pub own_tag : (laws : Laws) → (g : Sig) → RuleStep g (rules_of two_senders) both_wait [] first_goes_on
own_tag laws g = used laws (rule_at two_senders 5) (9 ∷ 10 ∷ []) (tagged 2) (5, omega arith, refl) (tags_messages laws g 2) (Takes.one refl (Takes.one refl Takes.nothing)) refl refl
