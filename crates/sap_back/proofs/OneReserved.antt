-- Of what a line of the rules of a process shows, one fact has a reserved name, or none.
use Rattle.std.proofs.Common.{◌≡◌, ◌<◌, ◌≤◌, ◌^◌, ◌⊎◌, arith, true, false, List, [], ◌∷◌, ℕ, sym, subst, ◌∙◌, inl, inr}
use Rattle.std.specs.Prelude.{Contains}
use Rattle.sap_terms.specs.Choice.{Choice}
use Rattle.sap_terms.specs.Equations.{equations}
use Rattle.sap_terms.specs.Modulo.{instance_facts, AreFormsOfFacts}
use Rattle.sap_terms.specs.Reserved.{is_reserved}
use Rattle.sap_terms.specs.Signature.{Sig}
use Rattle.sap_terms.specs.declared.fact.Fact.{Fact}
use Rattle.sap_terms.specs.declared.limits.TheConstants.{MOST_PROCESS_PLACES}
use Rattle.sap_terms.specs.declared.var.Var.{Var}
use Rattle.sap_terms.proofs.PlainLaws.Items.{cons_cases, got_contained}
use Rattle.sap_process.specs.Action as action
use Rattle.sap_process.specs.Action.{Action}
use Rattle.sap_process.specs.Places.{place}
use Rattle.sap_process.specs.Proc as whole
use Rattle.sap_process.specs.Proc.{Proc, act, node_count}
use Rattle.sap_restrict.specs.Stands.{HasOneReserved}
use Rattle.sap_rule.specs.declared.rule.Rule.{Rule}
use Rattle.sap_runs.specs.Limits.{HasFewNodes}
use Rattle.sap_runs.specs.declared.rule_step.RStep.{RStep}
use Rattle.sap_runs.specs.declared.rule_step.RStep.TheVariants as rline
use Rattle.sap_steps.specs.Lines.{IsLine}
use Rattle.sap_translate.specs.Members.{Member}
use Rattle.sap_translate.specs.PlaceRules.{IsOfPlace}
use Rattle.sap_translate.specs.Scoped.{AreUnreserved}
use Rattle.sap_translate.specs.Sound.{IsSound, SoundAt, IsSoundAction}
use Rattle.sap_templates.specs.Templates.{rules_of, init_rule, own_rules, action_rules, embedded_acts}
use Rattle.sap_back.specs.code.Replayed.{ShowOneReserved}
use Rattle.sap_back.proofs.Named.{found_among}

-- none of them has a reserved name
abbrev NoneReserved : List Fact → Type 0
NoneReserved [] = Unit {0}
NoneReserved (f ∷ fs) = (is_reserved f.name ≡ false) × NoneReserved fs

-- none but the first
abbrev FirstAlone : List Fact → Type 0
FirstAlone [] = Unit {0}
FirstAlone (f ∷ fs) = NoneReserved fs

-- so it is of what each of these rules shows
abbrev EachFirstAlone : List Rule → Type 0
EachFirstAlone [] = Unit {0}
EachFirstAlone (r ∷ rs) = FirstAlone r.acts × EachFirstAlone rs

none_among : (fs : List Fact) (f : Fact) → NoneReserved fs → Contains fs f → is_reserved f.name ≡ false
none_among [] f n m = absurd (let k = (got_contained [] f m).1 in cc)
none_among (h ∷ fs) f n m = elim (cons_cases h fs f m) [ inl e ↦ subst (λ (z : Fact). is_reserved z.name ≡ false) e n.0 | inr k ↦ none_among fs f n.1 k ]

first_reserved : (h : Fact) (fs : List Fact) (f : Fact) → NoneReserved fs → Contains (h ∷ fs) f → is_reserved f.name ≡ true → h ≡ f
first_reserved h fs f n m r = elim (cons_cases h fs f m) [ inl e ↦ e | inr k ↦ absurd (let z : true ≡ false = sym r ∙ none_among fs f n k in cc) ]

one_reserved : (fs : List Fact) → FirstAlone fs → HasOneReserved fs
one_reserved [] n f h a b r s = absurd (let k = (got_contained [] f a).1 in cc)
one_reserved (x ∷ fs) n f h a b r s = sym (first_reserved x fs f n a r) ∙ first_reserved x fs h n b s

unreserved : (fs : List Fact) → AreUnreserved fs → NoneReserved fs
unreserved [] u = tt
unreserved (f ∷ fs) u = (u f Member.here, unreserved fs (λ h m. u h (Member.later m)))

-- normal forms of instances have the same names
none_kept : (g : Sig) (σ : Choice) (fs hs : List Fact) → AreFormsOfFacts (equations g) (instance_facts σ fs) hs → NoneReserved fs → NoneReserved hs
none_kept g σ [] [] a n = tt
none_kept g σ [] (h ∷ hs) a n = absurd a
none_kept g σ (f ∷ fs) [] a n = absurd a
none_kept g σ (f ∷ fs) (h ∷ hs) a n = (subst (λ z. is_reserved z ≡ false) (sym a.0.name) n.0, none_kept g σ fs hs a.1 n.1)

first_kept : (g : Sig) (σ : Choice) (fs hs : List Fact) → AreFormsOfFacts (equations g) (instance_facts σ fs) hs → FirstAlone fs → FirstAlone hs
first_kept g σ [] [] a n = tt
first_kept g σ [] (h ∷ hs) a n = absurd a
first_kept g σ (f ∷ fs) [] a n = absurd a
first_kept g σ (f ∷ fs) (h ∷ hs) a n = none_kept g σ fs hs a.1 n

first_of_each : (rs : List Rule) (r : Rule) → EachFirstAlone rs → Contains rs r → FirstAlone r.acts
first_of_each [] r n m = absurd (let k = (got_contained [] r m).1 in cc)
first_of_each (x ∷ rs) r n m = elim (cons_cases x rs r m) [ inl e ↦ subst (λ (z : Rule). FirstAlone z.acts) e n.0 | inr k ↦ first_of_each rs r n.1 k ]

embedded_alone : (a : List Fact) → AreUnreserved a → FirstAlone (embedded_acts a)
embedded_alone [] u = tt
embedded_alone (f ∷ fs) u = unreserved (f ∷ fs) u

action_alone : (g : Sig) (path : List ℕ) (v : List Var) (a : Action) (p : Proc) → IsSoundAction g v a p → EachFirstAlone (action_rules path v a)
action_alone g path v (action.new x) p s = (tt, tt)
action_alone g path v (action.out m) p s = (tt, tt)
action_alone g path v (action.send m n) p s = (tt, (tt, (tt, tt)))
action_alone g path v (action.input m) p s = (tt, tt)
action_alone g path v (action.receive m n) p s = (tt, (tt, tt))
action_alone g path v (action.event f) p s = ((s.0, tt), tt)
action_alone g path v (action.insert m n) p s = (tt, tt)
action_alone g path v (action.delete m) p s = (tt, tt)
action_alone g path v (action.lock m l) p s = (tt, tt)
action_alone g path v (action.unlock m l) p s = (tt, tt)
action_alone g path v (action.embedded l a r) p s = (embedded_alone a s.1, tt)

place_alone : (g : Sig) (path : List ℕ) (v : List Var) (b : Proc) → SoundAt g v b → EachFirstAlone (own_rules path v b)
place_alone g path v whole.nil s = (tt, tt)
place_alone g path v (whole.parallel p q) s = (tt, tt)
place_alone g path v (whole.replicated p) s = (tt, (tt, tt))
place_alone g path v (act a p) s = action_alone g path v a p s
place_alone g path v (whole.test m n p q) s = (tt, (tt, tt))
place_alone g path v (whole.lookup m x p q) s = (tt, (tt, tt))

rule_alone : (g : Sig) (q : Proc) → ((r : Rule) → Contains (rules_of q) r → (r ≡ init_rule) ⊎ IsOfPlace q r) → IsSound g q → (r : Rule) → Contains (rules_of q) r → FirstAlone r.acts
rule_alone g q origin sound r m = elim (origin r m) [
  | inl e ↦ subst (λ (z : Rule). FirstAlone z.acts) (sym e) tt
  | inr o ↦ first_of_each (own_rules o.path o.scope o.body) r (place_alone g o.path o.scope o.body (sound.0 o.path (place o.path o.scope o.body) o.stands)) o.own
]

none_shown : (acts : List Fact) → acts ≡ [] → FirstAlone acts
none_shown acts e = subst FirstAlone (sym e) tt

pub show_one : (g : Sig) (q : Proc) → ((r : Rule) → Contains (rules_of q) r → (r ≡ init_rule) ⊎ IsOfPlace q r) → IsSound g q → ShowOneReserved g (rules_of q)
show_one g q origin sound s z line acts is = one_reserved acts (alone line is)
  where
    alone : (line : RStep) → IsLine g (rules_of q) HasFewNodes s line acts z → FirstAlone acts
    alone (rline.Fresh n) h = none_shown acts h.silent
    alone (rline.Learn k) (t, h) = none_shown acts h.silent
    alone (rline.Own k) (n, h) = none_shown acts h.silent
    alone (rline.Public a) h = none_shown acts h.0
    alone (rline.Apply f ks) h = none_shown acts h.silent
    alone (rline.Know k) h = subst FirstAlone (sym h.shows) tt
    alone (rline.Rule name ks b) h =
        first_kept g h.fires.choice h.rule.acts acts h.fires.use_.shows (rule_alone g q origin sound h.rule (found_among (rules_of q) name h.rule h.named))

-- a process that isn't too large for a file has places that the machine numbers
pub small_places : (p : Proc) → node_count p ≤ MOST_PROCESS_PLACES → node_count p < 2 ^ 64
small_places p h = omega arith
