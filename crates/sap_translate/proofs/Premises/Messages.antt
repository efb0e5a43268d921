-- In runs of rules over the signature all terms are messages.
use Rattle.sap_translate.proofs.Premises.LowerLaws.{Laws, nf, form_message, has_normal_form}
use Rattle.sap_translate.specs.Members.{Member}
use Rattle.std.proofs.Common.{◌≡◌, ℕ, suc, inl, inr, List, [], ◌∷◌, ◌++◌, Some, refl, sym, ap, ◌∙◌, map, length, subst}
use Rattle.sap_terms.specs.AdversaryFacts.{k_fact, in_fact, out_fact}
use Rattle.sap_terms.specs.Choice.{Choice, instance, instances}
use Rattle.sap_terms.specs.Ground.{IsGround, AreGround}
use Rattle.sap_terms.specs.Message.{IsMessage, IsOver, AreOver, IsMessageChoice}
use Rattle.sap_terms.specs.Modulo.{instance_fact, instance_facts}
use Rattle.sap_terms.specs.Signature.{Sig, HoldsBuiltins}
use Rattle.sap_terms.specs.Equations.{Equations, equations}
use Rattle.sap_terms.specs.Trace.{Trace}
use Rattle.sap_terms.specs.Tree.{Tree, variable, public, fresh, apply, Trees, none, more, trees_of, list_of, list_of-trees_of}
use Rattle.sap_terms.specs.declared.fact.Fact.{Fact}
use Rattle.sap_terms.specs.declared.var.Sort.TheVariants.{Msg}
use Rattle.sap_rule.specs.RuleSteps.{RuleState, RuleStep, RuleRun}
use Rattle.sap_rule.specs.declared.rule.Rule.{Rule}
use Rattle.sap_templates.specs.ChannelFacts.{fresh_fact}
use Rattle.sap_translate.specs.relation.Modulo.{AreNormalTerms}
use Rattle.sap_translate.specs.relation.Spelled.{TermsOver, FactsOver, ActOver, ActsOver, RulesOver}
use Rattle.sap_translate.specs.relation.Tidy.{AreMessageTerms, IsTidyFact, IsTidyTrace}
use Rattle.sap_translate.proofs.Terms.Derive.{member, members_of}
use Rattle.sap_translate.proofs.Terms.Forms.{nf_fact, nf_facts, public_normal, fresh_normal, forms_are_facts, equal_are_facts}
use Rattle.sap_translate.proofs.Shared.Inputs.{old, new, has_where}
use Rattle.sap_translate.proofs.Shared.Lookups.{Every, only_member, every_member_push}
use Rattle.sap_translate.proofs.Premises.Spelled.{rule_over}
use Rattle.sap_translate.proofs.Shared.Takings.{takes_every, every-adds, taken_each}

-- what a choice of messages makes of a term over the signature
mutual
  whole_ground : (g : Sig) (σ : Choice) (t : Tree) → IsMessageChoice g σ → IsGround (instance σ t)
  whole_ground g σ (variable x) good = (good x).ground
  whole_ground g σ (public n) good = tt
  whole_ground g σ (fresh k) good = tt
  whole_ground g σ (apply f ts) good = each_ground g σ ts good

  each_ground : (g : Sig) (σ : Choice) (ts : Trees) → IsMessageChoice g σ → AreGround (instances σ ts)
  each_ground g σ none good = tt
  each_ground g σ (more t ts) good = (whole_ground g σ t good, each_ground g σ ts good)

same_length : (σ : Choice) (ts : Trees) → length (list_of (instances σ ts)) ≡ length (list_of ts)
same_length σ none = refl
same_length σ (more t ts) = ap suc (same_length σ ts)

mutual
  whole_over : (g : Sig) (σ : Choice) (t : Tree) → IsMessageChoice g σ → IsOver g t → IsOver g (instance σ t)
  whole_over g σ (variable x) good o = (good x).over
  whole_over g σ (public n) good o = tt
  whole_over g σ (fresh k) good o = tt
  whole_over g σ (apply f ts) good o = (o.0 ∙ ap Some (sym (same_length σ ts)), each_over g σ ts good o.1)

  each_over : (g : Sig) (σ : Choice) (ts : Trees) → IsMessageChoice g σ → AreOver g ts → AreOver g (instances σ ts)
  each_over g σ none good o = tt
  each_over g σ (more t ts) good o = (whole_over g σ t good o.0, each_over g σ ts good o.1)

terms_messages : (laws : Laws) → (g : Sig) (σ : Choice) (ts : List Tree) → HoldsBuiltins g → IsMessageChoice g σ → TermsOver g ts → AreMessageTerms g (map ((nf laws) (equations g)) (map (instance σ) ts))
terms_messages laws g σ [] hold good o = tt
terms_messages laws g σ (t ∷ ts) hold good o = (
  (form_message laws) g (instance σ t) ((nf laws) (equations g) (instance σ t)) hold (whole_ground g σ t good) (whole_over g σ t good o.0) ((has_normal_form laws) (equations g) (instance σ t)),
  (terms_messages laws) g σ ts hold good o.1,
)

abbrev OfMessages : Sig → Fact → Type 0
OfMessages g f = AreMessageTerms g f.args

facts_messages : (laws : Laws) → (g : Sig) (σ : Choice) (fs : List Fact) (h : Fact) → HoldsBuiltins g → IsMessageChoice g σ → FactsOver g fs → Member h ((nf_facts laws) (equations g) (instance_facts σ fs)) → OfMessages g h
facts_messages laws g σ [] h hold good o m = elim m [ ]
facts_messages laws g σ (f ∷ fs) h hold good o m = first_fact ((nf_fact laws) (equations g) (instance_fact σ f)) ((nf_facts laws) (equations g) (instance_facts σ fs)) m ((terms_messages laws) g σ f.args hold good o.0) (λ k. (facts_messages laws) g σ fs h hold good o.1 k)
  where
    first_fact : (x : Fact) (xs : List Fact) → Member h (x ∷ xs) → OfMessages g x → (Member h xs → OfMessages g h) → OfMessages g h
    first_fact x xs Member.here n rest = n
    first_fact x xs (Member.later k) n rest = rest k

-- a fact among those taken
settled_member : (laws : Laws) → (e : Equations) (σ : Choice) (h : Fact) (fs : List Fact) → Member h fs → Member ((nf_fact laws) e (instance_fact σ h)) ((nf_facts laws) e (instance_facts σ fs))
settled_member laws e σ h [] m = elim m [ ]
settled_member laws e σ h (f ∷ fs) Member.here = Member.here
settled_member laws e σ h (f ∷ fs) (Member.later k) = Member.later ((settled_member laws) e σ h fs k)

act_messages : (laws : Laws) → (g : Sig) (σ : Choice) (left : List Fact) (f : Fact) → HoldsBuiltins g → IsMessageChoice g σ → ((h : Fact) → Member h ((nf_facts laws) (equations g) (instance_facts σ left)) → OfMessages g h) → ActOver g left f → IsTidyFact g ((nf_fact laws) (equations g) (instance_fact σ f))
act_messages laws g σ left f hold good taken a = record {
  messages = elim a.1 [
    | inl o ↦ (terms_messages laws) g σ f.args hold good o
    | inr h ↦ subst (λ ts. AreMessageTerms g (map ((nf laws) (equations g)) (map (instance σ) ts))) h.2 (taken ((nf_fact laws) (equations g) (instance_fact σ h.0)) ((settled_member laws) (equations g) σ h.0 left h.1))
  ];
  linear = a.0;
}

acts_messages : (laws : Laws) → (g : Sig) (σ : Choice) (left acts : List Fact) (h : Fact) → HoldsBuiltins g → IsMessageChoice g σ → ((h : Fact) → Member h ((nf_facts laws) (equations g) (instance_facts σ left)) → OfMessages g h) → ActsOver g left acts → Member h ((nf_facts laws) (equations g) (instance_facts σ acts)) → IsTidyFact g h
acts_messages laws g σ left [] h hold good taken o m = elim m [ ]
acts_messages laws g σ left (f ∷ fs) h hold good taken o m = first_act ((nf_fact laws) (equations g) (instance_fact σ f)) ((nf_facts laws) (equations g) (instance_facts σ fs)) m ((act_messages laws) g σ left f hold good taken o.0) (λ k. (acts_messages laws) g σ left fs h hold good taken o.1 k)
  where
    first_act : (x : Fact) (xs : List Fact) → Member h (x ∷ xs) → IsTidyFact g x → (Member h xs → IsTidyFact g h) → IsTidyFact g h
    first_act x xs Member.here n rest = n
    first_act x xs (Member.later k) n rest = rest k

messages_normal : (g : Sig) (ts : List Tree) → AreMessageTerms g ts → AreNormalTerms (equations g) ts
messages_normal g [] h = tt
messages_normal g (t ∷ ts) h = (h.0.normal, messages_normal g ts h.1)

-- the adversary's terms
fresh_one : (laws : Laws) → (g : Sig) (n : ℕ) → IsMessage g Msg (fresh n)
fresh_one laws g n = record { ground = tt; over = tt; normal = (fresh_normal laws) (equations g) n; sorted = refl }

public_one : (laws : Laws) → (g : Sig) (a : List ℕ) → IsMessage g Msg (public a)
public_one laws g a = record { ground = tt; over = tt; normal = (public_normal laws) (equations g) a; sorted = refl }

known_ground : (g : Sig) (ts : List Tree) → ((x : Tree) → Member x ts → IsMessage g Msg x) → AreGround (trees_of ts)
known_ground g [] h = tt
known_ground g (t ∷ ts) h = ((h t Member.here).ground, known_ground g ts (λ x m. h x (Member.later m)))

known_over : (g : Sig) (ts : List Tree) → ((x : Tree) → Member x ts → IsMessage g Msg x) → AreOver g (trees_of ts)
known_over g [] h = tt
known_over g (t ∷ ts) h = ((h t Member.here).over, known_over g ts (λ x m. h x (Member.later m)))

-- what holds along a run
record Messages (g : Sig) (s : RuleState) (full : Trace) : Type 0 where
  facts : Every (OfMessages g) s.facts
  known : (x : Tree) → Member x s.known → IsMessage g Msg x
  trace : IsTidyTrace g full

tidy_more : (g : Sig) (full : Trace) (p : List Fact) → IsTidyTrace g full → ((f : Fact) → Member f p → IsTidyFact g f) → IsTidyTrace g (full ++ p ∷ [])
tidy_more g full p h all k f m = elim (has_where full p k f m) [
  | old before a ↦ h k f a
  | new same a ↦ all f a
]

one_fact : (P : Fact → Type 0) (f : Fact) → P f → (h : Fact) → Member h (f ∷ []) → P h
one_fact P f p h m = subst P (sym (only_member m)) p

no_fact : (P : Fact → Type 0) (h : Fact) → Member h [] → P h
no_fact P h m = elim m [ ]

knows_more : (g : Sig) (known : List Tree) (x : Tree) → IsMessage g Msg x → ((y : Tree) → Member y known → IsMessage g Msg y) → (y : Tree) → Member y (known ++ x ∷ []) → IsMessage g Msg y
knows_more g known x h all y m = every_member_push (λ z. IsMessage g Msg z) known x all h y m

messages_step : (laws : Laws) → {g : Sig} {rules : List Rule} {s z : RuleState} {full : Trace} {acts : List Fact} → HoldsBuiltins g → RulesOver g rules → Messages g s full → RuleStep g rules s acts z → Messages g z (full ++ acts ∷ [])
messages_step laws {g} {s = s} {full = full} hold over w (RuleStep.makes_name n u) = record {
  facts = every-adds (OfMessages g) s.facts (fresh_fact (fresh n) ∷ []) w.facts (one_fact (OfMessages g) (fresh_fact (fresh n)) ((fresh_one laws) g n, tt));
  known = w.known;
  trace = tidy_more g full [] w.trace (no_fact (IsTidyFact g));
}
messages_step laws {g} {s = s} {full = full} hold over w (RuleStep.learns k x takes) = record {
  facts = takes_every (OfMessages g) w.facts takes;
  known = knows_more g s.known x (taken_each (OfMessages g) w.facts takes (out_fact x) Member.here).0 w.known;
  trace = tidy_more g full [] w.trace (no_fact (IsTidyFact g));
}
messages_step laws {g} {s = s} {full = full} hold over w (RuleStep.owns k n takes) = record {
  facts = takes_every (OfMessages g) w.facts takes;
  known = knows_more g s.known (fresh n) ((fresh_one laws) g n) w.known;
  trace = tidy_more g full [] w.trace (no_fact (IsTidyFact g));
}
messages_step laws {g} {s = s} {full = full} hold over w (RuleStep.knows_public a) = record {
  facts = w.facts;
  known = knows_more g s.known (public a) ((public_one laws) g a) w.known;
  trace = tidy_more g full [] w.trace (no_fact (IsTidyFact g));
}
messages_step laws {g} {s = s} {full = full} hold over w (RuleStep.applies f ts x p a all n) =
    let each : (y : Tree) → Member y ts → IsMessage g Msg y = λ y m. w.known y (members_of s.known ts all y m) in
    record {
      facts = w.facts;
      known = knows_more g s.known x ((form_message laws) g (apply f (trees_of ts)) x hold (known_ground g ts each) (a ∙ ap (λ us. Some (length us)) (sym (list_of-trees_of ts)), known_over g ts each) n) w.known;
      trace = tidy_more g full [] w.trace (no_fact (IsTidyFact g));
    }
messages_step laws {g} {s = s} {full = full} hold over w (RuleStep.gives x m) =
    let one = w.known x (member x s.known m) in
    record {
      facts = every-adds (OfMessages g) s.facts (in_fact x ∷ []) w.facts (one_fact (OfMessages g) (in_fact x) (one, tt));
      known = w.known;
      trace = tidy_more g full (k_fact x ∷ []) w.trace (one_fact (IsTidyFact g) (k_fact x) (record { messages = (one, tt); linear = λ e. refl }));
    }
messages_step laws {g} {rules} {s = s} {full = full} hold over w (RuleStep.uses {rest = rest} r ks σ left acts right m takes fits) =
    let here = rule_over g rules r over (member r rules m) in
    let each : (h : Fact) → Member h left → OfMessages g h = λ h k. taken_each (OfMessages g) w.facts takes h k in
    let left_is : left ≡ (nf_facts laws) (equations g) (instance_facts σ r.left) = (equal_are_facts laws) (equations g) (instance_facts σ r.left) left fits.takes (λ h k. messages_normal g h.args (each h k)) in
    let acts_are : acts ≡ (nf_facts laws) (equations g) (instance_facts σ r.acts) = (forms_are_facts laws) (equations g) (instance_facts σ r.acts) acts fits.shows in
    let right_is : right ≡ (nf_facts laws) (equations g) (instance_facts σ r.right) = (forms_are_facts laws) (equations g) (instance_facts σ r.right) right fits.adds in
    record {
      facts = every-adds (OfMessages g) rest right (takes_every (OfMessages g) w.facts takes) (λ h k. (facts_messages laws) g σ r.right h hold fits.messages here.right (subst (λ fs. Member h fs) right_is k));
      known = w.known;
      trace = tidy_more g full acts w.trace (λ h k. (acts_messages laws) g σ r.left r.acts h hold fits.messages (λ x l. each x (subst (λ fs. Member x fs) (sym left_is) l)) here.acts (subst (λ fs. Member h fs) acts_are k));
    }

messages : (laws : Laws) → {g : Sig} {rules : List Rule} {s : RuleState} {full : Trace} → HoldsBuiltins g → RulesOver g rules → RuleRun g rules s full → Messages g s full
messages laws hold over RuleRun.starts = record { facts = λ t a e. absurd (cc); known = λ x m. elim m [ ]; trace = λ k f m. absurd (let z = m.1 in cc) }
messages laws hold over (RuleRun.further run step) = (messages_step laws) hold over ((messages laws) hold over run) step

-- the full trace of a run is one of messages
pub tidy_run : (laws : Laws) → {g : Sig} {rules : List Rule} {s : RuleState} {full : Trace} → HoldsBuiltins g → RulesOver g rules → RuleRun g rules s full → IsTidyTrace g full
tidy_run laws hold over run = ((messages laws) hold over run).trace
