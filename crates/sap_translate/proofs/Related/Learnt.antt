-- What the adversary can give, the rules can come to know.
use Rattle.sap_translate.proofs.Premises.LowerLaws.{Laws}
use Rattle.sap_translate.specs.Members.{Member}
use Rattle.sap_translate.proofs.Terms.Derive.{contains, member, all_contained, ends_in}
use Rattle.sap_translate.proofs.Parts.Control.{counted_fact}
use Rattle.sap_translate.proofs.Parts.Kept.{kept_public, kept_applies, kept_learn}
use Rattle.sap_translate.proofs.Shared.Lookups.{member_last, member_left, get-set_other}
use Rattle.sap_translate.proofs.Shared.Inputs.{has_where, old, new}
use Rattle.sap_templates.specs.Templates.{rules_of}
use Rattle.sap_translate.specs.relation.Answered.{Deduces}
use Rattle.sap_translate.specs.relation.Answers.{AtRest}
use Rattle.sap_translate.specs.relation.Agents.{Agent}
use Rattle.sap_translate.specs.relation.Related.{Related}
use Rattle.sap_translate.specs.relation.RuleMoves.{RuleMove, RuleMoves, IsRuleMove, stays, further}
use Rattle.sap_translate.specs.relation.Shown.{ShowsAt}
use Rattle.sap_process.specs.Configuration.{Config}
use Rattle.sap_process.specs.Proc.{Proc}
use Rattle.sap_rule.specs.RuleSteps.{RuleState, RuleStep, RuleRun}
use Rattle.sap_rule.specs.declared.rule.Rule.{Rule}
use Rattle.sap_terms.specs.AdversaryFacts.{out_fact}
use Rattle.sap_terms.specs.Deduce.{IsDerived, IsDerivation}
use Rattle.sap_terms.specs.Piles.{Takes, nothing, one}
use Rattle.sap_terms.specs.Signature.{Sig}
use Rattle.sap_terms.specs.Trace.{Trace}
use Rattle.sap_terms.specs.Tree.{Tree, public}
use Rattle.sap_terms.specs.declared.fact.Fact.{Fact}
use Rattle.std.proofs.Common.{◌≡◌, ℕ, inl, inr, List, [], ◌∷◌, ◌++◌, Option, Some, None, refl, sym, ap, ◌∙◌, slice_get, slice_set, subst, append-nil, append_assoc}
use Rattle.std.specs.Prelude.{All, Contains}

-- one move more
pub and_then : {g : Sig} {rules : List Rule} {s y z : RuleState} {moves : List RuleMove} {move : RuleMove} {more : Trace} {acts : List Fact} → RuleMoves g rules s moves more y → IsRuleMove g rules y move acts z → RuleMoves g rules s (moves ++ move ∷ []) (more ++ acts ∷ []) z
and_then stays k = further k stays
and_then (further h t) k = further h (and_then t k)

pub one_more : {ts : List Tree} (t : Tree) (known : List Tree) → Member t known → ((z : Tree) → Member z ts → Member z known) → (z : Tree) → Member z (t ∷ ts) → Member z known
one_more t known h all z Member.here = h
one_more t known h all z (Member.later m) = all z m

none_shown : (k : ℕ) (f : Fact) → ShowsAt [] k f → ⊥
none_shown k f h = let e = h.1 in cc

still_silent : (more : Trace) → ((k : ℕ) (f : Fact) → ShowsAt more k f → ⊥) → (k : ℕ) (f : Fact) → ShowsAt (more ++ [] ∷ []) k f → ⊥
still_silent more h k f w = elim (has_where more [] k f w) [ old lt i ↦ h k f i | new e m ↦ elim m [ ] ]

module _ (laws : Laws) (g : Sig) (start : Proc) (agents : List (Option Agent)) (c : Config) (tr : Trace) (s : RuleState) (full : Trace) (h : AtRest g start agents c tr s full) where
  -- these terms are known by now
  record Known (ts : List Tree) : Type 0 where
    moves : List RuleMove
    more : Trace
    state : RuleState
    rules : RuleMoves g (rules_of start) s moves more state
    ran : RuleRun g (rules_of start) state (full ++ more)
    related : Related g start agents None c tr state (full ++ more)
    all : (z : Tree) → Member z ts → Member z state.known
    silent : (k : ℕ) (f : Fact) → ShowsAt more k f → ⊥
    made : state.made ≡ s.made
    stay : (k : ℕ) (f : Fact) → slice_get s.facts k ≡ Some (Some f) → ((t : Tree) → f ≡ out_fact t → ⊥) → slice_get state.facts k ≡ Some (Some f)

  -- a silent move by which t comes to be known
  learns_more : (t : Tree) (ts : List Tree) (w : Known ts) {move : RuleMove} {z : RuleState} → IsRuleMove g (rules_of start) w.state move [] z → Related g start agents None c tr z ((full ++ w.more) ++ [] ∷ []) → Member t z.known → ((x : Tree) → Member x w.state.known → Member x z.known) → z.made ≡ w.state.made
      → ((k : ℕ) (f : Fact) → slice_get w.state.facts k ≡ Some (Some f) → ((u : Tree) → f ≡ out_fact u → ⊥) → slice_get z.facts k ≡ Some (Some f)) → Known (t ∷ ts)
  learns_more t ts w {move} {z} m r knows grows same stay =
      let longer = append_assoc full w.more ([] ∷ []) in
      record {
        moves = w.moves ++ move ∷ [];
        more = w.more ++ [] ∷ [];
        state = z;
        rules = and_then w.rules m;
        ran = subst (λ f. RuleRun g (rules_of start) z f) longer (RuleRun.further w.ran m.step);
        related = subst (λ f. Related g start agents None c tr z f) longer r;
        all = one_more t z.known knows (λ x i. grows x (w.all x i));
        silent = still_silent w.more w.silent;
        made = same ∙ w.made;
        stay = λ k f e o. stay k f (w.stay k f e o) o;
      }

  known_already : (t : Tree) (ts : List Tree) (w : Known ts) → Member t w.state.known → Known (t ∷ ts)
  known_already t ts w m = record { moves = w.moves; more = w.more; state = w.state; rules = w.rules; ran = w.ran; related = w.related; all = one_more t w.state.known m w.all; silent = w.silent; made = w.made; stay = w.stay }

  other_stays : (facts : List (Option Fact)) (n k : ℕ) (t : Tree) (f : Fact) → slice_get facts n ≡ Some (Some (out_fact t)) → slice_get facts k ≡ Some (Some f) → ((u : Tree) → f ≡ out_fact u → ⊥) → slice_get (slice_set facts n None) k ≡ Some (Some f)
  other_stays facts n k t f e i o = get-set_other facts n k None (λ same. o t (let w : Some (Some f) ≡ Some (Some (out_fact t)) = sym i ∙ ap (λ x. slice_get facts x) (sym same) ∙ e in cc)) ∙ i

  next : (t : Tree) (ts : List Tree) → Known ts → IsDerived g c.own c.frame ts t → Known (t ∷ ts)
  next t ts w (IsDerived.a_public n e) =
      learns_more t ts w (record { step = RuleStep.knows_public n; chooses = refl }) ((kept_public laws) g start agents None c tr w.state (full ++ w.more) w.related n) (subst (λ z. Member z (w.state.known ++ public n ∷ [])) (sym e) (member_last w.state.known (public n))) (λ z m. member_left (public n ∷ []) m) refl (λ k f i o. i)
  next t ts w (IsDerived.a_name j m e) = known_already t ts w (subst (λ z. Member z w.state.known) (sym e) (w.related.knowledge.owned j (member j c.own m)))
  next t ts w (IsDerived.given m) = elim (w.related.knowledge.framed t (member t c.frame m)) [
    | inl a ↦ known_already t ts w a
    | inr b ↦ (let l = counted_fact w.state.facts (out_fact t) b in
        let takes : Takes w.state.facts (l.number ∷ []) (out_fact t ∷ []) (slice_set w.state.facts l.number None) = one l.is nothing in
        learns_more t ts w (record { step = RuleStep.learns l.number t takes; chooses = refl }) ((kept_learn laws) g start agents None c tr w.state (full ++ w.more) w.related l.number t _ takes) (member_last w.state.known t) (λ z m. member_left (t ∷ []) m) refl (λ k f i o. other_stays w.state.facts l.number k t f l.is i o))
  ]
  next t ts w (IsDerived.applied f us free arity all form) =
      let below : All (Contains w.state.known) us = all_contained ts w.state.known us (λ x i. contains (w.all x (member x ts i))) all in
      learns_more t ts w (record { step = RuleStep.applies f us t free arity below form; chooses = refl }) ((kept_applies laws) g start agents None c tr w.state (full ++ w.more) w.related f us t free arity below form) (member_last w.state.known t) (λ z m. member_left (t ∷ []) m) refl (λ k f i o. i)

  at_first : Known []
  at_first =
      let same = sym (append-nil full) in
      record { moves = []; more = []; state = s; rules = stays; ran = subst (λ f. RuleRun g (rules_of start) s f) same h.ran; related = subst (λ f. Related g start agents None c tr s f) same h.related; all = λ z m. elim m [ ]; silent = none_shown; made = refl; stay = λ k f e o. e }

  learn_all : (ts : List Tree) → IsDerivation g c.own c.frame ts → Known ts
  learn_all [] d = at_first
  learn_all (t ∷ ts) d = next t ts (learn_all ts d.1) d.0

  pub deduces : Deduces g start agents c tr s full
  deduces x d =
      let w = learn_all (d.deducible.form ∷ d.deducible.earlier) d.deducible.derivation in
      record {
        moves = w.moves;
        more = w.more;
        state = w.state;
        rules = w.rules;
        rest = record { reached = h.reached; ran = w.ran; related = w.related; started = h.started; calm = h.calm };
        knows = contains (subst (λ z. Member z w.state.known) ((ends_in laws) g c.own c.frame x d.deducible d.normal) (w.all d.deducible.form Member.here));
        silent = w.silent;
        made = w.made;
        stay = w.stay;
      }
