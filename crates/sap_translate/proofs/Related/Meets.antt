-- What answers a meeting on a channel: a tag, the message, its receipt and the acknowledgement.
use Rattle.sap_translate.specs.Members.{Member}
use Rattle.sap_templates.specs.Places.{scoped_place_at, root, ScopedPlace}
use Rattle.sap_translate.specs.Sound.{SoundPlaces}
use Rattle.sap_translate.specs.relation.Names.{vars}
use Rattle.sap_process.specs.Places.{place}
use Rattle.sap_process.specs.Proc.{Proc, act}
use Rattle.sap_process.specs.ProcessSteps.{ProcessStep}
use Rattle.sap_rule.specs.RuleSteps as state
use Rattle.sap_rule.specs.declared.rule.Rule.{Rule}
use Rattle.sap_terms.specs.Equations.{equations}
use Rattle.sap_terms.specs.Signature.{Sig}
use Rattle.sap_terms.specs.Trace.{Trace}
use Rattle.sap_terms.specs.declared.fact.Fact.{Fact}
use Rattle.sap_terms.specs.declared.var.Var.{Var}
use Rattle.sap_process.specs.Action as action
use Rattle.sap_translate.proofs.Premises.LowerLaws.{Laws, nf-fresh, one_normal_form, nf-equal, nf}
use Rattle.sap_translate.proofs.Terms.Choices.{values_append, choice_new, choice_good, settled_vars, map_agree, choice_append, join_old, put_choice, put_longer, put_more, good_bind, good_just, just_free, good-append, pattern_is}
use Rattle.sap_translate.proofs.Terms.Derive.{contains}
use Rattle.sap_translate.proofs.Terms.Forms.{fresh_message}
use Rattle.sap_translate.proofs.Terms.Substitution.{new_first, new_free, within_more}
use Rattle.sap_translate.proofs.Lists.FactLists.{map_joined}
use Rattle.sap_translate.proofs.Shared.Lookups.{get-set_same, get-set_other, map_push, member_left, get-append_left, get_within}
use Rattle.sap_translate.proofs.Lists.Numbers.{length-slice_set, get_at, set_twice, set_apart}
use Rattle.sap_translate.proofs.Shared.Names.{state_name_same}
use Rattle.sap_translate.proofs.Parts.Kept.{kept_fresh}
use Rattle.sap_translate.proofs.Traces.Private.{kept_out_msg, kept_meet, kept_out_ack}
use Rattle.sap_templates.specs.ChannelFacts.{msg_fact, ack_fact, fresh_fact}
use Rattle.sap_translate.specs.Scoped.{Within}
use Rattle.sap_templates.specs.Templates.{first_of, rules_of, out_msg_rule, in_msg_rule, out_ack_rule}
use Rattle.sap_translate.specs.relation.Answered.{Meets, under_way, come}
use Rattle.sap_translate.specs.relation.Answers.{AtRest, term_under, under, at_first, goes_on, trades, without_facts}
use Rattle.sap_translate.specs.relation.Envs.{Env, names, filled, values, bind, just, join, GoodEnv}
use Rattle.sap_translate.specs.relation.ProcessMoves.{IsProcessMove}
use Rattle.sap_translate.specs.relation.ProcessMoves as process
use Rattle.sap_translate.specs.relation.Agents.{Agent, running, awaiting, received, is_semi, is_unborn}
use Rattle.sap_translate.specs.relation.Related.{Related}
use Rattle.sap_translate.specs.relation.RuleMoves.{RuleMoves, IsRuleMove, stays, further}
use Rattle.sap_translate.specs.relation.RuleMoves as rules
use Rattle.sap_place.specs.StateFacts.{state_fact, waits_fact, tag}
use Rattle.sap_process.specs.Configuration.{Config, becomes}
use Rattle.sap_process.specs.Sites.{var_names}
use Rattle.sap_rule.specs.RuleSteps.{RuleState, RuleStep, leaves}
use Rattle.sap_terms.specs.AdversaryFacts.{fr_fact}
use Rattle.sap_terms.specs.Choice.{instance, Choice}
use Rattle.sap_terms.specs.Piles.{Pile, Takes, nothing, adds}
use Rattle.sap_terms.specs.Tree.{Tree, variable, fresh}
use Rattle.sap_terms.specs.Variables.{tree_vars, new_vars}
use Rattle.std.proofs.lemmas.List.{length-append}
use Rattle.std.proofs.Common.{◌≡◌, ℕ, ◌+◌, ◌<◌, List, [], ◌∷◌, ◌++◌, Option, Some, None, refl, sym, ap, ◌∙◌, arith, false, slice_get, slice_set, subst, length, append_assoc, map}
use Rattle.sap_translate.proofs.RulesToProcess.Followed.{some_spot}
use Rattle.sap_translate.proofs.Related.Common.{zero_set, one_linear, runs_as, place_rule, use_of, old_args, takes_newest, answers, bound_pattern}

-- the facts once the message is under way, and once it came
abbrev sent_pile : Pile → ℕ → Fact → Fact → Fact → Pile
sent_pile facts j fr msg waits = adds (without_facts (adds facts (fr ∷ [])) (j ∷ length facts ∷ [])) (msg ∷ waits ∷ [])

abbrev come_pile : Pile → List ℕ → Fact → Fact → Pile
come_pile facts ks ack next = adds (without_facts facts ks) (ack ∷ next ∷ [])

-- what the receipt takes
takes_message : (facts : Pile) (j k : ℕ) (u fr msg waits : Fact) → slice_get facts k ≡ Some (Some u) → (j ≡ k → ⊥) → u.persistent ≡ false → msg.persistent ≡ false → let p : Pile = sent_pile facts j fr msg waits in Takes p (k ∷ (length facts + 1) ∷ []) (u ∷ msg ∷ []) (without_facts p (k ∷ (length facts + 1) ∷ []))
takes_message facts j k u fr msg waits i apart a b =
    let one : Pile = adds facts (fr ∷ []) in
    let two : Pile = slice_set one j None in
    let three : Pile = slice_set two (length facts) None in
    let p : Pile = sent_pile facts j fr msg waits in
    let long : length three ≡ length facts + 1 = length-slice_set two (length facts) None ∙ length-slice_set one j None ∙ length-append facts (Some fr ∷ []) in
    let low = get_within facts k (Some u) i in
    let kept : slice_get three k ≡ Some (Some u) = get-set_other two (length facts) k None (λ e. absurd (omega arith)) ∙ get-set_other one j k None apart ∙ get-append_left facts (Some fr ∷ []) k (Some u) i in
    let first : slice_get p k ≡ Some (Some u) = get-append_left three (Some msg ∷ Some waits ∷ []) k (Some u) kept in
    let second : slice_get (slice_set p k None) (length facts + 1) ≡ Some (Some msg) = get-set_other p k (length facts + 1) None (λ e. absurd (omega arith)) ∙ get_at three (Some msg ∷ Some waits ∷ []) 0 (length facts + 1) (omega arith) in
    one_linear first a (one_linear second b nothing)

-- what the acknowledgement takes
takes_ack : (facts : Pile) (j k : ℕ) (fr msg waits ack next : Fact) → k < length facts → waits.persistent ≡ false → ack.persistent ≡ false → let p : Pile = come_pile (sent_pile facts j fr msg waits) (k ∷ (length facts + 1) ∷ []) ack next in Takes p ((length facts + 2) ∷ (length facts + 3) ∷ []) (waits ∷ ack ∷ []) (without_facts p ((length facts + 2) ∷ (length facts + 3) ∷ []))
takes_ack facts j k fr msg waits ack next low a b =
    let one : Pile = adds facts (fr ∷ []) in
    let two : Pile = slice_set one j None in
    let three : Pile = slice_set two (length facts) None in
    let q : Pile = sent_pile facts j fr msg waits in
    let four : Pile = slice_set q k None in
    let five : Pile = slice_set four (length facts + 1) None in
    let p : Pile = come_pile q (k ∷ (length facts + 1) ∷ []) ack next in
    let long : length three ≡ length facts + 1 = length-slice_set two (length facts) None ∙ length-slice_set one j None ∙ length-append facts (Some fr ∷ []) in
    let longer : length five ≡ length three + 2 = length-slice_set four (length facts + 1) None ∙ length-slice_set q k None ∙ length-append three (Some msg ∷ Some waits ∷ []) in
    let kept : slice_get five (length facts + 2) ≡ Some (Some waits) = get-set_other four (length facts + 1) (length facts + 2) None (λ e. absurd (omega arith)) ∙ get-set_other q k (length facts + 2) None (λ e. absurd (omega arith)) ∙ get_at three (Some msg ∷ Some waits ∷ []) 1 (length facts + 2) (omega arith) in
    let first : slice_get p (length facts + 2) ≡ Some (Some waits) = get-append_left five (Some ack ∷ Some next ∷ []) (length facts + 2) (Some waits) kept in
    let second : slice_get (slice_set p (length facts + 2) None) (length facts + 3) ≡ Some (Some ack) = get-set_other p (length facts + 2) (length facts + 3) None (λ e. absurd (omega arith)) ∙ get_at five (Some ack ∷ Some next ∷ []) 0 (length facts + 3) (omega arith) in
    one_linear first a (one_linear second b nothing)

-- the sender goes on at last
last_set : {A : Type 0} (xs : List A) (a b : ℕ) (u v y z : A) → (a ≡ b → ⊥) → slice_set (slice_set (slice_set (slice_set xs a u) a v) b y) a z ≡ slice_set (slice_set xs b y) a z
last_set xs a b u v y z h =
    ap (λ w. slice_set (slice_set w b y) a z) (set_twice xs a u v) ∙ ap (λ w. slice_set w a z) (set_apart xs a b v y h) ∙ set_twice (slice_set xs b y) a v z

module _ (laws : Laws) (g : Sig) (start : Proc) (fine : SoundPlaces g start) (agents : List (Option Agent)) (c : Config) (tr : Trace) (s : RuleState) (full : Trace) (h : AtRest g start agents c tr s full) where
  send_receive : (path : List ℕ) (v w : List Var) (m u l r : Tree) (p q : Proc) → scoped_place_at (root start) path ≡ Some (place path v (act (action.send m u) p)) → scoped_place_at (root start) path ≡ Some (place path w (act (action.receive l r) q)) → ⊥
  send_receive path v w m u l r p q e f =
      let same : act (action.send m u) p ≡ act (action.receive l r) q = ap (λ (z : ScopedPlace). z.body) (some_spot (place path v (act (action.send m u) p)) (place path w (act (action.receive l r) q)) (sym e ∙ f)) in
      cc

  apart_facts : (j k : ℕ) (path at : List ℕ) (v w : List Var) (xs ys : List Tree) (m u l r : Tree) (p q : Proc) → scoped_place_at (root start) path ≡ Some (place path v (act (action.send m u) p)) → scoped_place_at (root start) at ≡ Some (place at w (act (action.receive l r) q))
      → slice_get s.facts j ≡ Some (Some (state_fact path xs)) → slice_get s.facts k ≡ Some (Some (state_fact at ys)) → j ≡ k → ⊥
  apart_facts j k path at v w xs ys m u l r p q e f a b same =
      let one : Some (Some (state_fact path xs)) ≡ Some (Some (state_fact at ys)) = sym a ∙ ap (λ i. slice_get s.facts i) same ∙ b in
      let two : state_fact path xs ≡ state_fact at ys = cc in
      let three : path ≡ at = state_name_same path at (ap (λ (x : Fact). x.name) two) in
      send_receive path v w m u l r p q e (subst (λ i. scoped_place_at (root start) i ≡ Some (place i w (act (action.receive l r) q))) (sym three) f)

  other_threads : (a b : ℕ) (path at : List ℕ) (env other : Env) (m u l r : Tree) (p q : Proc) → slice_get agents a ≡ Some (Some (running path env (act (action.send m u) p))) → slice_get agents b ≡ Some (Some (running at other (act (action.receive l r) q))) → a ≡ b → ⊥
  other_threads a b path at env other m u l r p q i k same = let one : Some (Some (running path env (act (action.send m u) p))) ≡ Some (Some (running at other (act (action.receive l r) q))) = sym i ∙ ap (λ i. slice_get agents i) same ∙ k in cc

  pub meets : Meets g start agents c tr s full
  meets a b j k n path at env other m u l r x v p q σ wa wb channel fits m_form u_form clear =
      let bs : Proc = act (action.send m u) p in
      let br : Proc = act (action.receive l r) q in
      let here = h.related.placed a (running path env bs) wa.thread in
      let there = h.related.placed b (running at other br) wb.thread in
      let sound = fine path (place path (names env) bs) here.0 in
      let sound' = fine at (place at (names other) br) there.0 in
      let differ = other_threads a b path at env other m u l r p q wa.thread wb.thread in
      let apart = apart_facts j k path at (names env) (names other) (values env) (values other) m u l r p q here.0 there.0 wa.fact wb.fact in
      let ns = new_vars (var_names (names other)) (tree_vars r) in
      let free = new_free (var_names (names other)) (tree_vars r) in
      let own = new_first σ (var_names (names other)) (tree_vars r) in
      let τ : Env = bind σ ns in
      let ground : GoodEnv g τ = good_bind g σ ns own fits.messages in
      let wider : Env = join other τ in
      let γ : Env = just tag (fresh n) in
      let e : ℕ = length s.facts in
      -- the facts
      let fr : Fact = fr_fact n in
      let f1 : Fact = state_fact path (values env) in
      let f2 : Fact = state_fact at (values other) in
      let msg : Fact = msg_fact (fresh n) x v in
      let waits : Fact = waits_fact path (values env ++ fresh n ∷ []) in
      let ack : Fact = ack_fact (fresh n) in
      let next : Fact = at_first at wider in
      -- the states
      let s1 : RuleState = state.makes s n in
      let s2 : RuleState = under_way s j n path env x v in
      let s3 : RuleState = come s2 k (e + 1) n at wider in
      let s4 : RuleState = trades s3 ((e + 2) ∷ (e + 3) ∷ []) (at_first path env ∷ []) in
      let takes1 = takes_newest s.facts j f1 fr wa.fact refl refl in
      let takes2 = takes_message s.facts j k f2 fr msg waits wb.fact apart refl refl in
      let takes3 = takes_ack s.facts j k fr msg waits ack next (get_within s.facts k (Some f2) wb.fact) refl refl in
      -- the relation
      let wait : Agent = awaiting path env m u x v p n in
      let served : Agent = received path env m u p n in
      let agents2 : List (Option Agent) = slice_set agents a (Some wait) in
      let mid : List (Option Agent) = slice_set agents2 a (Some served) in
      let agents3 : List (Option Agent) = slice_set mid b (Some (running (first_of at) wider q)) in
      let full1 : Trace = full ++ [] ∷ [] in
      let full2 : Trace = full1 ++ [] ∷ [] in
      let full3 : Trace = full2 ++ [] ∷ [] in
      let d : Config = becomes (becomes c a (Some (under env p))) b (Some (under wider q)) in
      let thread = (bound_pattern laws) σ other there.1.ground r q in
      let move : IsProcessMove g c (process.meets a b σ) [] d = subst (λ i. IsProcessMove g c (process.meets a b σ) [] (becomes (becomes c a (Some (under env p))) b (Some i))) thread (record { step = ProcessStep.meets a b σ (runs_as h.related a (running path env bs) wa.thread) (runs_as h.related b (running at other br) wb.thread) channel fits; chooses = refl }) in
      let r1 = (kept_fresh laws) g start agents None c tr s full h.related n (λ i. clear (contains i)) in
      let r2 : Related g start agents2 None c tr s2 full2 = kept_out_msg g start agents None c tr s1 full1 r1 a n (j ∷ e ∷ []) path env m u x v p _ m_form u_form wa.thread takes1 in
      let ia2 : slice_get agents2 a ≡ Some (Some wait) = get-set_same agents a (Some (running path env bs)) (Some wait) wa.thread in
      let ib2 : slice_get agents2 b ≡ Some (Some (running at other br)) = get-set_other agents a b (Some wait) differ ∙ wb.thread in
      let r3 : Related g start agents3 None d (tr ++ []) s3 full3 = kept_meet g start agents2 None c tr s2 full2 r2 a b n (k ∷ (e + 1) ∷ []) path at env other τ m u x v l r p q _ ia2 ib2 refl ground takes2 move.step in
      let im : slice_get mid a ≡ Some (Some served) = get-set_same agents2 a (Some wait) (Some served) ia2 in
      let ia3 : slice_get agents3 a ≡ Some (Some served) = get-set_other mid b a (Some (running (first_of at) wider q)) (λ i. differ (sym i)) ∙ im in
      let r4 = kept_out_ack g start agents3 None d (tr ++ []) s3 full3 r3 a n ((e + 2) ∷ (e + 3) ∷ []) path env m u p _ ia3 takes3 in
      let new_r : List (Option Agent) = goes_on agents b at wider q in
      let related : Related g start (goes_on new_r a path env p) None d (tr ++ []) s4 (full3 ++ [] ∷ []) = subst (λ i. Related g start i None d (tr ++ []) s4 (full3 ++ [] ∷ [])) (last_set agents a b (Some wait) (Some served) (Some (running (first_of at) wider q)) (Some (running (first_of path) env p)) differ) r4 in
      let ia : slice_get new_r a ≡ Some (Some (running path env bs)) = get-set_other agents b a (Some (running (first_of at) wider q)) (λ i. differ (sym i)) ∙ wa.thread in
      -- the terms of the rules
      let good_a : GoodEnv g (join env γ) = good-append g env γ here.1 (good_just g tag (fresh n) ((fresh_message laws) g n)) (just_free env tag (fresh n) sound.2) in
      let σ1 : Choice = filled (join env γ) in
      let good1 = (choice_good laws) g (join env γ) good_a in
      let tag0 : σ1 tag ≡ fresh n = choice_new env tag (fresh n) sound.2 in
      let tag1 : (nf laws) (equations g) (σ1 tag) ≡ fresh n = ap ((nf laws) (equations g)) tag0 ∙ (nf-fresh laws) (equations g) n in
      let vars1 = (old_args laws) g env γ good_a in
      let waits1 : map ((nf laws) (equations g)) (map (instance σ1) (vars (names env) ++ variable tag ∷ [])) ≡ values env ++ fresh n ∷ [] = ap (λ ts. map ((nf laws) (equations g)) (map (instance σ1) ts)) (sym (map_joined variable (names env) (tag ∷ []))) ∙ (settled_vars laws) g σ1 good1 (names env ++ tag ∷ []) ∙ map_push σ1 (names env) tag ∙ ap (λ z. map σ1 (names env) ++ z ∷ []) tag0 ∙ ap (λ ts. ts ++ fresh n ∷ []) (values_append env γ) in
      let m1 : (nf laws) (equations g) (instance σ1 m) ≡ x = ap ((nf laws) (equations g)) (put_longer env γ m sound.0) ∙ sym ((one_normal_form laws) (equations g) (term_under env m) x m_form) in
      let u1 : (nf laws) (equations g) (instance σ1 u) ≡ v = ap ((nf laws) (equations g)) (put_longer env γ u sound.1) ∙ sym ((one_normal_form laws) (equations g) (term_under env u) v u_form) in
      let rule1 : Rule = out_msg_rule path (names env) m u in
      let move1 : IsRuleMove g (rules_of start) s1 (rules.uses rule1 (j ∷ e ∷ []) σ1) [] s2 = (use_of laws) g start s1 rule1 σ1 (f1 ∷ fr ∷ []) [] (msg ∷ waits ∷ []) (place_rule start path (names env) bs rule1 here.0 (Member.later Member.here)) good1
      (λ i. state_fact path (vars1 i) ∷ fresh_fact (tag1 i) ∷ []) refl (λ i. msg_fact (tag1 i) (m1 i) (u1 i) ∷ waits_fact path (waits1 i) ∷ []) takes1 in
      -- the receipt
      let good_w : GoodEnv g wider = good-append g other τ there.1 ground free in
      let good_b : GoodEnv g (join wider γ) = good-append g wider γ good_w (good_just g tag (fresh n) ((fresh_message laws) g n)) (just_free wider tag (fresh n) sound'.1) in
      let σ2 : Choice = filled (join wider γ) in
      let good2 = (choice_good laws) g (join wider γ) good_b in
      let tag2 : (nf laws) (equations g) (σ2 tag) ≡ fresh n = ap ((nf laws) (equations g)) (choice_new wider tag (fresh n) sound'.1) ∙ (nf-fresh laws) (equations g) n in
      let within : Within (names wider) r = sound'.2 in
      let within_l : Within (names wider) l = within_more (names other) (names other ++ names τ) (λ i z. member_left (names τ) z) l sound'.0 in
      let l2 : (nf laws) (equations g) (instance σ2 l) ≡ x = ap ((nf laws) (equations g)) (put_longer wider γ l within_l ∙ put_more other τ l sound'.0) ∙ sym ((nf-equal laws) (equations g) channel) ∙ sym ((one_normal_form laws) (equations g) (term_under env m) x m_form) in
      let r2' : (nf laws) (equations g) (instance σ2 r) ≡ v = ap ((nf laws) (equations g)) (put_longer wider γ r within ∙ sym (put_choice wider r within) ∙ sym (pattern_is other σ ns there.1.ground free own r within)) ∙ (nf-equal laws) (equations g) fits.equal ∙ sym ((one_normal_form laws) (equations g) (term_under env u) v u_form) in
      let vars2 : map ((nf laws) (equations g)) (map (instance σ2) (vars (names other))) ≡ values other = (settled_vars laws) g σ2 good2 (names other) ∙ map_agree σ2 other.choice (names other) (λ i z. choice_append wider γ i (member_left (names τ) z) ∙ join_old other τ i z) in
      let next2 = (old_args laws) g wider γ good_b in
      let rule2 : Rule = in_msg_rule at (names other) l r in
      let move2 : IsRuleMove g (rules_of start) s2 (rules.uses rule2 (k ∷ (e + 1) ∷ []) σ2) [] s3 = (use_of laws) g start s2 rule2 σ2 (f2 ∷ msg ∷ []) [] (ack ∷ next ∷ []) (place_rule start at (names other) br rule2 there.0 (Member.later Member.here)) good2
      (λ i. state_fact at (vars2 i) ∷ msg_fact (tag2 i) (l2 i) (r2' i) ∷ []) refl (λ i. ack_fact (tag2 i) ∷ state_fact (first_of at) (next2 i) ∷ []) takes2 in
      -- the acknowledgement
      let rule3 : Rule = out_ack_rule path (names env) in
      let move3 : IsRuleMove g (rules_of start) s3 (rules.uses rule3 ((e + 2) ∷ (e + 3) ∷ []) σ1) [] s4 = (use_of laws) g start s3 rule3 σ1 (waits ∷ ack ∷ []) [] (at_first path env ∷ []) (place_rule start path (names env) bs rule3 here.0 (Member.later (Member.later Member.here))) good1
      (λ i. waits_fact path (waits1 i) ∷ ack_fact (tag1 i) ∷ []) refl (λ i. state_fact (first_of path) (vars1 i) ∷ []) takes3 in
      (answers g start agents c tr s full h) move
      (further (record { step = RuleStep.makes_name n clear; chooses = refl }) (further move1 (further move2 (further move3 stays))))
      (subst (λ i. Related g start (goes_on new_r a path env p) None d (tr ++ []) s4 i) (append_assoc full2 ([] ∷ []) ([] ∷ []) ∙ append_assoc full1 ([] ∷ []) ([] ∷ [] ∷ []) ∙ append_assoc full ([] ∷ []) ([] ∷ [] ∷ [] ∷ [])) related)
      (zero_set is_unborn new_r a (Some (running path env bs)) (Some (running (first_of path) env p)) ia refl (zero_set is_unborn agents b (Some (running at other br)) (Some (running (first_of at) wider q)) wb.thread refl h.started))
      (zero_set is_semi new_r a (Some (running path env bs)) (Some (running (first_of path) env p)) ia refl (zero_set is_semi agents b (Some (running at other br)) (Some (running (first_of at) wider q)) wb.thread refl h.calm))
