-- The process follows each step of its rules, and each run.
use Rattle.sap_translate.proofs.Premises.LowerLaws.{Laws, nf-fixed, nf}
use Rattle.sap_restrict.specs.ReservedFacts.{init_fact, event_fact, input_fact, insert_fact, delete_fact, is_in_fact, is_not_set_fact, lock_fact, unlock_fact, eq_fact, not_eq_fact}
use Rattle.sap_translate.specs.Members.{Member}
use Rattle.sap_translate.specs.relation.Shown.{SeesOnly, MeetsAll, MeetsSix}
use Rattle.sap_translate.proofs.Terms.Choices.{settled_vars}
use Rattle.sap_translate.proofs.Traces.Demands.{demands_before}
use Rattle.sap_translate.proofs.Lists.FactLists.{map_joined}
use Rattle.sap_translate.proofs.Terms.Derive.{contains, member}
use Rattle.sap_translate.proofs.Terms.Forms.{settled, nf_fact, equal_are_facts, forms_are_facts, IsTidy}
use Rattle.sap_translate.proofs.Parts.Kept.{related_start}
use Rattle.sap_translate.proofs.Shared.Lookups.{only_member, map_push}
use Rattle.sap_translate.proofs.Shared.Takings.{taken_each}
use Rattle.sap_translate.proofs.Parts.Tidy.{Tidy, tidy}
use Rattle.sap_translate.proofs.Traces.Visible.{admitted_before}
use Rattle.sap_templates.specs.ChannelFacts.{fresh_fact, msg_fact, ack_fact}
use Rattle.sap_translate.specs.OpenLocks.{UnlocksAreOpen}
use Rattle.sap_translate.specs.relation.Agents.{unborn}
use Rattle.sap_place.specs.StateFacts.{state_fact, copies_fact, waits_fact, tag}
use Rattle.sap_templates.specs.Places.{scoped_place_at, root}
use Rattle.sap_process.specs.Places.{place}
use Rattle.sap_translate.specs.relation.Names.{vars}
use Rattle.sap_templates.specs.Templates.{first_of, second_of, rules_of, own_rules, embedded_acts}
use Rattle.sap_process.specs.Scopes.{with_new, lock_var}
use Rattle.sap_translate.specs.Sound.{IsSound, SoundPlaces}
use Rattle.sap_process.specs.Configuration.{initial}
use Rattle.sap_process.specs.Proc.{Proc, act}
use Rattle.sap_process.specs.ProcessSteps.{ProcessRun}
use Rattle.sap_rule.specs.RuleSteps.{RuleState, RuleStep, RuleRun}
use Rattle.sap_rule.specs.declared.rule.Rule.{Rule}
use Rattle.sap_terms.specs.AdversaryFacts.{in_fact, out_fact}
use Rattle.sap_terms.specs.Choice.{instance, Choice}
use Rattle.sap_terms.specs.Message.{IsMessageChoice}
use Rattle.sap_terms.specs.Modulo.{instance_fact, instance_facts, AreEqualFacts, AreFormsOfFacts}
use Rattle.sap_terms.specs.Piles.{Takes, adds}
use Rattle.sap_terms.specs.Signature.{Sig, HoldsBuiltins}
use Rattle.sap_terms.specs.Equations.{equations, app2, pair_name}
use Rattle.sap_terms.specs.Trace.{Trace}
use Rattle.sap_terms.specs.Tree.{Tree, variable}
use Rattle.sap_terms.specs.declared.fact.Fact.{Fact}
use Rattle.sap_terms.specs.declared.var.Var.{Var}
use Rattle.std.proofs.Common.{◌≡◌, ℕ, inl, inr, List, [], ◌∷◌, ◌++◌, Option, Some, None, refl, sym, ap, ◌∙◌, subst, append-nil, map}
use Rattle.sap_process.specs.Action as action
use Rattle.sap_process.specs.Proc as whole
use Rattle.sap_process.specs.Sites.{fresh_var, message_var}
use Rattle.sap_terms.specs.Variables.{tree_vars, facts_vars}
use Rattle.sap_translate.proofs.RulesToProcess.Followed.{Followed, Whence, flushed, settled_said, three_members, took_none, two_members, whence, one, two, three, is_init, is_place}
use Rattle.sap_translate.proofs.RulesToProcess.Adversary.{law_applies, law_fresh, law_init, law_know, law_learn, law_own, law_public}
use Rattle.sap_translate.proofs.RulesToProcess.Control.{law_else, law_nil, law_out, law_par, law_rep_copy, law_rep_start, law_then}
use Rattle.sap_translate.proofs.RulesToProcess.Stores.{law_delete, law_found, law_insert, law_lock, law_missing, law_unlock}
use Rattle.sap_translate.proofs.RulesToProcess.Embedded.{law_embed, law_event, law_new}
use Rattle.sap_translate.proofs.RulesToProcess.Messages.{law_in, law_in_adv, law_in_msg, law_out_ack, law_out_adv, law_out_msg}

module _ (laws : Laws) (sig : Sig) (start : Proc) (hold : HoldsBuiltins sig) (fine : SoundPlaces sig start) (s : RuleState) (full : Trace) (w : Followed sig start s full) (clean : Tidy (equations sig) s) where
  -- any rule
  abbrev pub Fires : List ℕ → List (Option Fact) → Choice → Rule → Type 0
  Fires ks rest σ r = Takes s.facts ks ((settled laws) (equations sig) σ r.left) rest → MeetsAll (equations sig) (full ++ (settled laws) (equations sig) σ r.acts ∷ []) → Followed sig start (record s { facts = adds rest ((settled laws) (equations sig) σ r.right) }) (full ++ (settled laws) (equations sig) σ r.acts ∷ [])

  pub law_place : (ks : List ℕ) (rest : List (Option Fact)) (σ : Choice) → IsMessageChoice sig σ → (path : List ℕ) (v : List Var) (b : Proc) (r : Rule) → scoped_place_at (root start) path ≡ Some (place path v b) → Member r (own_rules path v b) → Fires ks rest σ r
  law_place ks rest σ good path v whole.nil r e m =
      subst (Fires ks rest σ) (sym (only_member m)) (λ takes h. (law_nil laws sig start hold fine s full w clean) ks rest σ good path v e (subst (λ ts. Takes s.facts ks (state_fact path ts ∷ []) rest) ((settled_vars laws) sig σ good v) takes))
  law_place ks rest σ good path v (whole.parallel p q) r e m =
      subst (Fires ks rest σ) (sym (only_member m)) (λ takes h.
      subst (λ ts. Followed sig start (record s { facts = adds rest (state_fact (first_of path) ts ∷ state_fact (second_of path) ts ∷ []) }) (full ++ [] ∷ [])) (sym ((settled_vars laws) sig σ good v))
      ((law_par laws sig start hold fine s full w clean) ks rest σ good path v p q e (subst (λ ts. Takes s.facts ks (state_fact path ts ∷ []) rest) ((settled_vars laws) sig σ good v) takes)))
  law_place ks rest σ good path v (whole.replicated p) r e m =
      let same = (settled_vars laws) sig σ good v in
      elim (two_members m) [
        | inl a ↦ subst (Fires ks rest σ) (sym a) (λ takes h.
            subst (λ ts. Followed sig start (record s { facts = adds rest (copies_fact path ts ∷ []) }) (full ++ [] ∷ [])) (sym same)
            ((law_rep_start laws sig start hold fine s full w clean) ks rest σ good path v p e (subst (λ ts. Takes s.facts ks (state_fact path ts ∷ []) rest) same takes)))
        | inr b ↦ subst (Fires ks rest σ) (sym b) (λ takes h.
            subst (λ ts. Followed sig start (record s { facts = adds rest (state_fact (first_of path) ts ∷ []) }) (full ++ [] ∷ [])) (sym same)
            ((law_rep_copy laws sig start hold fine s full w clean) ks rest σ good path v p e (subst (λ ts. Takes s.facts ks (copies_fact path ts ∷ []) rest) same takes)))
      ]
  law_place ks rest σ good path v (whole.test a b p q) r e m =
      let same = (settled_vars laws) sig σ good v in
      elim (two_members m) [
        | inl z ↦ subst (Fires ks rest σ) (sym z) (λ takes h.
            subst (λ ts. Followed sig start (record s { facts = adds rest (state_fact (first_of path) ts ∷ []) }) (full ++ (eq_fact ((nf laws) (equations sig) (instance σ a)) ((nf laws) (equations sig) (instance σ b)) ∷ []) ∷ [])) (sym same)
            ((law_then laws sig start hold fine s full w clean) ks rest σ good path v a b p q e ((nf laws) (equations sig) (instance σ a)) ((nf laws) (equations sig) (instance σ b)) refl refl h.demands (subst (λ ts. Takes s.facts ks (state_fact path ts ∷ []) rest) same takes)))
        | inr z ↦ subst (Fires ks rest σ) (sym z) (λ takes h.
            subst (λ ts. Followed sig start (record s { facts = adds rest (state_fact (second_of path) ts ∷ []) }) (full ++ (not_eq_fact ((nf laws) (equations sig) (instance σ a)) ((nf laws) (equations sig) (instance σ b)) ∷ []) ∷ [])) (sym same)
            ((law_else laws sig start hold fine s full w clean) ks rest σ good path v a b p q e ((nf laws) (equations sig) (instance σ a)) ((nf laws) (equations sig) (instance σ b)) refl refl h.demands (subst (λ ts. Takes s.facts ks (state_fact path ts ∷ []) rest) same takes)))
      ]
  law_place ks rest σ good path v (act (action.new x) p) r e m =
      subst (Fires ks rest σ) (sym (only_member m)) (λ takes h.
      subst (λ ts. Followed sig start (record s { facts = adds rest (state_fact (first_of path) ts ∷ []) }) (full ++ [] ∷ [])) (sym ((settled_vars laws) sig σ good (v ++ fresh_var x ∷ [])))
      ((law_new laws sig start hold fine s full w clean) ks rest σ good path v x p e (subst (λ ts. Takes s.facts ks (state_fact path ts ∷ fresh_fact ((nf laws) (equations sig) (σ (fresh_var x))) ∷ []) rest) ((settled_vars laws) sig σ good v) takes)))
  law_place ks rest σ good path v (act (action.out y) p) r e m =
      subst (Fires ks rest σ) (sym (only_member m)) (λ takes h.
      subst (λ ts. Followed sig start (record s { facts = adds rest (out_fact ((nf laws) (equations sig) (instance σ y)) ∷ state_fact (first_of path) ts ∷ []) }) (full ++ [] ∷ [])) (sym ((settled_vars laws) sig σ good v))
      ((law_out laws sig start hold fine s full w clean) ks rest σ good path v y p e (subst (λ ts. Takes s.facts ks (state_fact path ts ∷ []) rest) ((settled_vars laws) sig σ good v) takes)))
  law_place ks rest σ good path v (act (action.input y) p) r e m =
      subst (Fires ks rest σ) (sym (only_member m)) (λ takes h.
      subst (λ ts. Followed sig start (record s { facts = adds rest (state_fact (first_of path) ts ∷ []) }) (full ++ (input_fact ((nf laws) (equations sig) (instance σ y)) ∷ []) ∷ [])) (sym ((settled_vars laws) sig σ good (with_new v (tree_vars y))))
      ((law_in laws sig start hold fine s full w clean) ks rest σ good path v y p e h.demands.served (subst (λ ts. Takes s.facts ks (state_fact path ts ∷ in_fact ((nf laws) (equations sig) (instance σ y)) ∷ []) rest) ((settled_vars laws) sig σ good v) takes)))
  law_place ks rest σ good path v (act (action.event f) p) r e m =
      subst (Fires ks rest σ) (sym (only_member m)) (λ takes h.
      subst (λ ts. Followed sig start (record s { facts = adds rest (state_fact (first_of path) ts ∷ []) }) (full ++ (event_fact ∷ (nf_fact laws) (equations sig) (instance_fact σ f) ∷ []) ∷ [])) (sym ((settled_vars laws) sig σ good v))
      ((law_event laws sig start hold fine s full w clean) ks rest σ good path v f p e (subst (λ ts. Takes s.facts ks (state_fact path ts ∷ []) rest) ((settled_vars laws) sig σ good v) takes)))
  law_place ks rest σ good path v (act (action.send a b) p) r e m =
      let same = (settled_vars laws) sig σ good v in
      let tag_is : (nf laws) (equations sig) (σ tag) ≡ σ tag = (nf-fixed laws) (equations sig) (σ tag) (good tag).normal in
      let tagged : map ((nf laws) (equations sig)) (map (instance σ) (vars v ++ variable tag ∷ [])) ≡ map σ v ++ σ tag ∷ [] = ap (λ ts. map ((nf laws) (equations sig)) (map (instance σ) ts)) (sym (map_joined variable v (tag ∷ []))) ∙ (settled_vars laws) sig σ good (v ++ tag ∷ []) ∙ map_push σ v tag in
      let x : Tree = (nf laws) (equations sig) (instance σ a) in
      let y : Tree = (nf laws) (equations sig) (instance σ b) in
      elim (three_members m) [
        | one h ↦ subst (Fires ks rest σ) (sym h) (λ takes z.
            subst (λ ts. Followed sig start (record s { facts = adds rest (out_fact y ∷ state_fact (first_of path) ts ∷ []) }) (full ++ (input_fact x ∷ []) ∷ [])) (sym same)
            ((law_out_adv laws sig start hold fine s full w clean) ks rest σ good path v a b p e z.demands.served (subst (λ ts. Takes s.facts ks (state_fact path ts ∷ in_fact x ∷ []) rest) same takes)))
        | two h ↦ subst (Fires ks rest σ) (sym h) (λ takes z.
            let left : state_fact path (map ((nf laws) (equations sig)) (map (instance σ) (vars v))) ∷ fresh_fact ((nf laws) (equations sig) (σ tag)) ∷ [] ≡ state_fact path (map σ v) ∷ fresh_fact (σ tag) ∷ [] = λ i. state_fact path (same i) ∷ fresh_fact (tag_is i) ∷ [] in
            let right : msg_fact ((nf laws) (equations sig) (σ tag)) x y ∷ waits_fact path (map ((nf laws) (equations sig)) (map (instance σ) (vars v ++ variable tag ∷ []))) ∷ [] ≡ msg_fact (σ tag) x y ∷ waits_fact path (map σ v ++ σ tag ∷ []) ∷ [] = λ i. msg_fact (tag_is i) x y ∷ waits_fact path (tagged i) ∷ [] in
            subst (λ fs. Followed sig start (record s { facts = adds rest fs }) (full ++ [] ∷ [])) (sym right)
            ((law_out_msg laws sig start hold fine s full w clean) ks rest σ good path v a b p e (subst (λ fs. Takes s.facts ks fs rest) left takes)))
        | three h ↦ subst (Fires ks rest σ) (sym h) (λ takes z.
            let left : waits_fact path (map ((nf laws) (equations sig)) (map (instance σ) (vars v ++ variable tag ∷ []))) ∷ ack_fact ((nf laws) (equations sig) (σ tag)) ∷ [] ≡ waits_fact path (map σ v ++ σ tag ∷ []) ∷ ack_fact (σ tag) ∷ [] = λ i. waits_fact path (tagged i) ∷ ack_fact (tag_is i) ∷ [] in
            subst (λ ts. Followed sig start (record s { facts = adds rest (state_fact (first_of path) ts ∷ []) }) (full ++ [] ∷ [])) (sym same)
            ((law_out_ack laws sig start hold fine s full w clean) ks rest σ good path v a b p e (subst (λ fs. Takes s.facts ks fs rest) left takes)))
      ]
  law_place ks rest σ good path v (act (action.receive a b) p) r e m =
      let same = (settled_vars laws) sig σ good v in
      let next_same = (settled_vars laws) sig σ good (with_new v (tree_vars b)) in
      let tag_is : (nf laws) (equations sig) (σ tag) ≡ σ tag = (nf-fixed laws) (equations sig) (σ tag) (good tag).normal in
      let x : Tree = (nf laws) (equations sig) (instance σ a) in
      let y : Tree = (nf laws) (equations sig) (instance σ b) in
      elim (two_members m) [
        | inl h ↦ subst (Fires ks rest σ) (sym h) (λ takes z.
            subst (λ ts. Followed sig start (record s { facts = adds rest (state_fact (first_of path) ts ∷ []) }) (full ++ (input_fact ((nf laws) (equations sig) (instance σ (app2 pair_name a b))) ∷ []) ∷ [])) (sym next_same)
            ((law_in_adv laws sig start hold fine s full w clean) ks rest σ good path v a b p e z.demands.served (subst (λ ts. Takes s.facts ks (state_fact path ts ∷ in_fact ((nf laws) (equations sig) (instance σ (app2 pair_name a b))) ∷ []) rest) same takes)))
        | inr h ↦ subst (Fires ks rest σ) (sym h) (λ takes z.
            let left : state_fact path (map ((nf laws) (equations sig)) (map (instance σ) (vars v))) ∷ msg_fact ((nf laws) (equations sig) (σ tag)) x y ∷ [] ≡ state_fact path (map σ v) ∷ msg_fact (σ tag) x y ∷ [] = λ i. state_fact path (same i) ∷ msg_fact (tag_is i) x y ∷ [] in
            let right : ack_fact ((nf laws) (equations sig) (σ tag)) ∷ state_fact (first_of path) (map ((nf laws) (equations sig)) (map (instance σ) (vars (with_new v (tree_vars b))))) ∷ [] ≡ ack_fact (σ tag) ∷ state_fact (first_of path) (map σ (with_new v (tree_vars b))) ∷ [] = λ i. ack_fact (tag_is i) ∷ state_fact (first_of path) (next_same i) ∷ [] in
            subst (λ fs. Followed sig start (record s { facts = adds rest fs }) (full ++ [] ∷ [])) (sym right)
            ((law_in_msg laws sig start hold fine s full w clean) ks rest σ good path v a b p e (subst (λ fs. Takes s.facts ks fs rest) left takes)))
      ]
  law_place ks rest σ good path v (act (action.insert a b) p) r e m =
      let same = (settled_vars laws) sig σ good v in
      let x : Tree = (nf laws) (equations sig) (instance σ a) in
      let y : Tree = (nf laws) (equations sig) (instance σ b) in
      subst (Fires ks rest σ) (sym (only_member m)) (λ takes h.
      subst (λ ts. Followed sig start (record s { facts = adds rest (state_fact (first_of path) ts ∷ []) }) (full ++ (insert_fact x y ∷ []) ∷ [])) (sym same)
      ((law_insert laws sig start hold fine s full w clean) ks rest σ good path v a b p e x y refl refl h.demands (subst (λ ts. Takes s.facts ks (state_fact path ts ∷ []) rest) same takes)))
  law_place ks rest σ good path v (act (action.delete a) p) r e m =
      let same = (settled_vars laws) sig σ good v in
      let x : Tree = (nf laws) (equations sig) (instance σ a) in
      subst (Fires ks rest σ) (sym (only_member m)) (λ takes h.
      subst (λ ts. Followed sig start (record s { facts = adds rest (state_fact (first_of path) ts ∷ []) }) (full ++ (delete_fact x ∷ []) ∷ [])) (sym same)
      ((law_delete laws sig start hold fine s full w clean) ks rest σ good path v a p e x refl h.demands (subst (λ ts. Takes s.facts ks (state_fact path ts ∷ []) rest) same takes)))
  law_place ks rest σ good path v (act (action.lock a l) p) r e m =
      let same = (settled_vars laws) sig σ good v in
      let next_same = (settled_vars laws) sig σ good (v ++ lock_var l ∷ []) in
      let x : Tree = (nf laws) (equations sig) (instance σ a) in
      subst (Fires ks rest σ) (sym (only_member m)) (λ takes h.
      subst (λ ts. Followed sig start (record s { facts = adds rest (state_fact (first_of path) ts ∷ []) }) (full ++ (lock_fact ((nf laws) (equations sig) (σ (lock_var l))) x ∷ []) ∷ [])) (sym next_same)
      ((law_lock laws sig start hold fine s full w clean) ks rest σ good path v a l p e x refl h.demands (subst (λ ts. Takes s.facts ks (state_fact path ts ∷ fresh_fact ((nf laws) (equations sig) (σ (lock_var l))) ∷ []) rest) same takes)))
  law_place ks rest σ good path v (act (action.unlock a l) p) r e m =
      let same = (settled_vars laws) sig σ good v in
      let x : Tree = (nf laws) (equations sig) (instance σ a) in
      subst (Fires ks rest σ) (sym (only_member m)) (λ takes h.
      subst (λ ts. Followed sig start (record s { facts = adds rest (state_fact (first_of path) ts ∷ []) }) (full ++ (unlock_fact ((nf laws) (equations sig) (σ (lock_var l))) x ∷ []) ∷ [])) (sym same)
      ((law_unlock laws sig start hold fine s full w clean) ks rest σ good path v a l p e x refl (subst (λ ts. Takes s.facts ks (state_fact path ts ∷ []) rest) same takes)))
  law_place ks rest σ good path v (whole.lookup a b p q) r e m =
      let same = (settled_vars laws) sig σ good v in
      let next_same = (settled_vars laws) sig σ good (v ++ message_var b ∷ []) in
      let x : Tree = (nf laws) (equations sig) (instance σ a) in
      let value : (nf laws) (equations sig) (σ (message_var b)) ≡ σ (message_var b) = (nf-fixed laws) (equations sig) (σ (message_var b)) (good (message_var b)).normal in
      elim (two_members m) [
        | inl z ↦ subst (Fires ks rest σ) (sym z) (λ takes h.
            let right : record s { facts = adds rest (state_fact (first_of path) (map ((nf laws) (equations sig)) (map (instance σ) (vars (v ++ message_var b ∷ [])))) ∷ []) } ≡ record s { facts = adds rest (state_fact (first_of path) (map σ (v ++ message_var b ∷ [])) ∷ []) } = λ i. record s { facts = adds rest (state_fact (first_of path) (next_same i) ∷ []) } in
            subst (λ st. Followed sig start st (full ++ (is_in_fact x ((nf laws) (equations sig) (σ (message_var b))) ∷ []) ∷ [])) (sym right)
            (subst (λ u. Followed sig start (record s { facts = adds rest (state_fact (first_of path) (map σ (v ++ message_var b ∷ [])) ∷ []) }) (full ++ (is_in_fact x u ∷ []) ∷ [])) (sym value)
            ((law_found laws sig start hold fine s full w clean) ks rest σ good path v a b p q e x refl (subst (λ u. MeetsSix (equations sig) (full ++ (is_in_fact x u ∷ []) ∷ [])) value h.demands) (subst (λ ts. Takes s.facts ks (state_fact path ts ∷ []) rest) same takes))))
        | inr z ↦ subst (Fires ks rest σ) (sym z) (λ takes h.
            subst (λ ts. Followed sig start (record s { facts = adds rest (state_fact (second_of path) ts ∷ []) }) (full ++ (is_not_set_fact x ∷ []) ∷ [])) (sym same)
            ((law_missing laws sig start hold fine s full w clean) ks rest σ good path v a b p q e x refl h.demands (subst (λ ts. Takes s.facts ks (state_fact path ts ∷ []) rest) same takes)))
      ]
  law_place ks rest σ good path v (act (action.embedded l a o) p) r e m =
      let same = (settled_vars laws) sig σ good v in
      let next_same = (settled_vars laws) sig σ good (with_new v (facts_vars (l ++ (a ++ o)))) in
      subst (Fires ks rest σ) (sym (only_member m)) (λ takes h.
      subst (λ fs. Followed sig start (record s { facts = adds rest (state_fact (first_of path) (map ((nf laws) (equations sig)) (map (instance σ) (vars (with_new v (facts_vars (l ++ (a ++ o))))))) ∷ (settled laws) (equations sig) σ o) }) (full ++ fs ∷ [])) (sym ((settled_said laws) (equations sig) σ a))
      (subst (λ ts. Followed sig start (record s { facts = adds rest (state_fact (first_of path) ts ∷ (settled laws) (equations sig) σ o) }) (full ++ embedded_acts ((settled laws) (equations sig) σ a) ∷ [])) (sym next_same)
      ((law_embed laws sig start hold fine s full w clean) ks rest σ good path v l a o p e (subst (λ ts. Takes s.facts ks (state_fact path ts ∷ (settled laws) (equations sig) σ l) rest) same takes))))

  pub law_rule : (ks : List ℕ) (rest : List (Option Fact)) (σ : Choice) → IsMessageChoice sig σ → (r : Rule) → Member r (rules_of start) → Fires ks rest σ r
  law_rule ks rest σ good r m = by_case (whence r start m)
    where
      by_case : Whence r start → Fires ks rest σ r
      by_case (is_init e) = subst (Fires ks rest σ) (sym e) (λ takes h.
          subst (λ x. Followed sig start (record s { facts = adds x (state_fact [] [] ∷ []) }) (full ++ (init_fact ∷ []) ∷ [])) (sym (took_none takes)) ((law_init laws sig start hold fine s full w clean) h.init))
      by_case (is_place b) = law_place ks rest σ good b.path b.scope b.body r b.is b.own

  pub law_named : (ks : List ℕ) (rest : List (Option Fact)) (σ : Choice) (r : Rule) (left acts right : List Fact) → IsMessageChoice sig σ → Member r (rules_of start) → AreEqualFacts (equations sig) (instance_facts σ r.left) left → Takes s.facts ks left rest → AreFormsOfFacts (equations sig) (instance_facts σ r.acts) acts → AreFormsOfFacts (equations sig) (instance_facts σ r.right) right → MeetsAll (equations sig) (full ++ acts ∷ []) → Followed sig start (record s { facts = adds rest right }) (full ++ acts ∷ [])
  law_named ks rest σ r left acts right good m equal takes shows new h =
      let l = (equal_are_facts laws) (equations sig) (instance_facts σ r.left) left equal (λ f n. taken_each (IsTidy (equations sig)) clean.facts takes f n) in
      let a = (forms_are_facts laws) (equations sig) (instance_facts σ r.acts) acts shows in
      let t = (forms_are_facts laws) (equations sig) (instance_facts σ r.right) right new in
      subst (λ fs. Followed sig start (record s { facts = adds rest fs }) (full ++ acts ∷ [])) (sym t)
      (subst (λ fs. Followed sig start (record s { facts = adds rest ((settled laws) (equations sig) σ r.right) }) (full ++ fs ∷ [])) (sym a)
      (law_rule ks rest σ good r m (subst (λ fs. Takes s.facts ks fs rest) l takes) (subst (λ fs. MeetsAll (equations sig) (full ++ fs ∷ [])) a h)))

-- the law for any step
pub law : (laws : Laws) → {sig : Sig} {start : Proc} {s z : RuleState} {full : Trace} {acts : List Fact} → HoldsBuiltins sig → SoundPlaces sig start → Followed sig start s full → Tidy (equations sig) s → RuleStep sig (rules_of start) s acts z → MeetsAll (equations sig) (full ++ acts ∷ []) → Followed sig start z (full ++ acts ∷ [])
law laws {sig} {start = start} {s = s} {full = full} hold fine w c (RuleStep.makes_name n u) h = (law_fresh laws) sig start hold fine s full w c n (λ m. u (contains m))
law laws {sig} {start = start} {s = s} {full = full} hold fine w c (RuleStep.learns {rest = rest} k x t) h = (law_learn laws) sig start hold fine s full w c k x rest t
law laws {sig} {start = start} {s = s} {full = full} hold fine w c (RuleStep.owns {rest = rest} k n t) h = (law_own laws) sig start hold fine s full w c k n rest t
law laws {sig} {start = start} {s = s} {full = full} hold fine w c (RuleStep.knows_public a) h = (law_public laws) sig start hold fine s full w c a
law laws {sig} {start = start} {s = s} {full = full} hold fine w c (RuleStep.applies f ts x p a all n) h = (law_applies laws) sig start hold fine s full w c f ts x p a all n
law laws {sig} {start = start} {s = s} {full = full} hold fine w c (RuleStep.gives x m) h = (law_know laws) sig start hold fine s full w c x (member x s.known m)
law laws {sig} {start = start} {s = s} {full = full} hold fine w c (RuleStep.uses {rest = rest} r ks σ left acts right m takes fits) h = (law_named laws) sig start hold fine s full w c ks rest σ r left acts right fits.messages (member r (rules_of start) m) fits.takes takes fits.shows fits.adds h

pub followed : (laws : Laws) → {sig : Sig} {start : Proc} {s : RuleState} {full : Trace} → HoldsBuiltins sig → SoundPlaces sig start → UnlocksAreOpen [] start → RuleRun sig (rules_of start) s full → MeetsAll (equations sig) full → Followed sig start s full
followed laws {sig} {start = start} hold fine ok RuleRun.starts h = record { agents = Some (unborn start) ∷ []; pending = None; c = initial start; tr = []; reached = ProcessRun.starts; related = related_start sig start ok }
followed laws {sig} hold fine ok (RuleRun.further {full = full} {acts = acts} run step) h = (law laws) hold fine ((followed laws) hold fine ok run (record { init = admitted_before full acts h.init; demands = demands_before (equations sig) full acts h.demands })) ((tidy laws) run) step h

pub shows_only : (laws : Laws) → (sig : Sig) (start : Proc) → HoldsBuiltins sig → IsSound sig start → SeesOnly sig start (rules_of start)
shows_only laws sig start hold fine tr h =
    let y = flushed sig start h.0 h.1 ((followed laws) hold fine.0 fine.1 h.2 h.3) in
    let same : y.tr ≡ tr = sym (append-nil y.tr) ∙ sym y.related.traces.shows ∙ h.4 in
    (y.c, subst (λ x. ProcessRun sig (initial start) y.c x) same y.reached)
