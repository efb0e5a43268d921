-- The line of an embedded rule.
use Rattle.std.proofs.Common.{◌≡◌, ℕ, suc, ◌+◌, ◌<◌, ◌^◌, List, [], ◌∷◌, ◌++◌, Option, Some, None, refl, sym, ap, ◌∙◌, subst, arith, slice_get, slice_set, length, map, append-nil, append_assoc, false}
use Rattle.std.proofs.lemmas.List.{map-append}
use Rattle.std.proofs.lemmas.Slice.Zip.{AllZip-long}
use Rattle.sap_terms.specs.Choice.{Choice}
use Rattle.sap_terms.specs.Equations.{Equations, equations}
use Rattle.sap_terms.specs.Message.{IsMessageChoice}
use Rattle.sap_terms.specs.Modulo.{instance_fact, instance_facts, IsFormOfFact, AreEqualFacts, AreFormsOfFacts}
use Rattle.sap_terms.specs.Piles.{Pile, Takes, adds}
use Rattle.sap_terms.specs.Reserved.{is_reserved}
use Rattle.sap_terms.specs.Signature.{Sig, HoldsBuiltins}
use Rattle.sap_terms.specs.Trace.{Trace, shown}
use Rattle.sap_terms.specs.Tree.{Tree}
use Rattle.sap_terms.specs.Variables.{new_vars, facts_vars}
use Rattle.sap_terms.specs.declared.binding.Binding.{Binding}
use Rattle.sap_terms.specs.declared.fact.Fact.{Fact}
use Rattle.sap_rewrite.specs.Match.{Agrees, bound_vars}
use Rattle.sap_process.specs.Heads.{facts_terms}
use Rattle.sap_process.specs.Action as action
use Rattle.sap_process.specs.Configuration as config
use Rattle.sap_process.specs.Configuration.{Config, Runs, becomes, stored}
use Rattle.sap_process.specs.Proc.{Proc, act, node_count}
use Rattle.sap_process.specs.ProcessSteps.{with_choice}
use Rattle.sap_process.specs.Ready.{IsReady}
use Rattle.sap_process.specs.Sites.{var_names}
use Rattle.sap_locks.specs.Annotation.{IsAnnotation}
use Rattle.sap_process.specs.Scopes.{with_new}
use Rattle.sap_rule.specs.RuleSteps.{RuleState, leaves}
use Rattle.sap_rule.specs.Variables.{open_variables}
use Rattle.sap_rule.specs.declared.rule.Rule.{Rule}
use Rattle.sap_runs.specs.Marks.{marks_of}
use Rattle.sap_runs.specs.declared.process_step.PStep.TheVariants as line
use Rattle.sap_runs.specs.declared.rule_step.RStep.TheVariants.{Rule as RuleLine}
use Rattle.sap_lines.specs.Lines.{EvaluateWithin, left_open as line_open}
use Rattle.sap_translate.specs.Members.{Member}
use Rattle.sap_templates.specs.Templates as rules
use Rattle.sap_templates.specs.Templates.{rules_of, first_of}
use Rattle.sap_translate.specs.Opened.{left_open}
use Rattle.sap_translate.specs.relation.Agents.{Agent, running}
use Rattle.sap_translate.specs.relation.Answers.{under, widened, goes_on, at_first}
use Rattle.sap_translate.specs.relation.Answered as case
use Rattle.sap_translate.specs.relation.Envs.{Env, names, filled, chosen}
use Rattle.sap_translate.specs.relation.RuleMoves as move
use Rattle.sap_forward.specs.Answered.{IsAnswered}
use Rattle.sap_rule_lines.specs.Least.{not_drawn, numbers_below}
use Rattle.sap_forward.specs.Linked.{Linked, EnvWithin, MadeFor}
use Rattle.sap_forward.specs.Tables.{RuleTables, AreNumbers, AreRuleTables}
use Rattle.sap_forward.specs.Written.{IsWrittenAsRules, moved, with_process_facts}
use Rattle.sap_forward.proofs.Evaluated.{FactsEvaluate, rule_within, terms_within, facts_var, facts_left, facts_right}
use Rattle.sap_forward.proofs.Lines.{lines_of, used_line}
use Rattle.sap_translate.proofs.Shared.Marked.{embedded_marks}
use Rattle.sap_forward.proofs.Moves.{ruled_by_move}
use Rattle.sap_forward.proofs.Fresh.{in_front}
use Rattle.sap_forward.proofs.Inputs.{wide_pattern}
use Rattle.sap_forward.proofs.Premises.{Laws}
use Rattle.sap_forward.proofs.Tabled.{length_set, length_join, get_set, get_left, get_right, get_other, numbers_stay, pile_stays, tables_turn, pile_comes, taken_by_table}
use Rattle.sap_forward.proofs.Advance.{envs_set, only_env, place_sound, opens_at, state_within, law, stands_at, seated}

-- names that aren't reserved stay so in normal forms
unreserved_forms : (e : Equations) (σ τ : Choice) (fs hs : List Fact) → ((f : Fact) → Member f fs → is_reserved f.name ≡ false) → AreFormsOfFacts e (instance_facts σ (instance_facts τ fs)) hs → (h : Fact) → Member h hs → is_reserved h.name ≡ false
unreserved_forms e σ τ [] [] free k h m = elim m [ ]
unreserved_forms e σ τ [] (x ∷ hs) free k h m = absurd k
unreserved_forms e σ τ (f ∷ fs) [] free k h m = elim m [ ]
unreserved_forms e σ τ (f ∷ fs) (x ∷ hs) free k h Member.here = ap is_reserved k.0.name ∙ free f Member.here
unreserved_forms e σ τ (f ∷ fs) (x ∷ hs) free k h (Member.later m) = unreserved_forms e σ τ fs hs (λ y n. free y (Member.later n)) k.1 h m

acts_evaluate : (g : Sig) (W : Tree → Type 0) (σ : Choice) (fs : List Fact) → FactsEvaluate g W σ fs → FactsEvaluate g W σ (rules.embedded_acts fs)
acts_evaluate g W σ [] h = tt
acts_evaluate g W σ (f ∷ fs) h = (tt, h)

same_length : (σ : Choice) (fs : List Fact) → length (instance_facts σ fs) ≡ length fs
same_length σ [] = refl
same_length σ (f ∷ fs) = ap suc (same_length σ fs)

module _ (laws : Laws) (g : Sig) (W : Tree → Type 0) (p q : Proc) (hold : HoldsBuiltins g) (ready : IsReady g p) (small : node_count p < 2 ^ 64) (annotated : IsAnnotation p q) (drawn : List ℕ) (agents : List (Option Agent)) (c : Config) (es : List Tree) (tr : Trace) (s : RuleState) (full : Trace) (tables : RuleTables) (lk : Linked g W q drawn tables agents c es tr s full) where
  pub embeds_here : (t : ℕ) (path : List ℕ) (env : Env) (l e r : List Fact) (u : Proc) (ks : List ℕ) (b : List Binding) (σ : Choice) (taken acts added : List Fact) (rest : Pile) → slice_get agents t ≡ Some (Some (running path env (act (action.embedded l e r) u)))
      → let L : List Fact = instance_facts (chosen env) l in let E : List Fact = instance_facts (chosen env) e in let R : List Fact = instance_facts (chosen env) r in
      Runs c t (act (action.embedded L E R) (under env u)) → IsMessageChoice g σ → bound_vars b ≡ line_open L E R → Agrees b σ
      → AreEqualFacts (equations g) (instance_facts σ L) taken → Takes c.facts ks taken rest → AreFormsOfFacts (equations g) (instance_facts σ E) acts → AreFormsOfFacts (equations g) (instance_facts σ R) added
      → EvaluateWithin g W (facts_terms (instance_facts σ (L ++ (E ++ R))))
      → IsAnswered g W q drawn agents c tables s full (line.Embedded t ks b) (config.leaves (becomes c t (Some (with_choice σ (facts_vars (L ++ (E ++ R))) (under env u)))) (adds rest added)) es (tr ++ shown acts) (marks_of [] acts)
  embeds_here t path env l e r u ks b σ taken acts added rest is runs messages vars agrees alike takes shows adds_ heads =
      let body : Proc = act (action.embedded l e r) u in
      let L : List Fact = instance_facts (chosen env) l in
      let E : List Fact = instance_facts (chosen env) e in
      let R : List Fact = instance_facts (chosen env) r in
      let sits = seated laws g W p q hold ready small annotated drawn agents c es tr s full tables lk t path env body is in
      let k = sits.0 in
      let at = stands_at laws g W p q hold ready small annotated drawn agents c es tr s full tables lk t path env body is in
      let sound = place_sound laws g W p q hold ready small annotated path env body at in
      let opens = opens_at laws g W p q hold ready small annotated path env body at in
      let wide = lk.envs t (running path env body) is in
      let fs : List Fact = l ++ (e ++ r) in
      let wider : Env = widened env σ (facts_vars fs) in
      let split : instance_facts (chosen env) fs ≡ L ++ (E ++ R) = map-append (instance_fact (chosen env)) l (e ++ r) ∙ ap (λ i. L ++ i) (map-append (instance_fact (chosen env)) e r) in
      let stand : instance_facts (filled wider) fs ≡ instance_facts σ (L ++ (E ++ R)) = laws.facts g env σ (facts_vars fs) fs at.1 sound.3 ∙ ap (instance_facts σ) split in
      let all_ev : FactsEvaluate g W (filled wider) fs = terms_within g W (filled wider) fs (subst (λ i. EvaluateWithin g W (facts_terms i)) (sym stand) heads) in
      let ev_l = facts_left g W (filled wider) l (e ++ r) all_ev in
      let ev_er = facts_right g W (filled wider) l (e ++ r) all_ev in
      let ev_e = facts_left g W (filled wider) e r ev_er in
      let ev_r = facts_right g W (filled wider) e r ev_er in
      let all = wide_pattern laws g W env σ (facts_vars fs) wide (λ y i. facts_var g W (filled wider) fs y i all_ev) in
      let ns = new_vars (var_names (names env)) (facts_vars fs) in
      let st = state_within laws g W p q hold ready small annotated wider (names env) all (λ y i. in_front (names env) ns i) in
      let st2 = state_within laws g W p q hold ready small annotated wider (with_new (names env) (facts_vars fs)) all (λ y i. i) in
      let rl : Rule = rules.embedded_rule path (names env) l e r in
      let open_is : open_variables g rl ≡ left_open (names env) l e r = cc in
      let line_is : line_open L E R ≡ left_open (names env) l e r = laws.instances g env l e r at.1 in
      let binds_vars : bound_vars b ≡ left_open (names env) l e r = vars ∙ line_is in
      let agrees' = laws.choices g p q path env l e r u σ b ready small annotated at.0 binds_vars agrees in
      -- what is taken, under the numbers of the table
      let gone : Pile = slice_set s.facts k None in
      let long : length gone ≡ length s.facts = length_set s.facts k None in
      let numbers : AreNumbers c.facts gone tables.facts = pile_stays agents c.facts s.facts tables lk.tabled t k gone sits.1.number (λ j f apart h. get_other s.facts k j None apart ∙ h) (omega arith) in
      let by = taken_by_table c.facts gone tables.facts ks taken rest numbers takes in
      let ans = law laws g W p q hold ready small annotated drawn agents c es tr s full tables lk case.Embeds laws.embeds t k path env l e r u ks by.js σ taken acts added rest by.later sits.2 messages alike takes shows adds_ by.takes in
      let next : Fact = at_first path wider in
      let d0 : Config = config.leaves (becomes c t (Some (under wider u))) (adds rest added) in
      let thread : under wider u ≡ with_choice σ (facts_vars (L ++ (E ++ R))) (under env u) =
      one_inside (sym (get_set c.threads t (Some (act (action.embedded L E R) (under env u))) (Some (under wider u)) runs) ∙ ruled_by_move g c t ks σ L E R (under env u) acts d0 ans.process runs) in
      let z : RuleState = leaves s (adds by.later (next ∷ added)) in
      let turned : AreRuleTables (goes_on agents t path wider u) rest (by.later ++ Some next ∷ []) (moved tables t 0) = tables_turn agents c.facts s.facts tables lk.tabled t k 0 (by.later ++ Some next ∷ []) (running (first_of path) wider u) next rest sits.1.number
      (λ i j f n apart h. get_left by.later (Some next ∷ []) j (Some f) (by.others j (λ o m. lk.tabled.apart i o j n m) ∙ get_other s.facts k j None apart ∙ h))
      (numbers_stay rest by.later (by.later ++ Some next ∷ []) tables.facts by.numbers (λ i j f n h. get_left by.later (Some next ∷ []) j (Some f) h) (let o = length_join by.later (Some next ∷ []) in omega arith)) refl
      (let o = length_join by.later (Some next ∷ []) in let o2 = by.long in omega arith) (get_right by.later (Some next ∷ []) 0 (length s.facts + 0) (Some next) refl (let o2 = by.long in omega arith)) in
      let come = pile_comes (goes_on agents t path wider u) added rest (by.later ++ Some next ∷ []) (moved tables t 0) turned in
      let added_long : length added ≡ length r = AllZip-long (IsFormOfFact (equations g)) (instance_facts σ R) added adds_ ∙ same_length σ R ∙ same_length (chosen env) r in
      let free = unreserved_forms (equations g) σ (chosen env) e acts sound.1 shows in
      subst (λ i. IsAnswered g W q drawn agents c tables s full (line.Embedded t ks b) (config.leaves (becomes c t (Some i)) (adds rest added)) es (tr ++ shown acts) (marks_of [] acts)) thread
      (record {
        lines = RuleLine rl.name (k ∷ by.js) b ∷ [];
        later = goes_on agents t path wider u;
        behind = with_process_facts (moved tables t 0) (length r);
        state = z;
        more = rules.embedded_acts acts ∷ [];
        written = IsWrittenAsRules.embeds t k ks by.js b path env l e r σ u sits.1 by.cited;
        legal = lines_of W g (rules_of q) s z (move.uses rl (k ∷ by.js) (filled wider) ∷ []) (RuleLine rl.name (k ∷ by.js) b ∷ []) (rules.embedded_acts acts ∷ []) (
          (λ a y h. used_line W g (rules_of q) (laws.named q) s y a rl (k ∷ by.js) (filled wider) b (record { vars = binds_vars ∙ sym open_is; agrees = agrees' })
              (rule_within g W (filled wider) rl (st, ev_l) (acts_evaluate g W (filled wider) e ev_e) (st2, ev_r)) h),
          (λ y. tt),
        ) ans.rules;
        linked = record {
          rest = ans.rest;
          known = lk.known;
          tabled = subst (λ n. AreRuleTables (goes_on agents t path wider u) (adds rest added) (adds by.later (next ∷ added)) (with_process_facts (moved tables t 0) n)) added_long
              (subst (λ x. AreRuleTables (goes_on agents t path wider u) (adds rest added) x (with_process_facts (moved tables t 0) (length added))) (append_assoc by.later (Some next ∷ []) (map Some added)) come);
          made = λ n i. elim (lk.made n i) [ MadeFor.a_process a e ↦ MadeFor.a_process a e | MadeFor.the_adversary a e ↦ MadeFor.the_adversary a e | MadeFor.a_lock_or_tag e l ↦ MadeFor.a_lock_or_tag e l ];
          entries = lk.entries;
          envs = envs_set (EnvWithin g W) agents t (Some (running (first_of path) wider u)) lk.envs (only_env (EnvWithin g W) (first_of path) wider u all);
          stored = lk.stored;
        };
        marked = embedded_marks acts free;
        short = omega arith;
        names = sym (append-nil (not_drawn drawn (numbers_below tables.next)));
      })
    where
      one_inside : {a b : Proc} → Some (Some a) ≡ Some (Some b) → a ≡ b
      one_inside h = cc
