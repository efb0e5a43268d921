-- What was sent is learnt.
use Rattle.std.proofs.Common.{◌≡◌, ℕ, ◌+◌, ◌<◌, ◌^◌, List, [], ◌∷◌, ◌++◌, Option, Some, None, refl, sym, ap, ◌∙◌, subst, arith, slice_get, slice_set, length, append-nil, append_assoc, inl, inr}
use Rattle.std.proofs.lemmas.List.Elements.{Contains-push_cases}
use Rattle.std.proofs.lemmas.Option.{slice_get_within}
use Rattle.sap_terms.specs.AdversaryFacts.{k_fact, in_fact, out_fact}
use Rattle.sap_terms.specs.Equations.{equations}
use Rattle.sap_terms.specs.Normal.{IsNormalForm}
use Rattle.sap_terms.specs.Piles.{Pile, nothing, one}
use Rattle.sap_terms.specs.Signature.{Sig, HoldsBuiltins}
use Rattle.sap_terms.specs.Trace.{Trace, shown}
use Rattle.sap_terms.specs.Tree.{Tree}
use Rattle.sap_terms.specs.declared.fact.Fact.{Fact}
use Rattle.sap_terms.proofs.PlainLaws.Items.{contains_got}
use Rattle.sap_process.specs.Action as action
use Rattle.sap_process.specs.Configuration.{Config, becomes, sends_out, CanGive}
use Rattle.sap_process.specs.Proc.{Proc, act, node_count}
use Rattle.sap_process.specs.Ready.{IsReady}
use Rattle.sap_locks.specs.Annotation.{IsAnnotation}
use Rattle.sap_restrict.specs.ReservedFacts.{input_fact}
use Rattle.sap_rule.specs.RuleSteps.{RuleState, leaves, gains}
use Rattle.sap_rule.specs.Variables.{open_variables}
use Rattle.sap_rule.specs.declared.rule.Rule.{Rule}
use Rattle.sap_runs.specs.Marks.{marks_of}
use Rattle.sap_runs.specs.declared.process_step.PStep.TheVariants as line
use Rattle.sap_runs.specs.declared.rule_step.RStep.TheVariants.{Learn, Know, Rule as RuleLine}
use Rattle.sap_lines.specs.Lines.{EvaluateWithin}
use Rattle.sap_steps.specs.Lines.{IsLine}
use Rattle.sap_templates.specs.Templates as rules
use Rattle.sap_templates.specs.Templates.{rules_of, first_of}
use Rattle.sap_translate.specs.relation.Agents.{Agent, running}
use Rattle.sap_translate.specs.relation.Answers.{AtRest, term_under, under, trades, gets, goes_on, at_first}
use Rattle.sap_translate.specs.relation.Answered as case
use Rattle.sap_translate.specs.relation.Envs.{Env, names, filled}
use Rattle.sap_translate.specs.relation.RuleMoves as move
use Rattle.sap_forward.specs.Answered.{IsAnswered, AreLines}
use Rattle.sap_rule_lines.specs.Least.{not_drawn, numbers_below}
use Rattle.sap_forward.specs.Linked.{Linked, EnvWithin, MadeFor}
use Rattle.sap_forward.specs.Tables.{RuleTables}
use Rattle.sap_forward.specs.Written.{IsWrittenAsRules, moved, with_facts}
use Rattle.sap_forward.proofs.Evaluated.{rule_within, first_within, rest_within, form_within}
use Rattle.sap_forward.proofs.Lines.{lines_of, one_line, lines_join, used_line, given_line}
use Rattle.sap_forward.proofs.Premises.{Laws}
use Rattle.sap_forward.proofs.Tabled.{length_set, length_join, get_left, get_right, get_other, tables_move, tables_stay}
use Rattle.sap_forward.proofs.Advance.{envs_set, only_env, stay_set, place_sound, opens_at, state_within, law, stands_at, seated}

-- both sides rest again once the adversary learnt what was put out
pub learnt : (laws : Laws) (g : Sig) (p q : Proc) → HoldsBuiltins g → IsReady g p → node_count p < 2 ^ 64 → IsAnnotation p q → (agents : List (Option Agent)) (d : Config) (tr : Trace) (z : RuleState) (full : Trace) (k : ℕ) (x : Tree) → AtRest g q agents d tr z full → slice_get z.facts k ≡ Some (Some (out_fact x))
    → AtRest g q agents d tr (gains (leaves z (slice_set z.facts k None)) x) (full ++ [] ∷ [])
learnt laws g p q hold ready small annotated agents d tr z full k x rest e =
    let h = laws.follows_learn g p q hold ready small annotated agents None d tr z full (record { reached = rest.reached; ran = rest.ran; related = rest.related }) k x (slice_set z.facts k None) (one e nothing) in
    subst (λ i. AtRest g q agents d i (gains (leaves z (slice_set z.facts k None)) x) (full ++ [] ∷ [])) (append-nil tr) (record { reached = h.together.reached; ran = h.together.ran; related = h.together.related; started = rest.started; calm = rest.calm })

-- and that is a line
pub learnt_line : (W : Tree → Type 0) (g : Sig) (rs : List Rule) (z : RuleState) (k n : ℕ) (x : Tree) → slice_get z.facts k ≡ Some (Some (out_fact x)) → k ≡ n → IsLine g rs W z (Learn n) [] (gains (leaves z (slice_set z.facts k None)) x)
learnt_line W g rs z k n x e same = subst (λ i. IsLine g rs W z (Learn i) [] (gains (leaves z (slice_set z.facts k None)) x)) same (x, record { rest = slice_set z.facts k None; takes = one e nothing; silent = refl; becomes = refl })

module _ (laws : Laws) (g : Sig) (W : Tree → Type 0) (p q : Proc) (hold : HoldsBuiltins g) (ready : IsReady g p) (small : node_count p < 2 ^ 64) (annotated : IsAnnotation p q) (drawn : List ℕ) (agents : List (Option Agent)) (c : Config) (es : List Tree) (tr : Trace) (s : RuleState) (full : Trace) (tables : RuleTables) (lk : Linked g W q drawn tables agents c es tr s full) where
  pub outputs_here : (t : ℕ) (path : List ℕ) (env : Env) (m x : Tree) (u : Proc) → slice_get agents t ≡ Some (Some (running path env (act (action.out m) u))) → IsNormalForm (equations g) (term_under env m) x → EvaluateWithin g W (term_under env m ∷ [])
      → IsAnswered g W q drawn agents c tables s full (line.Out t) (sends_out (becomes c t (Some (under env u))) x) (es ++ x ∷ []) (tr ++ shown []) (marks_of [] [])
  outputs_here t path env m x u is fx heads =
      let body : Proc = act (action.out m) u in
      let sits = seated laws g W p q hold ready small annotated drawn agents c es tr s full tables lk t path env body is in
      let k = sits.0 in
      let at = stands_at laws g W p q hold ready small annotated drawn agents c es tr s full tables lk t path env body is in
      let sound = place_sound laws g W p q hold ready small annotated path env body at in
      let opens = opens_at laws g W p q hold ready small annotated path env body at in
      let wide = lk.envs t (running path env body) is in
      let st = state_within laws g W p q hold ready small annotated env (names env) wide (λ y i. i) in
      let r : Rule = rules.out_rule path (names env) m in
      let none : open_variables g r ≡ [] = cc in
      let ev = subst (λ i. EvaluateWithin g W (i ∷ [])) (sym (laws.terms env m sound)) heads in
      let ans = law laws g W p q hold ready small annotated drawn agents c es tr s full tables lk case.Outputs laws.outputs t k path env m x u sits.2 fx in
      let N = length s.facts in
      let gone = slice_set s.facts k None in
      let next : Fact = at_first path env in
      let z1 : RuleState = trades s (k ∷ []) (out_fact x ∷ next ∷ []) in
      let d : Config = sends_out (becomes c t (Some (under env u))) x in
      let later : List (Option Agent) = goes_on agents t path env u in
      let long : length gone ≡ N = length_set s.facts k None in
      let there_is : slice_get z1.facts N ≡ Some (Some (out_fact x)) = get_right gone (Some (out_fact x) ∷ Some next ∷ []) 0 N (Some (out_fact x)) refl (omega arith) in
      let rest = learnt laws g p q hold ready small annotated later d (tr ++ []) z1 (full ++ [] ∷ []) N x ans.rest there_is in
      let z : RuleState = gains (leaves z1 (slice_set z1.facts N None)) x in
      let l1 : AreLines W g (rules_of q) s (RuleLine r.name (k ∷ []) [] ∷ []) ([] ∷ []) z1 = lines_of W g (rules_of q) s z1 (move.uses r (k ∷ []) (filled env) ∷ []) (RuleLine r.name (k ∷ []) [] ∷ []) ([] ∷ [])
      ((λ a y h. used_line W g (rules_of q) (laws.named q) s y a r (k ∷ []) (filled env) [] (record { vars = sym none; agrees = tt }) (rule_within g W (filled env) r (st, tt) tt ((ev, tt), (st, tt))) h), (λ y. tt)) ans.rules in
      record {
        lines = RuleLine r.name (k ∷ []) [] ∷ Learn tables.count ∷ [];
        later = later;
        behind = moved tables t 1;
        state = z;
        more = [] ∷ [] ∷ [];
        written = IsWrittenAsRules.outputs t k path env m u sits.1;
        legal = lines_join l1 (one_line (learnt_line W g (rules_of q) z1 N tables.count x there_is (sym lk.tabled.count)));
        linked = record {
          rest = subst (λ i. AtRest g q later d (tr ++ []) z i) (append_assoc full ([] ∷ []) ([] ∷ [])) rest;
          known = ap (λ i. i ++ x ∷ []) lk.known;
          tabled = tables_move agents c.facts s.facts tables lk.tabled t k 1 (slice_set (gone ++ Some (out_fact x) ∷ Some next ∷ []) N None) (running (first_of path) env u) next sits.1.number
              (λ j f apart e. get_other (gone ++ Some (out_fact x) ∷ Some next ∷ []) N j None (λ i. absurd (let low = slice_get_within s.facts j (Some f) e in omega arith)) ∙ stay_set s.facts k (Some (out_fact x) ∷ Some next ∷ []) j f apart e) refl
              (length_set (gone ++ Some (out_fact x) ∷ Some next ∷ []) N None ∙ (let one = length_join gone (Some (out_fact x) ∷ Some next ∷ []) in omega arith))
              (get_other (gone ++ Some (out_fact x) ∷ Some next ∷ []) N (N + 1) None (λ i. absurd (omega arith)) ∙ get_right gone (Some (out_fact x) ∷ Some next ∷ []) 1 (N + 1) (Some next) refl (omega arith));
          made = λ n i. elim (lk.made n i) [ MadeFor.a_process a e ↦ MadeFor.a_process a e | MadeFor.the_adversary a e ↦ MadeFor.the_adversary a e | MadeFor.a_lock_or_tag e l ↦ MadeFor.a_lock_or_tag e l ];
          entries = λ y i. elim (Contains-push_cases es x y i) [ inl old ↦ lk.entries y old | inr same ↦ subst W same (form_within g W (term_under env m) x [] heads fx) ];
          envs = envs_set (EnvWithin g W) agents t (Some (running (first_of path) env u)) lk.envs (only_env (EnvWithin g W) (first_of path) env u wide);
          stored = lk.stored;
        };
        marked = refl;
        short = omega arith;
        names = sym (append-nil (not_drawn drawn (numbers_below tables.next)));
      }

  pub outputs_on_here : (t j : ℕ) (path : List ℕ) (env : Env) (m n x y : Tree) (u : Proc) → slice_get agents t ≡ Some (Some (running path env (act (action.send m n) u))) → slice_get es j ≡ Some x → CanGive g c x → IsNormalForm (equations g) (term_under env m) x → IsNormalForm (equations g) (term_under env n) y
      → EvaluateWithin g W (term_under env m ∷ term_under env n ∷ [])
      → IsAnswered g W q drawn agents c tables s full (line.Send t j) (sends_out (becomes c t (Some (under env u))) y) (es ++ y ∷ []) (tr ++ shown (k_fact x ∷ [])) (marks_of [] (k_fact x ∷ []))
  outputs_on_here t j path env m n x y u is entry can fx fy heads =
      let body : Proc = act (action.send m n) u in
      let sits = seated laws g W p q hold ready small annotated drawn agents c es tr s full tables lk t path env body is in
      let k = sits.0 in
      let at = stands_at laws g W p q hold ready small annotated drawn agents c es tr s full tables lk t path env body is in
      let sound = place_sound laws g W p q hold ready small annotated path env body at in
      let opens = opens_at laws g W p q hold ready small annotated path env body at in
      let wide = lk.envs t (running path env body) is in
      let st = state_within laws g W p q hold ready small annotated env (names env) wide (λ w i. i) in
      let r : Rule = rules.out_adv_rule path (names env) m n in
      let none : open_variables g r ≡ [] = cc in
      let ev1 = subst (λ i. EvaluateWithin g W (i ∷ [])) (sym (laws.terms env m sound.0)) (first_within g W (term_under env m) (term_under env n ∷ []) heads) in
      let tail = rest_within g W (term_under env m) (term_under env n ∷ []) heads in
      let ev2 = subst (λ i. EvaluateWithin g W (i ∷ [])) (sym (laws.terms env n sound.1)) tail in
      let e' : slice_get s.known j ≡ Some x = ap (λ i. slice_get i j) lk.known ∙ entry in
      let ans = law laws g W p q hold ready small annotated drawn agents c es tr s full tables lk case.OutputsOn laws.outputs_on t k path env m n x y u sits.2 fx can fy (contains_got s.known x j e') in
      let N = length s.facts in
      let base : Pile = s.facts ++ Some (in_fact x) ∷ [] in
      let gone : Pile = slice_set (slice_set base k None) N None in
      let next : Fact = at_first path env in
      let z1 : RuleState = trades (gets s (in_fact x ∷ [])) (k ∷ N ∷ []) (out_fact y ∷ next ∷ []) in
      let d : Config = sends_out (becomes c t (Some (under env u))) y in
      let later : List (Option Agent) = goes_on agents t path env u in
      let long : length gone ≡ N + 1 = length_set (slice_set base k None) N None ∙ length_set base k None ∙ length_join s.facts (Some (in_fact x) ∷ []) in
      let there_is : slice_get z1.facts (N + 1) ≡ Some (Some (out_fact y)) = get_right gone (Some (out_fact y) ∷ Some next ∷ []) 0 (N + 1) (Some (out_fact y)) refl (omega arith) in
      let full1 : Trace = full ++ (k_fact x ∷ []) ∷ (input_fact x ∷ []) ∷ [] in
      let rest = learnt laws g p q hold ready small annotated later d (tr ++ shown (k_fact x ∷ [])) z1 full1 (N + 1) y ans.rest there_is in
      let z : RuleState = gains (leaves z1 (slice_set z1.facts (N + 1) None)) y in
      let l1 : AreLines W g (rules_of q) s (Know j ∷ RuleLine r.name (k ∷ tables.count ∷ []) [] ∷ []) ((k_fact x ∷ []) ∷ (input_fact x ∷ []) ∷ []) z1 = lines_of W g (rules_of q) s z1 (move.gives x ∷ move.uses r (k ∷ N ∷ []) (filled env) ∷ []) (Know j ∷ RuleLine r.name (k ∷ tables.count ∷ []) [] ∷ []) ((k_fact x ∷ []) ∷ (input_fact x ∷ []) ∷ []) (
        (λ a w h. given_line W g (rules_of q) (laws.named q) s w a j x e' h),
        (λ w. (
          (λ a v h. subst (λ i. IsLine g (rules_of q) W w (RuleLine r.name (k ∷ i ∷ []) []) a v) (sym lk.tabled.count)
              (used_line W g (rules_of q) (laws.named q) w v a r (k ∷ N ∷ []) (filled env) [] (record { vars = sym none; agrees = tt }) (rule_within g W (filled env) r (st, ((ev1, tt), tt)) ((ev1, tt), tt) ((ev2, tt), (st, tt))) h)),
          (λ v. tt),
        )),
      ) ans.rules in
      record {
        lines = Know j ∷ RuleLine r.name (k ∷ tables.count ∷ []) [] ∷ Learn (tables.count + 1) ∷ [];
        later = later;
        behind = moved tables t 2;
        state = z;
        more = (k_fact x ∷ []) ∷ (input_fact x ∷ []) ∷ [] ∷ [];
        written = IsWrittenAsRules.outputs_on t k j path env m n u sits.1;
        legal = lines_join l1 (one_line (learnt_line W g (rules_of q) z1 (N + 1) (tables.count + 1) y there_is (ap (λ i. i + 1) (sym lk.tabled.count))));
        linked = record {
          rest = subst (λ i. AtRest g q later d (tr ++ shown (k_fact x ∷ [])) z i) (append_assoc full ((k_fact x ∷ []) ∷ (input_fact x ∷ []) ∷ []) ([] ∷ [])) rest;
          known = ap (λ i. i ++ y ∷ []) lk.known;
          tabled = tables_move agents c.facts s.facts tables lk.tabled t k 2 (slice_set (gone ++ Some (out_fact y) ∷ Some next ∷ []) (N + 1) None) (running (first_of path) env u) next sits.1.number
              (λ i f apart e. get_other (gone ++ Some (out_fact y) ∷ Some next ∷ []) (N + 1) i None (λ o. absurd (let low = slice_get_within s.facts i (Some f) e in omega arith)) ∙ get_left gone (Some (out_fact y) ∷ Some next ∷ []) i (Some f)
              (get_other (slice_set base k None) N i None (λ o. absurd (let low = slice_get_within s.facts i (Some f) e in omega arith)) ∙ get_other base k i None apart ∙ get_left s.facts (Some (in_fact x) ∷ []) i (Some f) e)) refl
              (length_set (gone ++ Some (out_fact y) ∷ Some next ∷ []) (N + 1) None ∙ (let one = length_join gone (Some (out_fact y) ∷ Some next ∷ []) in omega arith))
              (get_other (gone ++ Some (out_fact y) ∷ Some next ∷ []) (N + 1) (N + 2) None (λ i. absurd (omega arith)) ∙ get_right gone (Some (out_fact y) ∷ Some next ∷ []) 1 (N + 2) (Some next) refl (omega arith));
          made = λ o i. elim (lk.made o i) [ MadeFor.a_process a e ↦ MadeFor.a_process a e | MadeFor.the_adversary a e ↦ MadeFor.the_adversary a e | MadeFor.a_lock_or_tag e l ↦ MadeFor.a_lock_or_tag e l ];
          entries = λ w i. elim (Contains-push_cases es y w i) [ inl old ↦ lk.entries w old | inr same ↦ subst W same (form_within g W (term_under env n) y [] tail fy) ];
          envs = envs_set (EnvWithin g W) agents t (Some (running (first_of path) env u)) lk.envs (only_env (EnvWithin g W) (first_of path) env u wide);
          stored = lk.stored;
        };
        marked = refl;
        short = omega arith;
        names = sym (append-nil (not_drawn drawn (numbers_below tables.next)));
      }

  pub knows_here : (j : ℕ) (x : Tree) → slice_get es j ≡ Some x → CanGive g c x → IsAnswered g W q drawn agents c tables s full (line.Know j) c es (tr ++ shown (k_fact x ∷ [])) (marks_of [] (k_fact x ∷ []))
  knows_here j x entry can =
      let e' : slice_get s.known j ≡ Some x = ap (λ i. slice_get i j) lk.known ∙ entry in
      let ans = law laws g W p q hold ready small annotated drawn agents c es tr s full tables lk case.Knows laws.knows x can (contains_got s.known x j e') in
      let z : RuleState = gets s (in_fact x ∷ []) in
      record {
        lines = Know j ∷ [];
        later = agents;
        behind = with_facts tables 1;
        state = z;
        more = (k_fact x ∷ []) ∷ [];
        written = IsWrittenAsRules.knows j;
        legal = lines_of W g (rules_of q) s z (move.gives x ∷ []) (Know j ∷ []) ((k_fact x ∷ []) ∷ []) ((λ a w h. given_line W g (rules_of q) (laws.named q) s w a j x e' h), (λ w. tt)) ans.rules;
        linked = record {
          rest = ans.rest;
          known = lk.known;
          tabled = tables_stay agents c.facts s.facts tables lk.tabled 1 (s.facts ++ Some (in_fact x) ∷ []) (λ i f e. get_left s.facts (Some (in_fact x) ∷ []) i (Some f) e) (length_join s.facts (Some (in_fact x) ∷ []));
          made = lk.made;
          entries = lk.entries;
          envs = lk.envs;
          stored = lk.stored;
        };
        marked = refl;
        short = omega arith;
        names = sym (append-nil (not_drawn drawn (numbers_below tables.next)));
      }
