-- Lines that end, split and copy threads.
use Rattle.std.proofs.Common.{◌≡◌, ℕ, ◌+◌, ◌<◌, ◌^◌, List, [], ◌∷◌, ◌++◌, Option, Some, None, refl, sym, ap, ◌∙◌, subst, arith, slice_get, slice_set, length, append-nil, append_assoc}
use Rattle.sap_terms.specs.Signature.{Sig, HoldsBuiltins}
use Rattle.sap_terms.specs.Trace.{Trace, shown}
use Rattle.sap_terms.specs.Tree.{Tree}
use Rattle.sap_terms.specs.declared.fact.Fact.{Fact}
use Rattle.sap_process.specs.Configuration.{Config, becomes, spawns}
use Rattle.sap_process.specs.Proc as whole
use Rattle.sap_process.specs.Proc.{Proc, node_count}
use Rattle.sap_process.specs.Ready.{IsReady}
use Rattle.sap_locks.specs.Annotation.{IsAnnotation}
use Rattle.sap_place.specs.StateFacts.{copies_fact}
use Rattle.sap_rule.specs.RuleSteps.{RuleState}
use Rattle.sap_rule.specs.Variables.{open_variables}
use Rattle.sap_rule.specs.declared.rule.Rule.{Rule}
use Rattle.sap_runs.specs.Marks.{marks_of}
use Rattle.sap_runs.specs.declared.process_step.PStep.TheVariants as line
use Rattle.sap_runs.specs.declared.rule_step.RStep.TheVariants.{Rule as RuleLine}
use Rattle.sap_steps.specs.Lines.{IsLine}
use Rattle.sap_templates.specs.Templates as rules
use Rattle.sap_templates.specs.Templates.{rules_of, first_of, second_of}
use Rattle.sap_translate.specs.relation.Agents.{Agent, running, copying, env_of, IsAt}
use Rattle.sap_translate.specs.relation.Answers.{under, trades, gets, goes_on, at_first, at_second}
use Rattle.sap_translate.specs.relation.Answered as case
use Rattle.sap_translate.specs.relation.Envs.{Env, names, values, filled}
use Rattle.sap_translate.specs.relation.RuleMoves as move
use Rattle.sap_forward.specs.Answered.{IsAnswered}
use Rattle.sap_rule_lines.specs.Least.{not_drawn, numbers_below}
use Rattle.sap_forward.specs.Linked.{Linked, EnvWithin, MadeFor}
use Rattle.sap_forward.specs.Tables.{RuleTables, AreRuleTables}
use Rattle.sap_forward.specs.Written.{IsWrittenAsRules, moved, with_thread_fact}
use Rattle.sap_forward.proofs.Evaluated.{rule_within}
use Rattle.sap_forward.proofs.Lines.{lines_of, used_line}
use Rattle.sap_forward.proofs.Premises.{Laws}
use Rattle.sap_forward.proofs.Tabled.{length_set, length_join, get_right, seat, tables_move, tables_end, tables_come}
use Rattle.sap_forward.proofs.Advance.{envs_set, envs_push, only_env, stay_set, opens_at, state_within, law, stands_at, seated}

module _ (laws : Laws) (g : Sig) (W : Tree → Type 0) (p q : Proc) (hold : HoldsBuiltins g) (ready : IsReady g p) (small : node_count p < 2 ^ 64) (annotated : IsAnnotation p q) (drawn : List ℕ) (agents : List (Option Agent)) (c : Config) (es : List Tree) (tr : Trace) (s : RuleState) (full : Trace) (tables : RuleTables) (lk : Linked g W q drawn tables agents c es tr s full) where
  pub ends_here : (t : ℕ) (path : List ℕ) (env : Env) → slice_get agents t ≡ Some (Some (running path env whole.nil)) → IsAnswered g W q drawn agents c tables s full (line.Nil t) (becomes c t None) es (tr ++ shown []) (marks_of [] [])
  ends_here t path env is =
      let sits = seated laws g W p q hold ready small annotated drawn agents c es tr s full tables lk t path env whole.nil is in
      let k = sits.0 in
      let at = stands_at laws g W p q hold ready small annotated drawn agents c es tr s full tables lk t path env whole.nil is in
      let opens = opens_at laws g W p q hold ready small annotated path env whole.nil at in
      let st = state_within laws g W p q hold ready small annotated env (names env) (lk.envs t (running path env whole.nil) is) (λ x m. m) in
      let r : Rule = rules.nil_rule path (names env) in
      let none : open_variables g r ≡ [] = cc in
      let ans = law laws g W p q hold ready small annotated drawn agents c es tr s full tables lk case.Ends laws.ends t k path env sits.2 in
      record {
        lines = RuleLine r.name (k ∷ []) [] ∷ [];
        later = slice_set agents t None;
        behind = tables;
        state = trades s (k ∷ []) [];
        more = [] ∷ [];
        written = IsWrittenAsRules.ends t k path env sits.1;
        legal = lines_of W g (rules_of q) s (trades s (k ∷ []) []) (move.uses r (k ∷ []) (filled env) ∷ []) (RuleLine r.name (k ∷ []) [] ∷ []) ([] ∷ [])
            ((λ a z h. used_line W g (rules_of q) (laws.named q) s z a r (k ∷ []) (filled env) [] (record { vars = sym none; agrees = tt }) (rule_within g W (filled env) r (st, tt) tt tt) h), (λ y. tt)) ans.rules;
        linked = record {
          rest = ans.rest;
          known = lk.known;
          tabled = tables_end agents c.facts s.facts tables lk.tabled t k (slice_set s.facts k None ++ []) sits.1.number (stay_set s.facts k []) (ap length (append-nil (slice_set s.facts k None)) ∙ length_set s.facts k None);
          made = λ n m. elim (lk.made n m) [ MadeFor.a_process a e ↦ MadeFor.a_process a e | MadeFor.the_adversary a e ↦ MadeFor.the_adversary a e | MadeFor.a_lock_or_tag e l ↦ MadeFor.a_lock_or_tag e l ];
          entries = lk.entries;
          envs = envs_set (EnvWithin g W) agents t None lk.envs (λ a e. absurd (cc));
          stored = lk.stored;
        };
        marked = refl;
        short = omega arith;
        names = sym (append-nil (not_drawn drawn (numbers_below tables.next)));
      }

  pub splits_here : (t : ℕ) (path : List ℕ) (env : Env) (u v : Proc) → slice_get agents t ≡ Some (Some (running path env (whole.parallel u v)))
      → IsAnswered g W q drawn agents c tables s full (line.Par t) (spawns (becomes c t (Some (under env u))) (under env v)) es (tr ++ shown []) (marks_of [] [])
  splits_here t path env u v is =
      let body : Proc = whole.parallel u v in
      let sits = seated laws g W p q hold ready small annotated drawn agents c es tr s full tables lk t path env body is in
      let k = sits.0 in
      let at = stands_at laws g W p q hold ready small annotated drawn agents c es tr s full tables lk t path env body is in
      let opens = opens_at laws g W p q hold ready small annotated path env body at in
      let wide = lk.envs t (running path env body) is in
      let st = state_within laws g W p q hold ready small annotated env (names env) wide (λ x m. m) in
      let r : Rule = rules.parallel_rule path (names env) in
      let none : open_variables g r ≡ [] = cc in
      let ans = law laws g W p q hold ready small annotated drawn agents c es tr s full tables lk case.Splits laws.splits t k path env u v sits.2 in
      let gone = slice_set s.facts k None in
      let one' : Fact = at_first path env in
      let two' : Fact = at_second path env in
      let first' : AreRuleTables (goes_on agents t path env u) c.facts (gone ++ Some one' ∷ []) (moved tables t 0) = tables_move agents c.facts s.facts tables lk.tabled t k 0 (gone ++ Some one' ∷ []) (running (first_of path) env u) one' sits.1.number (stay_set s.facts k (Some one' ∷ [])) refl
      (let one = length_join gone (Some one' ∷ []) in let two = length_set s.facts k None in omega arith) (get_right gone (Some one' ∷ []) 0 (length s.facts + 0) (Some one') refl (let two = length_set s.facts k None in omega arith)) in
      let z : RuleState = trades s (k ∷ []) (one' ∷ two' ∷ []) in
      record {
        lines = RuleLine r.name (k ∷ []) [] ∷ [];
        later = goes_on agents t path env u ++ Some (running (second_of path) env v) ∷ [];
        behind = with_thread_fact (moved tables t 0);
        state = z;
        more = [] ∷ [];
        written = IsWrittenAsRules.splits t k path env u v sits.1;
        legal = lines_of W g (rules_of q) s z (move.uses r (k ∷ []) (filled env) ∷ []) (RuleLine r.name (k ∷ []) [] ∷ []) ([] ∷ [])
            ((λ a y h. used_line W g (rules_of q) (laws.named q) s y a r (k ∷ []) (filled env) [] (record { vars = sym none; agrees = tt }) (rule_within g W (filled env) r (st, tt) tt (st, (st, tt))) h), (λ y. tt)) ans.rules;
        linked = record {
          rest = ans.rest;
          known = lk.known;
          tabled = subst (λ x. AreRuleTables (goes_on agents t path env u ++ Some (running (second_of path) env v) ∷ []) c.facts x (with_thread_fact (moved tables t 0))) (append_assoc gone (Some one' ∷ []) (Some two' ∷ []))
              (tables_come (goes_on agents t path env u) c.facts (gone ++ Some one' ∷ []) (moved tables t 0) first' (running (second_of path) env v) two' refl);
          made = λ n m. elim (lk.made n m) [ MadeFor.a_process a e ↦ MadeFor.a_process a e | MadeFor.the_adversary a e ↦ MadeFor.the_adversary a e | MadeFor.a_lock_or_tag e l ↦ MadeFor.a_lock_or_tag e l ];
          entries = lk.entries;
          envs = envs_push (EnvWithin g W) (goes_on agents t path env u) (running (second_of path) env v) (envs_set (EnvWithin g W) agents t (Some (running (first_of path) env u)) lk.envs (only_env (EnvWithin g W) (first_of path) env u wide)) wide;
          stored = lk.stored;
        };
        marked = refl;
        short = omega arith;
        names = sym (append-nil (not_drawn drawn (numbers_below tables.next)));
      }

  pub copies_first_here : (t : ℕ) (path : List ℕ) (env : Env) (u : Proc) → slice_get agents t ≡ Some (Some (running path env (whole.replicated u)))
      → IsAnswered g W q drawn agents c tables s full (line.Rep t) (spawns c (under env u)) es (tr ++ shown []) (marks_of [] [])
  copies_first_here t path env u is =
      let body : Proc = whole.replicated u in
      let sits = seated laws g W p q hold ready small annotated drawn agents c es tr s full tables lk t path env body is in
      let k = sits.0 in
      let at = stands_at laws g W p q hold ready small annotated drawn agents c es tr s full tables lk t path env body is in
      let opens = opens_at laws g W p q hold ready small annotated path env body at in
      let wide = lk.envs t (running path env body) is in
      let st = state_within laws g W p q hold ready small annotated env (names env) wide (λ x m. m) in
      let r : Rule = rules.rep_start_rule path (names env) in
      let r2 : Rule = rules.rep_copy_rule path (names env) in
      let none : open_variables g r ≡ [] = cc in
      let none2 : open_variables g r2 ≡ [] = cc in
      let ans = law laws g W p q hold ready small annotated drawn agents c es tr s full tables lk case.CopiesFirst laws.copies_first t k path env u sits.2 in
      let gone = slice_set s.facts k None in
      let one' : Fact = copies_fact path (values env) in
      let two' : Fact = at_first path env in
      let mid : List (Option Agent) = slice_set agents t (Some (copying path env u)) in
      let first' : AreRuleTables mid c.facts (gone ++ Some one' ∷ []) (moved tables t 0) = tables_move agents c.facts s.facts tables lk.tabled t k 0 (gone ++ Some one' ∷ []) (copying path env u) one' sits.1.number (stay_set s.facts k (Some one' ∷ [])) refl
      (let one = length_join gone (Some one' ∷ []) in let two = length_set s.facts k None in omega arith) (get_right gone (Some one' ∷ []) 0 (length s.facts + 0) (Some one') refl (let two = length_set s.facts k None in omega arith)) in
      let z : RuleState = gets (trades s (k ∷ []) (one' ∷ [])) (two' ∷ []) in
      record {
        lines = RuleLine r.name (k ∷ []) [] ∷ RuleLine r2.name (tables.count ∷ []) [] ∷ [];
        later = mid ++ Some (running (first_of path) env u) ∷ [];
        behind = with_thread_fact (moved tables t 0);
        state = z;
        more = [] ∷ [] ∷ [];
        written = IsWrittenAsRules.copies_first t k path env u sits.1;
        legal = lines_of W g (rules_of q) s z (move.uses r (k ∷ []) (filled env) ∷ move.uses r2 (length s.facts ∷ []) (filled env) ∷ []) (RuleLine r.name (k ∷ []) [] ∷ RuleLine r2.name (tables.count ∷ []) [] ∷ []) ([] ∷ [] ∷ []) (
          (λ a y h. used_line W g (rules_of q) (laws.named q) s y a r (k ∷ []) (filled env) [] (record { vars = sym none; agrees = tt }) (rule_within g W (filled env) r (st, tt) tt (st, tt)) h),
          (λ y. ((λ a x h. subst (λ n. IsLine g (rules_of q) W y (RuleLine r2.name (n ∷ []) []) a x) (sym lk.tabled.count) (used_line W g (rules_of q) (laws.named q) y x a r2 (length s.facts ∷ []) (filled env) [] (record { vars = sym none2; agrees = tt }) (rule_within g W (filled env) r2 (st, tt) tt (st, tt)) h)), (λ x. tt))),
        ) ans.rules;
        linked = record {
          rest = ans.rest;
          known = lk.known;
          tabled = tables_come mid c.facts (gone ++ Some one' ∷ []) (moved tables t 0) first' (running (first_of path) env u) two' refl;
          made = λ n m. elim (lk.made n m) [ MadeFor.a_process a e ↦ MadeFor.a_process a e | MadeFor.the_adversary a e ↦ MadeFor.the_adversary a e | MadeFor.a_lock_or_tag e l ↦ MadeFor.a_lock_or_tag e l ];
          entries = lk.entries;
          envs = envs_push (EnvWithin g W) mid (running (first_of path) env u) (envs_set (EnvWithin g W) agents t (Some (copying path env u)) lk.envs (λ a e. let same : copying path env u ≡ a = cc in subst (λ x. EnvWithin g W (env_of x)) same wide)) wide;
          stored = lk.stored;
        };
        marked = refl;
        short = omega arith;
        names = sym (append-nil (not_drawn drawn (numbers_below tables.next)));
      }

  pub copies_more_here : (t : ℕ) (path : List ℕ) (env : Env) (u : Proc) → slice_get agents t ≡ Some (Some (copying path env u))
      → IsAnswered g W q drawn agents c tables s full (line.Rep t) (spawns c (under env u)) es (tr ++ shown []) (marks_of [] [])
  copies_more_here t path env u is =
      let body : Proc = whole.replicated u in
      let n = seat agents c.facts s.facts tables lk.tabled t (copying path env u) (copies_fact path (values env)) is refl in
      let k = n.0 in
      let at : IsAt g q path env body = lk.rest.related.placed t (copying path env u) is in
      let opens = opens_at laws g W p q hold ready small annotated path env body at in
      let wide = lk.envs t (copying path env u) is in
      let st = state_within laws g W p q hold ready small annotated env (names env) wide (λ x m. m) in
      let r2 : Rule = rules.rep_copy_rule path (names env) in
      let none2 : open_variables g r2 ≡ [] = cc in
      let ans = law laws g W p q hold ready small annotated drawn agents c es tr s full tables lk case.CopiesMore laws.copies_more t k path env u (record { thread = is; fact = n.2 }) in
      let two' : Fact = at_first path env in
      let z : RuleState = gets s (two' ∷ []) in
      record {
        lines = RuleLine r2.name (k ∷ []) [] ∷ [];
        later = agents ++ Some (running (first_of path) env u) ∷ [];
        behind = with_thread_fact tables;
        state = z;
        more = [] ∷ [];
        written = IsWrittenAsRules.copies_more t k path env u (record { thread = is; number = n.1 });
        legal = lines_of W g (rules_of q) s z (move.uses r2 (k ∷ []) (filled env) ∷ []) (RuleLine r2.name (k ∷ []) [] ∷ []) ([] ∷ [])
            ((λ a y h. used_line W g (rules_of q) (laws.named q) s y a r2 (k ∷ []) (filled env) [] (record { vars = sym none2; agrees = tt }) (rule_within g W (filled env) r2 (st, tt) tt (st, tt)) h), (λ y. tt)) ans.rules;
        linked = record {
          rest = ans.rest;
          known = lk.known;
          tabled = tables_come agents c.facts s.facts tables lk.tabled (running (first_of path) env u) two' refl;
          made = λ n m. elim (lk.made n m) [ MadeFor.a_process a e ↦ MadeFor.a_process a e | MadeFor.the_adversary a e ↦ MadeFor.the_adversary a e | MadeFor.a_lock_or_tag e l ↦ MadeFor.a_lock_or_tag e l ];
          entries = lk.entries;
          envs = envs_push (EnvWithin g W) agents (running (first_of path) env u) lk.envs wide;
          stored = lk.stored;
        };
        marked = refl;
        short = omega arith;
        names = sym (append-nil (not_drawn drawn (numbers_below tables.next)));
      }
