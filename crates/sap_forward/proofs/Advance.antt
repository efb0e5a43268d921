-- How a line of the process is answered: what all cases share.
use Rattle.std.proofs.Common.{◌≡◌, ℕ, suc, ◌+◌, ◌<◌, ◌^◌, List, [], ◌∷◌, ◌++◌, Option, Some, None, refl, sym, ap, ◌∙◌, subst, arith, slice_get, slice_set, length, map, append-nil}
use Rattle.std.specs.Prelude.{Contains}
use Rattle.std.proofs.lemmas.Option.{slice_get_within}
use Rattle.sap_terms.specs.Choice.{Choice}
use Rattle.sap_terms.specs.Equations.{equations}
use Rattle.sap_terms.specs.Normal.{IsNormal}
use Rattle.sap_terms.specs.Piles.{Pile, adds}
use Rattle.sap_terms.specs.Signature.{Sig, HoldsBuiltins}
use Rattle.sap_terms.specs.Trace.{Trace, shown}
use Rattle.sap_terms.specs.Tree.{Tree, variable, fresh, public}
use Rattle.sap_terms.specs.declared.binding.Binding.{Binding}
use Rattle.sap_terms.specs.declared.fact.Fact.{Fact}
use Rattle.sap_terms.specs.declared.var.Var.{Var}
use Rattle.sap_process.specs.Configuration.{Config}
use Rattle.sap_process.specs.Proc.{Proc, node_count}
use Rattle.sap_process.specs.Ready.{IsReady}
use Rattle.sap_locks.specs.Annotation.{IsAnnotation}
use Rattle.sap_place.specs.StateFacts.{state_fact}
use Rattle.sap_rule.specs.RuleSteps.{RuleState}
use Rattle.sap_rule.specs.Variables.{open_variables}
use Rattle.sap_rule.specs.declared.rule.Rule.{Rule}
use Rattle.sap_runs.specs.Marks.{Mark}
use Rattle.sap_runs.specs.declared.process_step.PStep.{PStep}
use Rattle.sap_runs.specs.declared.rule_step.RStep.{RStep}
use Rattle.sap_runs.specs.declared.rule_step.RStep.TheVariants.{Rule as RuleLine}
use Rattle.sap_lines.specs.Lines.{EvaluateWithin}
use Rattle.sap_steps.specs.Lines.{IsLine, Binds, IsEvaluated}
use Rattle.sap_steps.specs.Marks.{marks}
use Rattle.sap_translate.specs.Members.{Member}
use Rattle.sap_translate.specs.Opened.{opened}
use Rattle.sap_translate.specs.Sound.{SoundAt}
use Rattle.sap_templates.specs.Templates.{rules_of, own_rules}
use Rattle.sap_translate.specs.relation.Agents.{Agent, running, env_of, IsAt}
use Rattle.sap_translate.specs.relation.Answers.{Answers, StandsBefore, trades}
use Rattle.sap_translate.specs.relation.Answered.{Case, WhereAtRest}
use Rattle.sap_translate.specs.relation.Envs.{Env, names, values, filled}
use Rattle.sap_translate.specs.relation.ProcessMoves.{ProcessMove}
use Rattle.sap_translate.specs.relation.RuleMoves as move
use Rattle.sap_translate.specs.relation.RuleMoves.{RuleMove}
use Rattle.sap_forward.specs.Answered.{IsAnswered}
use Rattle.sap_rule_lines.specs.Least.{names_made, not_drawn, numbers_below}
use Rattle.sap_forward.specs.Linked.{Linked, EnvWithin, MadeFor}
use Rattle.sap_forward.specs.Tables.{RuleTables, AreRuleTables}
use Rattle.sap_forward.specs.Written.{IsWrittenAsRules, Seated, moved}
use Rattle.sap_forward.proofs.Evaluated.{Evaluates, vars_within}
use Rattle.sap_forward.proofs.Given.{made_join}
use Rattle.sap_forward.proofs.Lines.{lines_of, used_line, Writes}
use Rattle.sap_forward.proofs.Premises.{Laws}
use Rattle.sap_forward.proofs.Tabled.{Stay, spot_of, here, there, pushed_of, last, before, length_set, length_join, get_left, get_right, get_other, seat, tables_move}

pub contains : {A : Type 0} {x : A} {xs : List A} → Member x xs → Contains xs x
contains {x = x} Member.here = (0, omega arith, refl)
contains {x = x} (Member.later m) = let h = contains m in (suc h.0, omega arith, h.2)

-- names are within the limit, and with a normal term its parts
pub record IsLimit (g : Sig) (W : Tree → Type 0) : Type 0 where
  pub names : (n : ℕ) → W (fresh n)
  pub publics : (a : List ℕ) → W (public a)
  pub parts : (t : Tree) → IsNormal (equations g) t → W t → EvaluateWithin g W (t ∷ [])

-- each thread's terms stay within the limit where one thread is set
pub envs_set : (P : Env → Type 0) (agents : List (Option Agent)) (t : ℕ) (o : Option Agent) → ((i : ℕ) (a : Agent) → slice_get agents i ≡ Some (Some a) → P (env_of a)) → ((a : Agent) → o ≡ Some a → P (env_of a)) → (i : ℕ) (a : Agent) → slice_get (slice_set agents t o) i ≡ Some (Some a) → P (env_of a)
envs_set P agents t o h k i a e = elim (spot_of agents t o i (Some a) e) [ here same is ↦ k a (sym is) | there apart is ↦ h i a is ]

-- or one comes
pub envs_push : (P : Env → Type 0) (agents : List (Option Agent)) (b : Agent) → ((i : ℕ) (a : Agent) → slice_get agents i ≡ Some (Some a) → P (env_of a)) → P (env_of b) → (i : ℕ) (a : Agent) → slice_get (agents ++ Some b ∷ []) i ≡ Some (Some a) → P (env_of a)
envs_push P agents b h k i a e = elim (pushed_of agents (Some b) i (Some a) e) [ last same is ↦ (let s : a ≡ b = cc in subst (λ x. P (env_of x)) (sym s) k) | before is ↦ h i a is ]

pub only_env : (P : Env → Type 0) (path : List ℕ) (env : Env) (b : Proc) → P env → (a : Agent) → Some (running path env b) ≡ Some a → P (env_of a)
only_env P path env b h a e = let same : running path env b ≡ a = cc in subst (λ x. P (env_of x)) same h

-- the first fact of a state where fact k is gone and this has come
pub stay_set : (facts : Pile) (k : ℕ) (more : Pile) → Stay facts k (slice_set facts k None ++ more)
stay_set facts k more j f apart e = get_left (slice_set facts k None) more j (Some f) (get_other facts k j None apart ∙ e)

module _ (laws : Laws) (g : Sig) (W : Tree → Type 0) (p q : Proc) (hold : HoldsBuiltins g) (ready : IsReady g p) (small : node_count p < 2 ^ 64) (annotated : IsAnnotation p q) where
  pub place_sound : (path : List ℕ) (env : Env) (b : Proc) → IsAt g q path env b → SoundAt g (names env) b
  place_sound path env b at = (laws.sound g p q ready small annotated).0 path (Rattle.sap_process.specs.Places.place path (names env) b) at.0

  pub opens_at : (path : List ℕ) (env : Env) (b : Proc) → IsAt g q path env b → map (open_variables g) (own_rules path (names env) b) ≡ opened (names env) b
  opens_at path env b at = laws.places g p q path (names env) b ready small annotated (laws.ready g p q ready annotated).well_formed at.0

  -- the variables of a state fact
  pub state_within : (env : Env) (v : List Var) → EnvWithin g W env → ((x : Var) → Member x v → Member x (names env)) → Evaluates g W (filled env) (map variable v)
  state_within env v h inside = vars_within g W (filled env) v (λ x m. subst (λ t. EvaluateWithin g W (t ∷ [])) (sym (laws.variables env x (contains (inside x m)))) (h x (inside x m)))

  module _ (drawn : List ℕ) (agents : List (Option Agent)) (c : Config) (es : List Tree) (tr : Trace) (s : RuleState) (full : Trace) (tables : RuleTables) (lk : Linked g W q drawn tables agents c es tr s full) where
    -- a law, here
    pub law : (P : Case) → WhereAtRest P → P g q agents c tr s full
    law P h = h g p q hold ready small annotated agents c tr s full lk.rest

    pub stands_at : (t : ℕ) (path : List ℕ) (env : Env) (b : Proc) → slice_get agents t ≡ Some (Some (running path env b)) → IsAt g q path env b
    stands_at t path env b is = lk.rest.related.placed t (running path env b) is

    -- the seat of a thread
    pub seated : (t : ℕ) (path : List ℕ) (env : Env) (b : Proc) → slice_get agents t ≡ Some (Some (running path env b)) → (k : ℕ) × Seated agents tables t k path env b × StandsBefore agents s t k path env b
    seated t path env b is =
        let n = seat agents c.facts s.facts tables lk.tabled t (running path env b) (state_fact path (values env)) is refl in
        (n.0, record { thread = is; number = n.1 }, record { thread = is; fact = n.2 })

    -- one thread goes on by a rule that takes its state fact alone and adds the next
    pub plain : (t k : ℕ) (path : List ℕ) (env : Env) (body : Proc) → Seated agents tables t k path env body → (at : List ℕ) (other : Env) (after : Proc) → EnvWithin g W other
        → (step : PStep) (mv : ProcessMove) (label : List Fact) (d : Config) (r : Rule) (σ : Choice) (b : List Binding) (acts : List Fact) (ms : List Mark)
        → let later : List (Option Agent) = slice_set agents t (Some (running at other after)) in
        Answers g q c tr s full mv label d (move.uses r (k ∷ []) σ ∷ []) (acts ∷ []) (trades s (k ∷ []) (state_fact at (values other) ∷ [])) later
        → Binds g r b σ → ((n : Tree) → IsEvaluated g r σ n → W n) → d.facts ≡ c.facts → d.made ≡ c.made → d.own ≡ c.own → ((x v : Tree) → d.store x ≡ Some v → W v) → marks (acts ∷ []) ≡ ms
        → IsWrittenAsRules g drawn agents c tables step (RuleLine r.name (k ∷ []) b ∷ []) later (moved tables t 0)
        → IsAnswered g W q drawn agents c tables s full step d es (tr ++ shown label) ms
    plain t k path env body sits at other after wide step mv label d r σ b acts ms ans binds within facts made own stored marked written = record {
      lines = RuleLine r.name (k ∷ []) b ∷ [];
      later = slice_set agents t (Some (running at other after));
      behind = moved tables t 0;
      state = trades s (k ∷ []) (next ∷ []);
      more = acts ∷ [];
      written = written;
      legal = lines_of W g (rules_of q) s (trades s (k ∷ []) (next ∷ [])) (move.uses r (k ∷ []) σ ∷ []) (RuleLine r.name (k ∷ []) b ∷ []) (acts ∷ []) ((λ a z h. used_line W g (rules_of q) (laws.named q) s z a r (k ∷ []) σ b binds within h), (λ y. tt)) ans.rules;
      linked = record {
        rest = ans.rest;
        known = lk.known;
        tabled = subst (λ x. AreRuleTables (slice_set agents t (Some (running at other after))) x (adds (slice_set s.facts k None) (next ∷ [])) (moved tables t 0)) (sym facts)
            (tables_move agents c.facts s.facts tables lk.tabled t k 0 (adds (slice_set s.facts k None) (next ∷ [])) (running at other after) next sits.number (stay_set s.facts k (Some next ∷ [])) refl
            (let one = length_join (slice_set s.facts k None) (Some next ∷ []) in let two = length_set s.facts k None in omega arith)
            (get_right (slice_set s.facts k None) (Some next ∷ []) 0 (length s.facts + 0) (Some next) refl (let two = length_set s.facts k None in omega arith)));
        made = λ n m. moved_made n (lk.made n m);
        entries = lk.entries;
        envs = envs_set (EnvWithin g W) agents t (Some (running at other after)) lk.envs (only_env (EnvWithin g W) at other after wide);
        stored = stored;
      };
      marked = marked;
      short = omega arith;
      names = sym (append-nil (not_drawn drawn (numbers_below tables.next)));
    }
      where
        next : Fact
        next = state_fact at (values other)

        moved_made : (n : ℕ) → MadeFor drawn tables.next c n → MadeFor drawn tables.next d n
        moved_made n (MadeFor.a_process m e) = MadeFor.a_process (subst (λ x. Contains x n) (sym made) m) e
        moved_made n (MadeFor.the_adversary m e) = MadeFor.the_adversary (subst (λ x. Contains x n) (sym own) m) e
        moved_made n (MadeFor.a_lock_or_tag e l) = MadeFor.a_lock_or_tag e l

    -- a line with Fr or In before it
    pub twofold : (t k : ℕ) (path : List ℕ) (env : Env) (body : Proc) → Seated agents tables t k path env body → (at : List ℕ) (other : Env) (after : Proc) → EnvWithin g W other
        → (step : PStep) (mv : ProcessMove) (label : List Fact) (d : Config) (first : RuleMove) (line : RStep) (shown_first : List Fact) (h : Fact) (r : Rule) (σ : Choice) (acts : List Fact) (ms : List Mark) (z : RuleState) (next : ℕ)
        → let later : List (Option Agent) = slice_set agents t (Some (running at other after)) in
        let behind : RuleTables = record (moved tables t 1) { next = next } in
        Answers g q c tr s full mv label d (first ∷ move.uses r (k ∷ length s.facts ∷ []) σ ∷ []) (shown_first ∷ acts ∷ []) z later
        → z.facts ≡ slice_set (slice_set (s.facts ++ Some h ∷ []) k None) (length s.facts) None ++ Some (state_fact at (values other)) ∷ [] → z.known ≡ es → ((n : ℕ) → Contains z.made n → MadeFor drawn next d n)
        → Writes W g (rules_of q) s first line → open_variables g r ≡ [] → ((n : Tree) → IsEvaluated g r σ n → W n) → d.facts ≡ c.facts → ((x v : Tree) → d.store x ≡ Some v → W v) → marks (shown_first ∷ acts ∷ []) ≡ ms
        → not_drawn drawn (numbers_below next) ≡ not_drawn drawn (numbers_below tables.next) ++ not_drawn drawn (names_made (line ∷ []))
        → IsWrittenAsRules g drawn agents c tables step (line ∷ RuleLine r.name (k ∷ tables.count ∷ []) [] ∷ []) later behind
        → IsAnswered g W q drawn agents c tables s full step d es (tr ++ shown label) ms
    twofold t k path env body sits at other after wide step mv label d first line shown_first h r σ acts ms z next ans facts_are known made writes none within pile stored marked names written = record {
      lines = line ∷ RuleLine r.name (k ∷ tables.count ∷ []) [] ∷ [];
      later = slice_set agents t (Some (running at other after));
      behind = record (moved tables t 1) { next = next };
      state = z;
      more = shown_first ∷ acts ∷ [];
      written = written;
      legal = lines_of W g (rules_of q) s z (first ∷ move.uses r (k ∷ length s.facts ∷ []) σ ∷ []) (line ∷ RuleLine r.name (k ∷ tables.count ∷ []) [] ∷ []) (shown_first ∷ acts ∷ [])
          (writes, (λ y. ((λ a x i. subst (λ n. IsLine g (rules_of q) W y (RuleLine r.name (k ∷ n ∷ []) []) a x) (sym lk.tabled.count) (used_line W g (rules_of q) (laws.named q) y x a r (k ∷ length s.facts ∷ []) σ [] (record { vars = sym none; agrees = tt }) within i)), (λ x. tt)))) ans.rules;
      linked = record {
        rest = ans.rest;
        known = known;
        tabled = subst (λ x. AreRuleTables (slice_set agents t (Some (running at other after))) x z.facts (record (moved tables t 1) { next = next })) (sym pile)
            (subst (λ x. AreRuleTables (slice_set agents t (Some (running at other after))) c.facts x (record (moved tables t 1) { next = next })) (sym facts_are) (renamed
            (tables_move agents c.facts s.facts tables lk.tabled t k 1 (two_gone ++ Some there_is ∷ []) (running at other after) there_is sits.number stays refl
            (let one = length_join two_gone (Some there_is ∷ []) in let two = gone_length in omega arith)
            (get_right two_gone (Some there_is ∷ []) 0 (length s.facts + 1) (Some there_is) refl (let two = gone_length in omega arith)))));
        made = made;
        entries = lk.entries;
        envs = envs_set (EnvWithin g W) agents t (Some (running at other after)) lk.envs (only_env (EnvWithin g W) at other after wide);
        stored = stored;
      };
      marked = marked;
      short = omega arith;
      names = names ∙ ap (λ x. not_drawn drawn (numbers_below tables.next) ++ not_drawn drawn x) (made_join (line ∷ []) (RuleLine r.name (k ∷ tables.count ∷ []) [] ∷ []) ∙ append-nil (names_made (line ∷ [])));
    }
      where
        there_is : Fact
        there_is = state_fact at (values other)

        two_gone : Pile
        two_gone = slice_set (slice_set (s.facts ++ Some h ∷ []) k None) (length s.facts) None

        gone_length : length two_gone ≡ length s.facts + 1
        gone_length = length_set (slice_set (s.facts ++ Some h ∷ []) k None) (length s.facts) None ∙ length_set (s.facts ++ Some h ∷ []) k None ∙ length_join s.facts (Some h ∷ [])

        stays : Stay s.facts k (two_gone ++ Some there_is ∷ [])
        stays j f apart e = get_left two_gone (Some there_is ∷ []) j (Some f) (get_other (slice_set (s.facts ++ Some h ∷ []) k None) (length s.facts) j None (λ i. absurd (let low = slice_get_within s.facts j (Some f) e in omega arith)) ∙ get_other (s.facts ++ Some h ∷ []) k j None apart ∙ get_left s.facts (Some h ∷ []) j (Some f) e)

        renamed : {later : List (Option Agent)} {x : Pile} → AreRuleTables later c.facts x (moved tables t 1) → AreRuleTables later c.facts x (record (moved tables t 1) { next = next })
        renamed a = record { threads = a.threads; facts = a.facts; apart = a.apart; count = a.count }
