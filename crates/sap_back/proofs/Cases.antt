-- A line of rules for each rule that takes a state fact alone: how lines of the process go along with it.
use Rattle.std.proofs.Common.{◌≡◌, ℕ, ◌<◌, ◌^◌, List, [], ◌∷◌, ◌++◌, Option, Some, None, refl, sym, ap, ◌∙◌, subst, arith, slice_get, slice_set, map, false, inl, inr}
use Rattle.std.specs.Prelude.{Contains}
use Rattle.sap_terms.specs.AdversaryFacts.{k_fact, linear}
use Rattle.sap_terms.specs.Choice.{Choice, instance}
use Rattle.sap_terms.specs.Equations.{equations}
use Rattle.sap_terms.specs.Modulo.{instance_fact, instance_facts, IsFormOfFact, AreFormsOfFacts}
use Rattle.sap_terms.specs.Normal.{IsNormalForm}
use Rattle.sap_terms.specs.Piles.{Pile, Takes, adds}
use Rattle.sap_terms.specs.Reserved.{is_reserved}
use Rattle.sap_terms.specs.Signature.{Sig, HoldsBuiltins}
use Rattle.sap_terms.specs.Trace.{Trace}
use Rattle.sap_terms.specs.Tree.{Tree, variable}
use Rattle.sap_terms.specs.declared.binding.Binding.{Binding}
use Rattle.sap_terms.specs.declared.fact.Fact.{Fact}
use Rattle.sap_terms.specs.declared.var.Var.{Var}
use Rattle.sap_process.specs.Action as action
use Rattle.sap_process.specs.Configuration.{Config, Runs, becomes, spawns, sends_out, stores, holding}
use Rattle.sap_process.specs.Places.{place}
use Rattle.sap_process.specs.Proc as whole
use Rattle.sap_process.specs.Proc.{Proc, act, node_count}
use Rattle.sap_process.specs.Ready.{IsReady}
use Rattle.sap_process.specs.Sites.{message_var}
use Rattle.sap_locks.specs.Annotation.{IsAnnotation}
use Rattle.sap_place.specs.StateFacts.{state_fact}
use Rattle.sap_restrict.specs.ReservedFacts.{event_fact, eq_fact, not_eq_fact, insert_fact, delete_fact, is_in_fact, is_not_set_fact, unlock_fact}
use Rattle.sap_restrict.specs.Sentences.{EachFound}
use Rattle.sap_rule.specs.RuleSteps.{RuleState, leaves}
use Rattle.sap_rule.specs.declared.rule.Rule.{Rule}
use Rattle.sap_runs.specs.Inner.{InnerAction, equal, different, found, missing, inserted, deleted, unlocked}
use Rattle.sap_runs.specs.Marks.{marks_of}
use Rattle.sap_runs.specs.declared.process_step.PStep.{PStep}
use Rattle.sap_lines.specs.Lines.{EvaluateWithin}
use Rattle.sap_steps.specs.Lines.{IsEvaluated}
use Rattle.sap_steps.specs.Marks.{marks}
use Rattle.sap_translate.specs.Members.{Member}
use Rattle.sap_templates.specs.Places.{root, scoped_place_at}
use Rattle.sap_translate.specs.Scoped.{Within, AllWithin as ArgsWithin}
use Rattle.sap_translate.specs.Sound.{SoundAt}
use Rattle.sap_templates.specs.Templates as rules
use Rattle.sap_templates.specs.Templates.{first_of, second_of, state}
use Rattle.sap_translate.specs.relation.Agents.{Agent, running, copying, process_of, IsAt}
use Rattle.sap_translate.specs.relation.Answers.{term_under, under, goes_on, goes_aside}
use Rattle.sap_translate.specs.relation.Envs.{Env, names, chosen, just, join, values}
use Rattle.sap_translate.specs.relation.Followed.{RuleCase, WhereTogether}
use Rattle.sap_translate.specs.relation.Follows.{Follows, written}
use Rattle.sap_translate.specs.relation.ProcessMoves as process
use Rattle.sap_translate.specs.relation.ProcessMoves.{ProcessMove}
use Rattle.sap_translate.specs.relation.Related.{StorePart, pending_place}
use Rattle.sap_translate.specs.relation.Shown.{ShowsAt}
use Rattle.sap_back.specs.Along.{IsAlong, SentWithin}
use Rattle.sap_back.specs.Followed.{IsWrittenAsProcess, pending_lines}
use Rattle.sap_process_lines.specs.Tables.{ProcessTables, come, with_known, with_thread, waiting}
use Rattle.sap_back.specs.Tables.{AreProcessTables, IsPending}
use Rattle.sap_runs.specs.declared.rule_step.RStep.TheVariants.{Rule as RuleLine}
use Rattle.sap_back.proofs.Added.{one_copies, one_state, out_then_state, two_states, wider_by_one}
use Rattle.sap_back.proofs.Advance.{by_none, by_silent, by_input, by_event, followed, AllWithin, Carries}
use Rattle.sap_back.proofs.Effects.{got, kept, traded, IsContinued, Trades, TradesTwo}
use Rattle.sap_back.proofs.Lines.{Does, Heads, Form, line_for}
use Rattle.sap_translate.proofs.Shared.Marked.{event_marks}
use Rattle.sap_back.proofs.Premises.{Laws}
use Rattle.sap_back.proofs.Seats.{Fired, Alone, Beside, alone, copy_seat, agent_runs, runs_one, term_is, term_within}
use Rattle.sap_back.proofs.Terms.{SameOn, rule_fact, within_join, within_each, rule_term_within, two_forms_of, one_form_of, no_acts}
use Rattle.sap_translate.proofs.Shared.Inputs.{has_last, has_within, has_more, has_where, old, new}
use Rattle.sap_translate.proofs.Shared.Lookups.{every-set, every_push}

-- what was found is what the store has
pub found_value : (g : Sig) (store : Tree → Option Tree) (full : Trace) (x v w : Tree) → StorePart g store full → EachFound (ShowsAt (full ++ (is_in_fact x v ∷ []) ∷ [])) → store x ≡ Some w → v ≡ w
found_value g store full x v w part each is =
    let p = is_in_fact x v ∷ [] in
    let f = each x v (Rattle.std.specs.Prelude.length full) (has_last full p (is_in_fact x v) Member.here) in
    let h = part.held x w is in
    let within = has_within full h.place (insert_fact x w) h.inserted in
    let not_new : (k : ℕ) (u : Tree) → Member (insert_fact x u) p → ⊥ = λ k u m. apart_in x u v m in
    let here : ShowsAt full f.0 (insert_fact x v) = elim (has_where full p f.0 (insert_fact x v) f.1.inserted) [ old lt a ↦ a | new e m ↦ absurd (not_new f.0 v m) ] in
    let low = h.inserts v f.0 here in
    let same : f.0 ≡ h.place = elim (f.1.inserts w h.place (has_more full p h.place (insert_fact x w) h.inserted)) [ inl le ↦ (omega arith) | inr lt ↦ absurd (omega arith) ] in
    part.single h.place x v w (subst (λ k. ShowsAt full k (insert_fact x v)) same here) h.inserted
  where
    apart_in : (x u v : Tree) → Member (insert_fact x u) (is_in_fact x v ∷ []) → ⊥
    apart_in x u v m = by (insert_fact x u) refl m
      where
        by : (f : Fact) → f.name ≡ (insert_fact x u).name → Member f (is_in_fact x v ∷ []) → ⊥
        by f e Member.here = cc
        by f e (Member.later k) = elim k [ ]

pub only_running : (g : Sig) (W : Tree → Type 0) (path : List ℕ) (env : Env) (b : Proc) (a : Agent) → Some (running path env b) ≡ Some a → SentWithin g W a
only_running g W path env b a e = let same : running path env b ≡ a = cc in subst (λ x. SentWithin g W x) same tt

module _ (laws : Laws) (g : Sig) (W : Tree → Type 0) (p q : Proc) (hold : HoldsBuiltins g) (ready : IsReady g p) (small : node_count p < 2 ^ 64) (annotated : IsAnnotation p q) (agents : List (Option Agent)) (pending : Option Tree) (lines : List PStep) (c : Config) (es : List Tree) (tr : Trace) (s : RuleState) (full : Trace) (w : IsAlong g W q agents pending lines c es tr s full) (tables : ProcessTables) (table : AreProcessTables agents pending c es s tables) where
  -- a law, here
  pub law : (P : RuleCase) → WhereTogether P → P g q agents pending c tr s full
  law P h = h g p q hold ready small annotated agents pending c tr s full w.together

  pub sound_at : (path : List ℕ) (env : Env) (b : Proc) → IsAt g q path env b → SoundAt g (names env) b
  sound_at path env b at = (laws.sound g p q ready small annotated).0 path (place path (names env) b) at.0

  -- lines go along with what the rule leaves
  abbrev pub Goes : List ℕ → List ℕ → List Binding → Pile → List Fact → List Fact → Type 0
  Goes name ks b rest acts right = IsContinued g W q agents pending lines c es s full tables (RuleLine name ks b) (leaves s (adds rest right)) acts

  -- these lines are written for it, and lead to this configuration
  abbrev pub WritesProcess : List ℕ → List ℕ → List Binding → List Fact → List PStep → List (Option Agent) → Option Tree → ProcessTables → Config → Pile → List Fact → Type 0
  WritesProcess name ks b acts more next later behind d rest right = Carries g agents pending c es s tables (RuleLine name ks b) acts more next later behind d (leaves s (adds rest right))

  -- what the thread does
  pub head_is : (b : List Binding) (t : ℕ) (a : Agent) → slice_get agents t ≡ Some (Some a) → (m : ProcessMove) (inner : List InnerAction) → Does g W c b m (process_of a) inner → (x : Proc) → Runs c t x → Does g W c b m x inner
  head_is b t a e m inner d x runs = subst (λ z. Does g W c b m z inner) (runs_one c t (process_of a) x (agent_runs laws g W q agents pending c tr s full w.together.related es tables table t a e) runs) d

  pub on_set : (t : ℕ) (path : List ℕ) (env : Env) (b : Proc) → AllWithin g W q (slice_set agents t (Some (running path env b)))
  on_set t path env b = every-set (SentWithin g W) agents t (Some (running path env b)) w.within (only_running g W path env b)

  pub silent : (name ks js : List ℕ) (b : List Binding) → ks ≡ js → (next : List (Option Agent)) (behind : ProcessTables) (rest : Pile) (acts right : List Fact) (m : ProcessMove) (inner : List InnerAction) (d : Config) → WritesProcess name js b acts (line_for 0 b m ∷ []) next pending behind d rest right
      → Follows g q pending c tr full (m ∷ []) [] d pending next (leaves s (adds rest right)) acts → Heads g W c b m inner → marks (acts ∷ []) ≡ marks_of inner [] → AllWithin g W q next → Goes name ks b rest acts right
  silent name ks js b numbers next behind rest acts right m inner d writing f heads same within =
      subst (λ i. Goes name i b rest acts right) (sym numbers)
      (followed g W q laws.one_form laws.decide agents pending lines c es tr s full w b next (leaves s (adds rest right)) acts tables behind pending (RuleLine name js b) (line_for 0 b m ∷ []) d (by_silent g W q laws.one_form laws.decide agents pending lines c es tr s full w b next (leaves s (adds rest right)) acts m inner d f heads same refl within) writing)

  pub none_written : (name ks js : List ℕ) (b : List Binding) → ks ≡ js → (next : List (Option Agent)) (behind : ProcessTables) (rest : Pile) (acts right : List Fact) → WritesProcess name js b acts [] next pending behind c rest right
      → Follows g q pending c tr full [] [] c pending next (leaves s (adds rest right)) acts → marks (acts ∷ []) ≡ [] → AllWithin g W q next → Goes name ks b rest acts right
  none_written name ks js b numbers next behind rest acts right writing f same within =
      subst (λ i. Goes name i b rest acts right) (sym numbers)
      (followed g W q laws.one_form laws.decide agents pending lines c es tr s full w b next (leaves s (adds rest right)) acts tables behind pending (RuleLine name js b) [] c (by_none g W q laws.one_form laws.decide agents pending lines c es tr s full w b next (leaves s (adds rest right)) acts f same w.known within) writing)

  pub input_written : (name ks js : List ℕ) (b : List Binding) → ks ≡ js → (next : List (Option Agent)) (behind : ProcessTables) (rest : Pile) (acts right : List Fact) (m : ProcessMove) (x : Tree) (entry : ℕ) (d : Config) → slice_get es entry ≡ Some x → WritesProcess name js b acts (line_for entry b m ∷ []) next None behind d rest right
      → Follows g q pending c tr full (m ∷ []) ((k_fact x ∷ []) ∷ []) d None next (leaves s (adds rest right)) acts → Heads g W c b m [] → marks (acts ∷ []) ≡ [] → AllWithin g W q next → Goes name ks b rest acts right
  input_written name ks js b numbers next behind rest acts right m x entry d at writing f heads same within =
      subst (λ i. Goes name i b rest acts right) (sym numbers)
      (followed g W q laws.one_form laws.decide agents pending lines c es tr s full w b next (leaves s (adds rest right)) acts tables behind None (RuleLine name js b) (line_for entry b m ∷ []) d (by_input g W q laws.one_form laws.decide agents pending lines c es tr s full w b next (leaves s (adds rest right)) acts m x entry d at f heads same refl within) writing)

  pub event_written : (name ks js : List ℕ) (b : List Binding) → ks ≡ js → (next : List (Option Agent)) (behind : ProcessTables) (rest : Pile) (acts right : List Fact) (m : ProcessMove) (h : Fact) (hs : List Fact) (d : Config) → WritesProcess name js b acts (pending_lines tables.pending ++ line_for 0 b m ∷ []) next None behind d rest right
      → Follows g q pending c tr full (written pending ++ m ∷ []) (pending_place pending ++ (h ∷ hs) ∷ []) d None next (leaves s (adds rest right)) acts → Heads g W c b m [] → ((x : Tree) → h ∷ hs ≡ k_fact x ∷ [] → ⊥) → marks (acts ∷ []) ≡ marks_of [] (h ∷ hs) → AllWithin g W q next → Goes name ks b rest acts right
  event_written name ks js b numbers next behind rest acts right m h hs d writing f heads other same within =
      subst (λ i. Goes name i b rest acts right) (sym numbers)
      (followed g W q laws.one_form laws.decide agents pending lines c es tr s full w b next (leaves s (adds rest right)) acts tables behind None (RuleLine name js b) (pending_lines tables.pending ++ line_for 0 b m ∷ []) d (by_event g W q laws.one_form laws.decide agents pending lines c es tr s full w b next (leaves s (adds rest right)) acts tables.pending m h hs d table.waits f heads other same refl within) writing)

  -- what is pending has the number that the table says
  pub entry_waits : (x : Tree) → pending ≡ Some x → IsPending es (Some x) tables.pending
  entry_waits x e = subst (λ o. IsPending es o tables.pending) e table.waits

  abbrev pub Case : List ℕ → List Var → Proc → Rule → Type 0
  Case path v body r = scoped_place_at (root q) path ≡ Some (place path v body) → (ks : List ℕ) (b : List Binding) (σ : Choice) (left acts right : List Fact) (rest : Pile) → Fired g W s full r ks b σ left acts right rest → Goes r.name ks b rest acts right

  sit : (path : List ℕ) (v : List Var) (body : Proc) (R : List Var → Rule) → ((x : List Var) → (R x).left ≡ state path x ∷ []) → scoped_place_at (root q) path ≡ Some (place path v body)
      → (ks : List ℕ) (b : List Binding) (σ : Choice) (left acts right : List Fact) (rest : Pile) → Fired g W s full (R v) ks b σ left acts right rest → Alone g W q agents s full tables path R body ks σ left acts right rest
  sit path v body R is at ks b σ left acts right rest fired = alone laws g W q agents pending c tr s full w.together.related es tables table path v body R is at ks b σ left acts right rest fired

  -- the form of what the thread has of a term
  pub form_is : (env : Env) (σ : Choice) (m x : Tree) → SameOn (names env) σ env.choice → Within (names env) m → IsNormalForm (equations g) (instance σ m) x → Form g (term_under env m) x
  form_is env σ m x same in_scope f = subst (λ t. Form g t x) (term_is laws env σ m same in_scope) f

  pub one_within : (env : Env) (σ : Choice) (r : Rule) (f : Fact) (m : Tree) → SameOn (names env) σ env.choice → Within (names env) m → ((n : Tree) → IsEvaluated g r σ n → W n) → Member f (r.left ++ (r.acts ++ r.right)) → Member m f.args → EvaluateWithin g W (term_under env m ∷ [])
  one_within env σ r f m same in_scope within k l = term_within laws g W env σ r m same in_scope within (rule_fact r f m k l)

  pub two_within : (env : Env) (σ : Choice) (r : Rule) (f : Fact) (m n : Tree) → SameOn (names env) σ env.choice → Within (names env) m → Within (names env) n → ((n : Tree) → IsEvaluated g r σ n → W n) → Member f (r.left ++ (r.acts ++ r.right)) → Member m f.args → Member n f.args → EvaluateWithin g W (term_under env m ∷ term_under env n ∷ [])
  two_within env σ r f m n same a b within k l j = within_join g W (term_under env m) (term_under env n ∷ []) (one_within env σ r f m same a within k l) (one_within env σ r f n same b within k j)

  -- what a rule trades that takes its state fact alone, and leads its thread on to this place
  trades_on : {path : List ℕ} {R : List Var → Rule} {body : Proc} {ks : List ℕ} {σ : Choice} {left acts right : List Fact} {rest : Pile} (st : Alone g W q agents s full tables path R body ks σ left acts right rest) (to : List ℕ) → AreFormsOfFacts (equations g) (instance_facts σ (state to (names st.env) ∷ [])) right
      → Trades s (leaves s (adds rest right)) (st.number ∷ []) (state_fact path (values st.env) ∷ []) (state_fact to (values st.env) ∷ [])
  trades_on {σ = σ} {right = right} st to h = traded st.used.takes st.lefts (one_state laws g σ st.used.fits.messages to st.env right st.same h)

  -- the same, where it takes another fact besides
  pub trades_two : {path : List ℕ} {R : List Var → Rule} {body : Proc} {l : Fact} {ks : List ℕ} {σ : Choice} {left acts right behind : List Fact} {rest : Pile} (st : Beside g W q agents s full tables path R body l ks σ left acts right rest) → right ≡ behind
      → TradesTwo s (leaves s (adds rest right)) st.number st.other (state_fact path (values st.env)) behind
  trades_two st h = (st.fact, traded st.used.takes st.lefts h)

  pub nil_case : (path : List ℕ) (v : List Var) → Case path v whole.nil (rules.nil_rule path v)
  nil_case path v at ks b σ left acts right rest fired =
      let st = sit path v whole.nil (λ x. rules.nil_rule path x) (λ x. refl) at ks b σ left acts right rest fired in
      let f = law _ laws.follows_nil st.thread st.number path st.env σ left acts right rest st.seated.stands st.used in
      silent (rules.nil_rule path v).name ks (st.number ∷ []) b st.numbers (slice_set agents st.thread None) tables rest acts right (process.ends st.thread) [] (becomes c st.thread None) (IsWrittenAsProcess.ends st.thread st.number path st.env b st.seated, λ fs i. (traded st.used.takes st.lefts (no_acts (equations g) right st.used.fits.adds), kept refl refl i)) f
      (head_is b st.thread (running path st.env whole.nil) st.seated.stands.thread (process.ends st.thread) [] refl)
      (ap (λ a. marks (a ∷ [])) (no_acts (equations g) acts st.used.fits.shows))
      (every-set (SentWithin g W) agents st.thread None w.within (λ a e. absurd (cc)))

  pub parallel_case : (path : List ℕ) (v : List Var) (u o : Proc) → Case path v (whole.parallel u o) (rules.parallel_rule path v)
  parallel_case path v u o at ks b σ left acts right rest fired =
      let st = sit path v (whole.parallel u o) (λ x. rules.parallel_rule path x) (λ x. refl) at ks b σ left acts right rest fired in
      let f = law _ laws.follows_parallel st.thread st.number path st.env u o σ left acts right rest st.seated.stands st.used in
      silent (rules.parallel_rule path v).name ks (st.number ∷ []) b st.numbers (goes_on agents st.thread path st.env u ++ Some (running (second_of path) st.env o) ∷ []) (with_thread (come tables (st.thread ∷ tables.threads ∷ []))) rest acts right (process.splits st.thread) [] (spawns (becomes c st.thread (Some (under st.env u))) (under st.env o)) (IsWrittenAsProcess.splits st.thread st.number path st.env b u o st.seated, λ fs i. (traded st.used.takes st.lefts (two_states laws g σ st.used.fits.messages (first_of path) (second_of path) st.env right st.same st.used.fits.adds), kept refl refl i)) f
      (head_is b st.thread (running path st.env (whole.parallel u o)) st.seated.stands.thread (process.splits st.thread) [] refl)
      (ap (λ a. marks (a ∷ [])) (no_acts (equations g) acts st.used.fits.shows))
      (every_push (SentWithin g W) (goes_on agents st.thread path st.env u) (running (second_of path) st.env o) (on_set st.thread (first_of path) st.env u) tt)

  pub rep_start_case : (path : List ℕ) (v : List Var) (u : Proc) → Case path v (whole.replicated u) (rules.rep_start_rule path v)
  rep_start_case path v u at ks b σ left acts right rest fired =
      let st = sit path v (whole.replicated u) (λ x. rules.rep_start_rule path x) (λ x. refl) at ks b σ left acts right rest fired in
      let f = law _ laws.follows_rep_start st.thread st.number path st.env u σ left acts right rest st.seated.stands st.used in
      none_written (rules.rep_start_rule path v).name ks (st.number ∷ []) b st.numbers (slice_set agents st.thread (Some (copying path st.env u))) (come tables (st.thread ∷ [])) rest acts right (IsWrittenAsProcess.starts_copies st.thread st.number path st.env b u st.seated, λ fs i. (traded st.used.takes st.lefts (one_copies laws g σ st.used.fits.messages path st.env right st.same st.used.fits.adds), kept refl refl i)) f
      (ap (λ a. marks (a ∷ [])) (no_acts (equations g) acts st.used.fits.shows))
      (every-set (SentWithin g W) agents st.thread (Some (copying path st.env u)) w.within (λ a e. let same : copying path st.env u ≡ a = cc in subst (λ x. SentWithin g W x) same tt))

  pub rep_copy_case : (path : List ℕ) (v : List Var) (u : Proc) → Case path v (whole.replicated u) (rules.rep_copy_rule path v)
  rep_copy_case path v u at ks b σ left acts right rest fired =
      let st = copy_seat laws g W q agents pending c tr s full w.together.related es tables table path v u (λ x. rules.rep_copy_rule path x) refl at ks b σ left acts right rest fired in
      let f = law _ laws.follows_rep_copy st.thread st.number path st.env u σ left acts right rest st.copies (subst (λ js. Rattle.sap_translate.specs.relation.Followed.IsUsed g s full (rules.rep_copy_rule path (names st.env)) js σ left acts right rest) st.numbers st.fired.used) in
      silent (rules.rep_copy_rule path v).name ks (st.number ∷ []) b st.numbers (agents ++ Some (running (first_of path) st.env u) ∷ []) (with_thread (come tables (tables.threads ∷ []))) rest acts right (process.copies st.thread) [] (spawns c (under st.env u)) (IsWrittenAsProcess.copies st.thread st.number path st.env b u st.copies st.chosen, λ fs i. (traded (subst (λ js. Takes s.facts js left rest) st.numbers st.fired.used.takes) st.lefts (one_state laws g σ st.fired.used.fits.messages (first_of path) st.env right st.same st.fired.used.fits.adds), kept refl refl i)) f
      (head_is b st.thread (copying path st.env u) st.copies.thread (process.copies st.thread) [] refl)
      (ap (λ a. marks (a ∷ [])) (no_acts (equations g) acts st.fired.used.fits.shows))
      (every_push (SentWithin g W) agents (running (first_of path) st.env u) w.within tt)

  pub out_case : (path : List ℕ) (v : List Var) (m : Tree) (u : Proc) → Case path v (act (action.out m) u) (rules.out_rule path v m)
  out_case path v m u at ks b σ left acts right rest fired =
      let st = sit path v (act (action.out m) u) (λ x. rules.out_rule path x m) (λ x. refl) at ks b σ left acts right rest fired in
      let in_scope = sound_at path st.env (act (action.out m) u) st.at in
      let n = out_then_state laws g σ st.used.fits.messages m (first_of path) st.env right st.same st.used.fits.adds in
      let f = law _ laws.follows_out st.thread st.number path st.env m n.0 u σ left acts right rest st.seated.stands st.used (form_is st.env σ m n.0 st.same in_scope n.1) in
      silent (rules.out_rule path v m).name ks (st.number ∷ []) b st.numbers (goes_on agents st.thread path st.env u) (with_known (come tables (tables.known ∷ st.thread ∷ []))) rest acts right (process.outputs st.thread) [] (sends_out (becomes c st.thread (Some (under st.env u))) n.0) (IsWrittenAsProcess.outputs st.thread st.number path st.env b m u st.seated, λ fs i. (n.0, traded st.used.takes st.lefts n.2, got n.0 refl refl i)) f
      (head_is b st.thread (running path st.env (act (action.out m) u)) st.seated.stands.thread (process.outputs st.thread) []
      (one_within st.env σ (rules.out_rule path (names st.env) m) (Rattle.sap_terms.specs.AdversaryFacts.out_fact m) m st.same in_scope st.within (Member.later Member.here) Member.here, refl))
      (ap (λ a. marks (a ∷ [])) (no_acts (equations g) acts st.used.fits.shows)) (on_set st.thread (first_of path) st.env u)

  pub then_case : (path : List ℕ) (v : List Var) (m n : Tree) (u o : Proc) → Case path v (whole.test m n u o) (rules.then_rule path v m n)
  then_case path v m n u o at ks b σ left acts right rest fired =
      let st = sit path v (whole.test m n u o) (λ x. rules.then_rule path x m n) (λ x. refl) at ks b σ left acts right rest fired in
      let in_scope = sound_at path st.env (whole.test m n u o) st.at in
      let k = two_forms_of (equations g) (eq_fact m n).name (instance σ m) (instance σ n) acts st.used.fits.shows in
      let f = law _ laws.follows_then st.thread st.number path st.env m n u o σ left acts right rest st.seated.stands st.used in
      silent (rules.then_rule path v m n).name ks (st.number ∷ []) b st.numbers (goes_on agents st.thread path st.env u) (come tables (st.thread ∷ [])) rest acts right (process.agrees st.thread) (equal k.first k.second ∷ []) (becomes c st.thread (Some (under st.env u))) (IsWrittenAsProcess.agrees st.thread st.number path st.env b m n u o st.seated, λ fs i. (trades_on st (first_of path) st.used.fits.adds, kept refl refl i)) f
      (head_is b st.thread (running path st.env (whole.test m n u o)) st.seated.stands.thread (process.agrees st.thread) (equal k.first k.second ∷ []) (
        k.first,
        k.second,
        form_is st.env σ m k.first st.same in_scope.0 k.first_form,
        form_is st.env σ n k.second st.same in_scope.1 k.second_form,
        two_within st.env σ (rules.then_rule path (names st.env) m n) (eq_fact m n) m n st.same in_scope.0 in_scope.1 st.within (Member.later Member.here) Member.here (Member.later Member.here),
        refl,
      ))
      (ap (λ a. marks (a ∷ [])) k.is) (on_set st.thread (first_of path) st.env u)

  pub else_case : (path : List ℕ) (v : List Var) (m n : Tree) (u o : Proc) → Case path v (whole.test m n u o) (rules.else_rule path v m n)
  else_case path v m n u o at ks b σ left acts right rest fired =
      let st = sit path v (whole.test m n u o) (λ x. rules.else_rule path x m n) (λ x. refl) at ks b σ left acts right rest fired in
      let in_scope = sound_at path st.env (whole.test m n u o) st.at in
      let k = two_forms_of (equations g) (not_eq_fact m n).name (instance σ m) (instance σ n) acts st.used.fits.shows in
      let f = law _ laws.follows_else st.thread st.number path st.env m n u o σ left acts right rest st.seated.stands st.used in
      silent (rules.else_rule path v m n).name ks (st.number ∷ []) b st.numbers (goes_aside agents st.thread path st.env o) (come tables (st.thread ∷ [])) rest acts right (process.differs st.thread) (different k.first k.second ∷ []) (becomes c st.thread (Some (under st.env o))) (IsWrittenAsProcess.differs st.thread st.number path st.env b m n u o st.seated, λ fs i. (trades_on st (second_of path) st.used.fits.adds, kept refl refl i)) f
      (head_is b st.thread (running path st.env (whole.test m n u o)) st.seated.stands.thread (process.differs st.thread) (different k.first k.second ∷ []) (
        k.first,
        k.second,
        form_is st.env σ m k.first st.same in_scope.0 k.first_form,
        form_is st.env σ n k.second st.same in_scope.1 k.second_form,
        two_within st.env σ (rules.else_rule path (names st.env) m n) (not_eq_fact m n) m n st.same in_scope.0 in_scope.1 st.within (Member.later Member.here) Member.here (Member.later Member.here),
        refl,
      ))
      (ap (λ a. marks (a ∷ [])) k.is) (on_set st.thread (second_of path) st.env o)

  pub insert_case : (path : List ℕ) (v : List Var) (m n : Tree) (u : Proc) → Case path v (act (action.insert m n) u) (rules.insert_rule path v m n)
  insert_case path v m n u at ks b σ left acts right rest fired =
      let body = act (action.insert m n) u in
      let st = sit path v body (λ x. rules.insert_rule path x m n) (λ x. refl) at ks b σ left acts right rest fired in
      let in_scope = sound_at path st.env body st.at in
      let k = two_forms_of (equations g) (insert_fact m n).name (instance σ m) (instance σ n) acts st.used.fits.shows in
      let fx = form_is st.env σ m k.first st.same in_scope.0 k.first_form in
      let fy = form_is st.env σ n k.second st.same in_scope.1 k.second_form in
      let f = law _ laws.follows_insert st.thread st.number path st.env m n k.first k.second u σ left acts right rest st.seated.stands st.used fx fy in
      silent (rules.insert_rule path v m n).name ks (st.number ∷ []) b st.numbers (goes_on agents st.thread path st.env u) (come tables (st.thread ∷ [])) rest acts right (process.inserts st.thread) (inserted k.first k.second ∷ []) (stores (becomes c st.thread (Some (under st.env u))) k.first (Some k.second)) (IsWrittenAsProcess.inserts st.thread st.number path st.env b m n u st.seated, λ fs i. (trades_on st (first_of path) st.used.fits.adds, kept refl refl i)) f
      (head_is b st.thread (running path st.env body) st.seated.stands.thread (process.inserts st.thread) (inserted k.first k.second ∷ [])
      (k.first, k.second, fx, fy, two_within st.env σ (rules.insert_rule path (names st.env) m n) (insert_fact m n) m n st.same in_scope.0 in_scope.1 st.within (Member.later Member.here) Member.here (Member.later Member.here), refl))
      (ap (λ a. marks (a ∷ [])) k.is) (on_set st.thread (first_of path) st.env u)

  pub delete_case : (path : List ℕ) (v : List Var) (m : Tree) (u : Proc) → Case path v (act (action.delete m) u) (rules.delete_rule path v m)
  delete_case path v m u at ks b σ left acts right rest fired =
      let body = act (action.delete m) u in
      let st = sit path v body (λ x. rules.delete_rule path x m) (λ x. refl) at ks b σ left acts right rest fired in
      let in_scope = sound_at path st.env body st.at in
      let k = one_form_of (equations g) (delete_fact m).name (instance σ m) acts st.used.fits.shows in
      let fx = form_is st.env σ m k.form st.same in_scope k.is_form in
      let f = law _ laws.follows_delete st.thread st.number path st.env m k.form u σ left acts right rest st.seated.stands st.used fx in
      silent (rules.delete_rule path v m).name ks (st.number ∷ []) b st.numbers (goes_on agents st.thread path st.env u) (come tables (st.thread ∷ [])) rest acts right (process.deletes st.thread) (deleted k.form ∷ []) (stores (becomes c st.thread (Some (under st.env u))) k.form None) (IsWrittenAsProcess.deletes st.thread st.number path st.env b m u st.seated, λ fs i. (trades_on st (first_of path) st.used.fits.adds, kept refl refl i)) f
      (head_is b st.thread (running path st.env body) st.seated.stands.thread (process.deletes st.thread) (deleted k.form ∷ [])
      (k.form, fx, one_within st.env σ (rules.delete_rule path (names st.env) m) (delete_fact m) m st.same in_scope st.within (Member.later Member.here) Member.here, refl))
      (ap (λ a. marks (a ∷ [])) k.is) (on_set st.thread (first_of path) st.env u)

  pub unlock_case : (path : List ℕ) (v : List Var) (m : Tree) (l : ℕ) (u : Proc) → Case path v (act (action.unlock m l) u) (rules.unlock_rule path v m l)
  unlock_case path v m l u at ks b σ left acts right rest fired =
      let body = act (action.unlock m l) u in
      let st = sit path v body (λ x. rules.unlock_rule path x m l) (λ x. refl) at ks b σ left acts right rest fired in
      let in_scope = (sound_at path st.env body st.at).0 in
      let lock = variable (Rattle.sap_process.specs.Scopes.lock_var l) in
      let k = two_forms_of (equations g) (unlock_fact lock m).name (instance σ lock) (instance σ m) acts st.used.fits.shows in
      let fx = form_is st.env σ m k.second st.same in_scope k.second_form in
      let f = law _ laws.follows_unlock st.thread st.number path st.env m k.second l u σ left acts right rest st.seated.stands st.used fx in
      silent (rules.unlock_rule path v m l).name ks (st.number ∷ []) b st.numbers (goes_on agents st.thread path st.env u) (come tables (st.thread ∷ [])) rest acts right (process.unlocks st.thread) (unlocked k.second ∷ []) (holding (becomes c st.thread (Some (under st.env u))) k.second false) (IsWrittenAsProcess.unlocks st.thread st.number path st.env b m l u st.seated, λ fs i. (trades_on st (first_of path) st.used.fits.adds, kept refl refl i)) f
      (head_is b st.thread (running path st.env body) st.seated.stands.thread (process.unlocks st.thread) (unlocked k.second ∷ [])
      (k.second, fx, one_within st.env σ (rules.unlock_rule path (names st.env) m l) (unlock_fact lock m) m st.same in_scope st.within (Member.later Member.here) (Member.later Member.here), refl))
      (ap (λ a. marks (a ∷ [])) k.is) (on_set st.thread (first_of path) st.env u)

  pub missing_case : (path : List ℕ) (v : List Var) (m : Tree) (y : Var) (u o : Proc) → Case path v (whole.lookup m y u o) (rules.missing_rule path v m)
  missing_case path v m y u o at ks b σ left acts right rest fired =
      let body = whole.lookup m y u o in
      let st = sit path v body (λ x. rules.missing_rule path x m) (λ x. refl) at ks b σ left acts right rest fired in
      let in_scope = (sound_at path st.env body st.at).0 in
      let k = one_form_of (equations g) (is_not_set_fact m).name (instance σ m) acts st.used.fits.shows in
      let fx = form_is st.env σ m k.form st.same in_scope k.is_form in
      let f = law _ laws.follows_missing st.thread st.number path st.env m y u o σ left acts right rest st.seated.stands st.used in
      silent (rules.missing_rule path v m).name ks (st.number ∷ []) b st.numbers (goes_aside agents st.thread path st.env o) (come tables (st.thread ∷ [])) rest acts right (process.misses st.thread) (missing k.form ∷ []) (becomes c st.thread (Some (under st.env o))) (IsWrittenAsProcess.misses st.thread st.number path st.env b m y u o st.seated, λ fs i. (trades_on st (second_of path) st.used.fits.adds, kept refl refl i)) f
      (head_is b st.thread (running path st.env body) st.seated.stands.thread (process.misses st.thread) (missing k.form ∷ [])
      (k.form, fx, one_within st.env σ (rules.missing_rule path (names st.env) m) (is_not_set_fact m) m st.same in_scope st.within (Member.later Member.here) Member.here, refl))
      (ap (λ a. marks (a ∷ [])) k.is) (on_set st.thread (second_of path) st.env o)

  pub found_case : (path : List ℕ) (v : List Var) (m : Tree) (y : Var) (u o : Proc) → Case path v (whole.lookup m y u o) (rules.found_rule path v m y)
  found_case path v m y u o at ks b σ left acts right rest fired =
      let body = whole.lookup m y u o in
      let st = sit path v body (λ x. rules.found_rule path x m y) (λ x. refl) at ks b σ left acts right rest fired in
      let in_scope = (sound_at path st.env body st.at).0 in
      let at_key = variable (message_var y) in
      let k = two_forms_of (equations g) (is_in_fact m at_key).name (instance σ m) (instance σ at_key) acts st.used.fits.shows in
      let fx = form_is st.env σ m k.first st.same in_scope k.first_form in
      let each : EachFound (ShowsAt (full ++ (is_in_fact k.first k.second ∷ []) ∷ [])) = subst (λ a. EachFound (ShowsAt (full ++ a ∷ []))) k.is st.demands.found in
      let wider = join st.env (just (message_var y) (σ (message_var y))) in
      let f = law _ laws.follows_found st.thread st.number path st.env m (σ (message_var y)) y u o σ left acts right rest st.seated.stands st.used refl in
      silent (rules.found_rule path v m y).name ks (st.number ∷ []) b st.numbers (goes_on agents st.thread path wider u) (come tables (st.thread ∷ [])) rest acts right (process.finds st.thread) (found k.first k.second ∷ []) (becomes c st.thread (Some (under wider u))) (IsWrittenAsProcess.finds st.thread st.number path st.env b m (σ (message_var y)) y u o st.seated, λ fs i. (traded st.used.takes st.lefts (one_state laws g σ st.used.fits.messages (first_of path) wider right (wider_by_one laws st.env σ (message_var y) (σ (message_var y)) st.same (sound_at path st.env body st.at).1 refl) st.used.fits.adds), kept refl refl i)) f
      (head_is b st.thread (running path st.env body) st.seated.stands.thread (process.finds st.thread) (found k.first k.second ∷ []) (
        k.first,
        k.second,
        fx,
        (λ j z a e. found_value g c.store full k.first k.second z w.together.related.traces.store each (ap c.store (laws.one_form (equations g) (term_under st.env m) k.first j fx a) ∙ e)),
        one_within st.env σ (rules.found_rule path (names st.env) m y) (is_in_fact m at_key) m st.same in_scope st.within (Member.later Member.here) Member.here,
        refl,
      ))
      (ap (λ a. marks (a ∷ [])) k.is) (on_set st.thread (first_of path) wider u)

  -- an event shows what is pending first
  pub event_case : (path : List ℕ) (v : List Var) (e : Fact) (u : Proc) → Case path v (act (action.event e) u) (rules.event_rule path v e)
  event_case path v e u at ks b σ left acts right rest fired =
      let body = act (action.event e) u in
      let st = sit path v body (λ x. rules.event_rule path x e) (λ x. refl) at ks b σ left acts right rest fired in
      let sound = sound_at path st.env body st.at in
      let args_are : map (instance σ) e.args ≡ map (term_under st.env) e.args = args_is st.env σ e.args st.same sound.1 in
      let k = event_form (instance_fact σ e) acts st.used.fits.shows in
      let form : IsFormOfFact (equations g) (instance_fact (chosen st.env) e) k.0 = record { name = k.2.name; persistent = k.2.persistent; args = subst (λ ts. Rattle.std.specs.List.AllZip (IsNormalForm (equations g)) ts k.0.args) args_are k.2.args } in
      let free : is_reserved k.0.name ≡ false = ap is_reserved k.2.name ∙ sound.0 in
      let f = law _ laws.follows_event st.thread st.number path st.env e k.0 u σ left acts right rest st.seated.stands st.used form in
      event_written (rules.event_rule path v e).name ks (st.number ∷ []) b st.numbers (goes_on agents st.thread path st.env u) (waiting (come tables (st.thread ∷ [])) None) rest acts right (process.shows st.thread) k.0 [] (becomes c st.thread (Some (under st.env u))) (IsWrittenAsProcess.shows st.thread st.number path st.env b e u st.seated, λ fs i. (trades_on st (first_of path) st.used.fits.adds, kept refl refl i)) f
      (head_is b st.thread (running path st.env body) st.seated.stands.thread (process.shows st.thread) [] (subst (λ ts. EvaluateWithin g W ts) args_are (within_each g W σ e.args (λ t n. rule_term_within g W σ (rules.event_rule path (names st.env) e) t st.within (rule_fact (rules.event_rule path (names st.env) e) e t (Member.later (Member.later Member.here)) n))), refl))
      (λ x i. not_k k.0 x free (first_same k.0 (k_fact x) i)) (ap (λ a. marks (a ∷ [])) k.1 ∙ event_marks k.0 free) (on_set st.thread (first_of path) st.env u)
    where
      first_same : (f h : Fact) → ◌≡◌ {A = List Fact} (f ∷ []) (h ∷ []) → f ≡ h
      first_same f h i = cc

      not_k : (f : Fact) (x : Tree) → is_reserved f.name ≡ false → f ≡ k_fact x → ⊥
      not_k f x free i = let z : is_reserved (k_fact x).name ≡ false = ap (λ (h : Fact). is_reserved h.name) (sym i) ∙ free in cc

      args_is : (env : Env) (σ : Choice) (ts : List Tree) → SameOn (names env) σ env.choice → ArgsWithin (names env) ts → map (instance σ) ts ≡ map (term_under env) ts
      args_is env σ [] same h = refl
      args_is env σ (t ∷ ts) same h = λ i. term_is laws env σ t same h.0 i ∷ args_is env σ ts same h.1 i

      event_form : (h : Fact) (fs : List Fact) → AreFormsOfFacts (equations g) (event_fact ∷ h ∷ []) fs → (f : Fact) × (fs ≡ event_fact ∷ f ∷ []) × IsFormOfFact (equations g) h f
      event_form h [] i = absurd i
      event_form h (a ∷ []) i = absurd i.1
      event_form h (a ∷ f ∷ []) i = (f, ap (λ z. z ∷ f ∷ []) (is_event a a.args refl i.0.args i.0.name i.0.persistent), i.1.0)
        where
          is_event : (a : Fact) (ts : List Tree) → a.args ≡ ts → Rattle.std.specs.List.AllZip (IsNormalForm (equations g)) [] ts → a.name ≡ event_fact.name → a.persistent ≡ false → a ≡ event_fact
          is_event a [] e k n o = Rattle.sap_translate.proofs.Shared.Facts.made a.name event_fact.name a.persistent false a.args [] n o e
          is_event a (t ∷ ts) e k n o = absurd k
      event_form h (a ∷ f ∷ x ∷ fs) i = absurd i.1.1
