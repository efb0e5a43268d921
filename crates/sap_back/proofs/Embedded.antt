-- A line of rules for an embedded rule: the same facts are taken on both sides.
use Rattle.std.proofs.Common.{◌≡◌, ℕ, ◌<◌, ◌^◌, List, [], ◌∷◌, ◌++◌, Option, Some, refl, sym, ap, ◌∙◌, subst, false, None, length, suc}
use Rattle.std.specs.List.{AllZip}
use Rattle.sap_terms.specs.AdversaryFacts.{k_fact}
use Rattle.sap_terms.specs.Choice.{Choice}
use Rattle.sap_terms.specs.Equations.{equations}
use Rattle.sap_terms.specs.Modulo.{instance_fact, instance_facts, AreFormsOfFacts, AreEqualFacts}
use Rattle.sap_terms.specs.Piles.{used, adds}
use Rattle.sap_terms.specs.Reserved.{is_reserved}
use Rattle.sap_terms.specs.Signature.{Sig, HoldsBuiltins}
use Rattle.sap_terms.specs.Trace.{Trace}
use Rattle.sap_terms.specs.Tree.{Tree}
use Rattle.sap_terms.specs.Variables.{facts_vars, new_vars}
use Rattle.sap_terms.specs.declared.fact.Fact.{Fact}
use Rattle.sap_terms.specs.declared.var.Var.{Var}
use Rattle.sap_rewrite.specs.Match.{bound_vars}
use Rattle.sap_process.specs.Action as action
use Rattle.sap_process.specs.Configuration as config
use Rattle.sap_process.specs.Configuration.{Config, becomes}
use Rattle.sap_process.specs.Heads.{facts_terms}
use Rattle.sap_process.specs.Proc.{Proc, act, node_count}
use Rattle.sap_process.specs.Ready.{IsReady}
use Rattle.sap_process.specs.Sites.{var_names}
use Rattle.sap_locks.specs.Annotation.{IsAnnotation}
use Rattle.sap_place.specs.StateFacts.{state_fact}
use Rattle.sap_restrict.specs.ReservedFacts.{event_fact}
use Rattle.sap_rule.specs.RuleSteps.{RuleState, leaves}
use Rattle.sap_rule.specs.Variables.{open_variables}
use Rattle.sap_rule.specs.declared.rule.Rule.{Rule}
use Rattle.sap_runs.specs.declared.process_step.PStep.{PStep}
use Rattle.sap_lines.specs.Lines.{EvaluateWithin}
use Rattle.sap_steps.specs.Marks.{marks}
use Rattle.sap_translate.specs.Members.{Member}
use Rattle.sap_translate.specs.Opened.{left_open}
use Rattle.sap_translate.specs.Scoped.{AreUnreserved}
use Rattle.sap_templates.specs.Templates as rules
use Rattle.sap_templates.specs.Templates.{embedded_acts, first_of, state}
use Rattle.sap_translate.specs.relation.Agents.{Agent, running}
use Rattle.sap_translate.specs.relation.Answers.{under, goes_on, widened}
use Rattle.sap_translate.specs.relation.Envs.{Env, GoodEnv, names, values, chosen, filled}
use Rattle.sap_translate.specs.relation.Followed.{IsUsed}
use Rattle.sap_translate.specs.relation.ProcessMoves as process
use Rattle.sap_back.specs.Along.{IsAlong}
use Rattle.sap_back.specs.Followed.{IsWrittenAsProcess, pending_lines}
use Rattle.sap_process_lines.specs.Tables.{with_pile, ProcessTables, waiting}
use Rattle.sap_back.specs.Tables.{AreProcessTables}
use Rattle.sap_runs.specs.declared.process_step.PStep.TheVariants as line
use Rattle.sap_back.proofs.Cases.{law, sound_at, Goes, Case, head_is, on_set, silent, event_written, WritesProcess}
use Rattle.sap_back.proofs.Added.{first_form, state_form, wider_by_new, FirstForm}
use Rattle.sap_back.proofs.Effects.{kept, traded, Embeds}
use Rattle.sap_back.proofs.Lines.{Does, Grows}
use Rattle.sap_back.proofs.Piled.{take_there, Corresponds, TakenThere}
use Rattle.sap_translate.proofs.Shared.Marked.{embedded_marks}
use Rattle.sap_back.proofs.Premises.{Laws}
use Rattle.sap_back.proofs.Seats.{numbered, seat, was_there, Seat}
use Rattle.sap_back.proofs.Terms.{contains, SameOn, same_facts, facts_within, rule_fact, rule_term_within}
use Rattle.sap_translate.proofs.Shared.Facts.{made}
use Rattle.sap_translate.proofs.Shared.Lookups.{member_left, member_right, member_cases, in_left, in_right}

-- facts that are equal to unreserved ones are unreserved
equal_unreserved : (g : Sig) (σ : Choice) (l fs : List Fact) → AreEqualFacts (equations g) (instance_facts σ l) fs → AreUnreserved l → AreUnreserved fs
equal_unreserved g σ [] [] h free x m = elim m [ ]
equal_unreserved g σ [] (f ∷ fs) h free x m = absurd h
equal_unreserved g σ (a ∷ l) [] h free x m = absurd h
equal_unreserved g σ (a ∷ l) (f ∷ fs) h free x m = Rattle.sap_back.proofs.Terms.first_or (λ z. is_reserved z.name ≡ false) (ap is_reserved h.0.name ∙ free a Member.here) (λ k. equal_unreserved g σ l fs h.1 (λ y n. free y (Member.later n)) x k) m

form_unreserved : (g : Sig) (σ : Choice) (l fs : List Fact) → AreFormsOfFacts (equations g) (instance_facts σ l) fs → AreUnreserved l → AreUnreserved fs
form_unreserved g σ [] [] h free x m = elim m [ ]
form_unreserved g σ [] (f ∷ fs) h free x m = absurd h
form_unreserved g σ (a ∷ l) [] h free x m = absurd h
form_unreserved g σ (a ∷ l) (f ∷ fs) h free x m = Rattle.sap_back.proofs.Terms.first_or (λ z. is_reserved z.name ≡ false) (ap is_reserved h.0.name ∙ free a Member.here) (λ k. form_unreserved g σ l fs h.1 (λ y n. free y (Member.later n)) x k) m

forms_many : (g : Sig) (σ : Choice) (l fs : List Fact) → AreFormsOfFacts (equations g) (instance_facts σ l) fs → length fs ≡ length l
forms_many g σ [] [] h = refl
forms_many g σ [] (f ∷ fs) h = absurd h
forms_many g σ (a ∷ l) [] h = absurd h
forms_many g σ (a ∷ l) (f ∷ fs) h = ap suc (forms_many g σ l fs h.1)

-- what is shown beside Event()
record Shows (g : Sig) (σ : Choice) (a acts : List Fact) : Type 0 where
  shows : List Fact
  is : acts ≡ embedded_acts shows
  forms : AreFormsOfFacts (equations g) (instance_facts σ a) shows

is_event : (g : Sig) (f : Fact) (ts : List Tree) → f.args ≡ ts → AllZip (Rattle.sap_terms.specs.Normal.IsNormalForm (equations g)) [] ts → f.name ≡ event_fact.name → f.persistent ≡ false → f ≡ event_fact
is_event g f [] e k n o = made f.name event_fact.name f.persistent false f.args [] n o e
is_event g f (t ∷ ts) e k n o = absurd k

shows_of : (g : Sig) (σ : Choice) (a acts : List Fact) → AreFormsOfFacts (equations g) (instance_facts σ (embedded_acts a)) acts → Shows g σ a acts
shows_of g σ [] [] h = record { shows = []; is = refl; forms = tt }
shows_of g σ [] (f ∷ fs) h = absurd h
shows_of g σ (x ∷ a) [] h = absurd h
shows_of g σ (x ∷ a) (f ∷ []) h = absurd h.1
shows_of g σ (x ∷ a) (f ∷ o ∷ fs) h = record { shows = o ∷ fs; is = ap (λ z. z ∷ o ∷ fs) (is_event g f f.args refl h.0.args h.0.name h.0.persistent); forms = h.1 }

acts_have : (a : List Fact) (f : Fact) → Member f a → Member f (embedded_acts a)
acts_have [] f m = elim m [ ]
acts_have (x ∷ a) f m = Member.later m

map_joined : (σ : Choice) (xs ys : List Fact) → instance_facts σ (xs ++ ys) ≡ instance_facts σ xs ++ instance_facts σ ys
map_joined σ [] ys = refl
map_joined σ (x ∷ xs) ys = ap (λ zs. instance_fact σ x ∷ zs) (map_joined σ xs ys)

module _ (laws : Laws) (g : Sig) (W : Tree → Type 0) (env : Env) (σ : Choice) (vs : List Var) (same : SameOn (names env) σ env.choice) where
  -- the choice says what the thread has in scope behind
  wide_same : SameOn (names (widened env σ vs)) σ (filled (widened env σ vs))
  wide_same x m = elim (member_cases (names env) (new_vars (var_names (names env)) vs) m) [
    | in_left k ↦ same x k ∙ sym (laws.old env (Rattle.sap_translate.specs.relation.Envs.bind σ (new_vars (var_names (names env)) vs)) x (contains k)) ∙ sym (laws.variables (widened env σ vs) x (contains m))
    | in_right k ↦ sym (laws.picks env σ vs x (contains k)) ∙ sym (laws.variables (widened env σ vs) x (contains m))
  ]

  facts_are : (fs : List Fact) → GoodEnv g env → Rattle.sap_translate.specs.Scoped.FactsWithin (names (widened env σ vs)) fs → instance_facts σ fs ≡ instance_facts σ (instance_facts (chosen env) fs)
  facts_are fs good in_scope = same_facts (names (widened env σ vs)) σ (filled (widened env σ vs)) fs wide_same in_scope ∙ laws.facts g env σ vs fs good in_scope

module _ (laws : Laws) (g : Sig) (W : Tree → Type 0) (p q : Proc) (hold : HoldsBuiltins g) (ready : IsReady g p) (small : node_count p < 2 ^ 64) (annotated : IsAnnotation p q) (agents : List (Option Agent)) (pending : Option Tree) (lines : List PStep) (c : Config) (es : List Tree) (tr : Trace) (s : RuleState) (full : Trace) (w : IsAlong g W q agents pending lines c es tr s full) (tables : ProcessTables) (table : AreProcessTables agents pending c es s tables) where
  pub rule_case : (path : List ℕ) (v : List Var) (l a o : List Fact) (u : Proc) → Case laws g W p q hold ready small annotated agents pending lines c es tr s full w tables table path v (act (action.embedded l a o) u) (rules.embedded_rule path v l a o)
  rule_case path v l a o u at ks b σ left acts right rest fired = go shown.shows shown.is shown.forms
    where
      body : Proc
      body = act (action.embedded l a o) u

      st : Seat g W q agents s full tables path (λ x. rules.embedded_rule path x l a o) body ks b σ left acts right rest
      st = seat laws g W q agents pending c tr s full w.together.related es tables table path v body (λ x. rules.embedded_rule path x l a o) l refl at ks b σ left acts right rest fired

      rule : Rule
      rule = rules.embedded_rule path (names st.env) l a o

      shown : Shows g σ a acts
      shown = shows_of g σ a acts st.fired.used.fits.shows

      vs : List Var
      vs = facts_vars (l ++ (a ++ o))

      wider : Env
      wider = widened st.env σ vs

      name : List ℕ
      name = (rules.embedded_rule path v l a o).name

      next : List (Option Agent)
      next = goes_on agents st.thread path wider u

      used_there : IsUsed g s full rule (st.number ∷ st.others) σ (state_fact path (values st.env) ∷ st.taken) acts right rest
      used_there = subst (λ fs. IsUsed g s full rule (st.number ∷ st.others) σ fs acts right rest) st.lefts (subst (λ js. IsUsed g s full rule js σ left acts right rest) st.numbers st.fired.used)

      sound : Rattle.sap_translate.specs.Sound.SoundAt g (names st.env) body
      sound = sound_at laws g W p q hold ready small annotated agents pending lines c es tr s full w tables table path st.env body st.at

      own : AreUnreserved st.taken
      own = equal_unreserved g σ l st.taken used_there.fits.takes.1 sound.0

      -- the table says which the facts are in the process, once the state fact is gone
      piles : Corresponds tables.facts (used s.facts st.number (state_fact path (values st.env))) c.facts
      piles = record {
        number = λ i h e. numbered laws g W q agents pending c tr s full w.together.related es tables table i h (was_there s.facts st.number i h e);
        there = λ i j h u e n. table.piles i j h u (was_there s.facts st.number i h e) n;
        apart = λ i m j h k u v e f n o. table.pile_apart i m j h k u v (was_there s.facts st.number i h e) (was_there s.facts st.number m k f) n o;
      }

      taken : TakenThere tables.facts c.facts st.others st.taken
      taken = take_there c.facts piles own st.later

      -- what is added: the state fact of the child, and the forms of the right side
      added : FirstForm g (instance_fact σ (state (first_of path) (names wider))) (instance_facts σ o) right
      added = first_form g (instance_fact σ (state (first_of path) (names wider))) (instance_facts σ o) right used_there.fits.adds

      adds_are : right ≡ state_fact (first_of path) (values wider) ∷ added.others
      adds_are = added.is ∙ ap (λ h. h ∷ added.others) (state_form laws g σ used_there.fits.messages (first_of path) wider added.first (wider_by_new laws st.env σ vs st.same) added.form)

      -- the configuration behind
      d : Config
      d = config.leaves (becomes c st.thread (Some (under wider u))) (adds taken.left added.others)

      embedded_so : (fs : List Tree) → Grows c es d fs → Embeds s (leaves s (adds rest right)) c es d fs st.number st.others taken.js (state_fact path (values st.env)) (state_fact (first_of path) (values wider)) o
      embedded_so fs grows = record {
        taken = st.taken;
        right = added.others;
        own = own;
        user = form_unreserved g σ o added.others added.forms sound.2;
        many = forms_many g σ o added.others added.forms;
        trades = traded used_there.takes refl adds_are;
        left = taken.left;
        takes = taken.takes;
        facts = refl;
        entries = (kept {c = c} {d = becomes c st.thread (Some (under wider u))} {es = es} {fs = fs} refl refl (record { come = grows.come; entries = grows.entries; frame = grows.frame })).entries;
      }

      opens : bound_vars b ≡ left_open (names st.env) l a o
      opens = st.fired.binds.vars ∙ head_same (open_variables g rule) (left_open (names st.env) l a o) (laws.places g p q path (names st.env) body ready small annotated (laws.ready g p q ready annotated).well_formed st.at.0)
        where
          head_same : (x y : List Var) → ◌≡◌ {A = List (List Var)} (x ∷ []) (y ∷ []) → x ≡ y
          head_same x y e = cc

      fits_within : EvaluateWithin g W (facts_terms (instance_facts σ (l ++ (a ++ o))))
      fits_within = facts_within g W σ (l ++ (a ++ o)) (λ f t m n. rule_term_within g W σ rule t st.fired.within (rule_fact rule f t (fact_in f m) n))
        where
          fact_in : (f : Fact) → Member f (l ++ (a ++ o)) → Member f (rule.left ++ (rule.acts ++ rule.right))
          fact_in f m = elim (member_cases l (a ++ o) m) [
            | in_left k ↦ Member.later (member_left (rule.acts ++ rule.right) k)
            | in_right k ↦ elim (member_cases a o k) [
              | in_left i ↦ Member.later (member_right l (member_left rule.right (acts_have a f i)))
              | in_right i ↦ Member.later (member_right l (member_right rule.acts (Member.later i)))
            ]
          ]

      terms_are : instance_facts σ (l ++ (a ++ o)) ≡ instance_facts σ (instance_facts (chosen st.env) l ++ (instance_facts (chosen st.env) a ++ instance_facts (chosen st.env) o))
      terms_are = facts_are laws g W st.env σ vs st.same (l ++ (a ++ o)) st.at.1 sound.3
          ∙ ap (instance_facts σ) (map_joined (chosen st.env) l (a ++ o) ∙ ap (λ fs. instance_facts (chosen st.env) l ++ fs) (map_joined (chosen st.env) a o))

      does : Does g W c b (process.embeds st.thread taken.js σ) (Rattle.sap_translate.specs.relation.Agents.process_of (running path st.env body)) []
      does = (opens ∙ sym (laws.instances g st.env l a o st.at.1), st.fired.binds.agrees, subst (λ fs. EvaluateWithin g W (facts_terms fs)) terms_are fits_within, refl)

      none_of : (x : List Fact) → AreFormsOfFacts (equations g) (instance_facts σ x) [] → x ≡ []
      none_of [] h = refl
      none_of (f ∷ fs) h = absurd h

      behind : Option ℕ → ProcessTables
      behind k = waiting (with_pile tables st.thread (length o)) k

      -- the line that is written, behind what is pending where something is shown
      quiet : acts ≡ [] → WritesProcess laws g W p q hold ready small annotated agents pending lines c es tr s full w tables table name (st.number ∷ st.others) b acts (line.Embedded st.thread taken.js b ∷ []) next pending (behind tables.pending) d rest right
      quiet is = subst (λ z. WritesProcess laws g W p q hold ready small annotated agents pending lines c es tr s full w tables table name (st.number ∷ st.others) b z (line.Embedded st.thread taken.js b ∷ []) next pending (behind tables.pending) d rest right) (sym is)
          (IsWrittenAsProcess.embeds st.thread st.number st.others taken.js path st.env b l a o σ u st.seated taken.are, embedded_so)

      loud : (h : Fact) (hs : List Fact) → acts ≡ event_fact ∷ h ∷ hs → WritesProcess laws g W p q hold ready small annotated agents pending lines c es tr s full w tables table name (st.number ∷ st.others) b acts (pending_lines tables.pending ++ line.Embedded st.thread taken.js b ∷ []) next None (behind None) d rest right
      loud h hs is = subst (λ z. WritesProcess laws g W p q hold ready small annotated agents pending lines c es tr s full w tables table name (st.number ∷ st.others) b z (pending_lines tables.pending ++ line.Embedded st.thread taken.js b ∷ []) next None (behind None) d rest right) (sym is)
          (IsWrittenAsProcess.embeds st.thread st.number st.others taken.js path st.env b l a o σ u st.seated taken.are, embedded_so)

      go : (shows : List Fact) → acts ≡ embedded_acts shows → AreFormsOfFacts (equations g) (instance_facts σ a) shows → Goes laws g W p q hold ready small annotated agents pending lines c es tr s full w tables table name ks b rest acts right
      go [] is forms =
          let f = law laws g W p q hold ready small annotated agents pending lines c es tr s full w tables table _ laws.follows_rule st.thread st.number st.others taken.js path st.env l a o u σ st.taken [] added.others acts right rest taken.left st.seated.stands used_there taken.takes forms added.forms in
          silent laws g W p q hold ready small annotated agents pending lines c es tr s full w tables table name ks (st.number ∷ st.others) b st.numbers next (behind tables.pending) rest acts right (process.embeds st.thread taken.js σ) [] d (quiet is) f
          (head_is laws g W p q hold ready small annotated agents pending lines c es tr s full w tables table b st.thread (running path st.env body) st.seated.stands.thread (process.embeds st.thread taken.js σ) [] does)
          (ap (λ z. marks (z ∷ [])) is) (on_set laws g W p q hold ready small annotated agents pending lines c es tr s full w tables table st.thread (first_of path) wider u)
      go (h ∷ hs) is forms =
          let f = law laws g W p q hold ready small annotated agents pending lines c es tr s full w tables table _ laws.follows_rule st.thread st.number st.others taken.js path st.env l a o u σ st.taken (h ∷ hs) added.others acts right rest taken.left st.seated.stands used_there taken.takes forms added.forms in
          let free = form_unreserved g σ a (h ∷ hs) forms sound.1 in
          event_written laws g W p q hold ready small annotated agents pending lines c es tr s full w tables table name ks (st.number ∷ st.others) b st.numbers next (behind None) rest acts right (process.embeds st.thread taken.js σ) h hs d (loud h hs is) f
          (head_is laws g W p q hold ready small annotated agents pending lines c es tr s full w tables table b st.thread (running path st.env body) st.seated.stands.thread (process.embeds st.thread taken.js σ) [] does)
          (λ x i. not_k h hs x (free h Member.here) i) (ap (λ z. marks (z ∷ [])) is ∙ embedded_marks (h ∷ hs) free) (on_set laws g W p q hold ready small annotated agents pending lines c es tr s full w tables table st.thread (first_of path) wider u)
        where
          not_k : (f : Fact) (fs : List Fact) (x : Tree) → is_reserved f.name ≡ false → f ∷ fs ≡ k_fact x ∷ [] → ⊥
          not_k f fs x free i =
              let same : f ≡ k_fact x = cc in
              let z : is_reserved (k_fact x).name ≡ false = ap (λ (y : Fact). is_reserved y.name) (sym same) ∙ free in
              cc
