-- A line of rules for each rule that takes a state fact and another: names, inputs, locks and messages on channels.
use Rattle.std.proofs.Common.{◌≡◌, ℕ, ◌<◌, ◌^◌, List, [], ◌∷◌, ◌++◌, Option, Some, None, refl, ap, ◌∙◌, subst, slice_get, slice_set, true, false, sym}
use Rattle.std.specs.List.{AllZip}
use Rattle.sap_terms.specs.AdversaryFacts.{fr_fact, in_fact, out_fact}
use Rattle.sap_terms.specs.Choice.{Choice, instance}
use Rattle.sap_terms.specs.Equal.{IsTheoryEqual}
use Rattle.sap_terms.specs.Equations.{equations, app2, pair_name}
use Rattle.sap_terms.specs.Modulo.{IsEqualFact}
use Rattle.sap_terms.specs.Normal.{IsNormalForm}
use Rattle.sap_terms.specs.Piles.{Pile}
use Rattle.sap_terms.specs.Signature.{Sig, HoldsBuiltins}
use Rattle.sap_terms.specs.Trace.{Trace}
use Rattle.sap_terms.specs.Tree.{Tree, fresh, variable}
use Rattle.sap_terms.specs.Variables.{tree_vars}
use Rattle.sap_terms.specs.declared.binding.Binding.{Binding}
use Rattle.sap_terms.specs.declared.fact.Fact.{Fact}
use Rattle.sap_terms.specs.declared.var.Var.{Var}
use Rattle.sap_process.specs.Action as action
use Rattle.sap_process.specs.Configuration as config
use Rattle.sap_process.specs.Configuration.{Config, Runs, becomes, sends_out, holding}
use Rattle.sap_process.specs.Places.{place}
use Rattle.sap_process.specs.Proc.{Proc, act, node_count}
use Rattle.sap_process.specs.Ready.{IsReady}
use Rattle.sap_process.specs.Scopes.{lock_var}
use Rattle.sap_process.specs.Sites.{fresh_var}
use Rattle.sap_locks.specs.Annotation.{IsAnnotation}
use Rattle.sap_place.specs.StateFacts.{state_fact, tag}
use Rattle.sap_restrict.specs.ReservedFacts.{input_fact, lock_fact}
use Rattle.sap_restrict.specs.Sentences.{EachServed}
use Rattle.sap_rule.specs.RuleSteps.{RuleState}
use Rattle.sap_rule.specs.declared.rule.Rule.{Rule}
use Rattle.sap_runs.specs.Inner.{locked}
use Rattle.sap_runs.specs.declared.process_step.PStep.{PStep}
use Rattle.sap_lines.specs.Lines.{EvaluateWithin}
use Rattle.sap_steps.specs.Marks.{marks}
use Rattle.sap_templates.specs.ChannelFacts.{fresh_fact, msg_fact}
use Rattle.sap_translate.specs.Members.{Member}
use Rattle.sap_templates.specs.Places.{root, scoped_place_at}
use Rattle.sap_translate.specs.Scoped.{Within}
use Rattle.sap_templates.specs.Templates as rules
use Rattle.sap_templates.specs.Templates.{first_of, state}
use Rattle.sap_translate.specs.relation.Agents.{Agent, running, awaiting, received, process_of}
use Rattle.sap_translate.specs.relation.Answers.{term_under, under, goes_on, widened}
use Rattle.sap_translate.specs.relation.Envs.{Env, names, just, join, values}
use Rattle.sap_translate.specs.relation.ProcessMoves as process
use Rattle.sap_translate.specs.relation.Shown.{ShowsAt}
use Rattle.sap_back.specs.Along.{IsAlong, SentWithin}
use Rattle.sap_back.specs.Followed.{IsWrittenAsProcess}
use Rattle.sap_process_lines.specs.Tables.{ProcessTables, come, with_known, waiting}
use Rattle.sap_back.specs.Tables.{AreProcessTables}
use Rattle.sap_back.proofs.Added.{ack_then_state, message_waits, one_state, out_then_state, wider_by_new, wider_by_one}
use Rattle.sap_back.proofs.Cases.{entry_waits, trades_two, law, sound_at, Case, head_is, on_set, silent, none_written, input_written, form_is, one_within, two_within, only_running}
use Rattle.sap_back.proofs.Premises.{Laws}
use Rattle.sap_back.proofs.Effects.{got, kept, traded}
use Rattle.sap_back.proofs.Seats.{numbered, own, term_is, Fired, Beside, beside, agent_runs, runs_one, head_of, none_left, equal_none, was_there}
use Rattle.sap_back.proofs.Terms.{SameOn, normal_same, rule_fact, within_join, rule_term_within, two_forms_of, one_form_of, no_acts, a_name}
use Rattle.sap_translate.proofs.Shared.Facts.{made}
use Rattle.sap_translate.proofs.Shared.Inputs.{served_free}
use Rattle.sap_translate.proofs.Shared.Lookups.{every-set}
use Rattle.sap_translate.proofs.Shared.Standing.{msg_owner}

-- what a meeting evaluates, by what both threads run
abbrev MeetsWithin : Sig → (Tree → Type 0) → Proc → Proc → Type 0
MeetsWithin g W (act (action.send m n) p) (act (action.receive l r) q) = EvaluateWithin g W (m ∷ n ∷ l ∷ [])
MeetsWithin g W p q = Unit {0}

-- the arguments of a message that is under way
record ThreeArgs (g : Sig) (t : Tree) (f : Fact) : Type 0 where
  tag_is : Tree
  channel : Tree
  sent : Tree
  equal : IsTheoryEqual (equations g) t tag_is
  is : f ≡ msg_fact tag_is channel sent

three_args : (g : Sig) (t u v : Tree) (f : Fact) → IsEqualFact (equations g) (msg_fact t u v) f → ThreeArgs g t f
three_args g t u v f h = by f.args refl h.args
  where
    by : (ts : List Tree) → f.args ≡ ts → AllZip (IsTheoryEqual (equations g)) (t ∷ u ∷ v ∷ []) ts → ThreeArgs g t f
    by [] e k = absurd k
    by (x ∷ []) e k = absurd k.1
    by (x ∷ y ∷ []) e k = absurd k.1.1
    by (x ∷ y ∷ z ∷ []) e k = record { tag_is = x; channel = y; sent = z; equal = k.0; is = made f.name (msg_fact t u v).name f.persistent false f.args (x ∷ y ∷ z ∷ []) h.name h.persistent e }
    by (x ∷ y ∷ z ∷ a ∷ ts) e k = absurd k.1.1.1

-- the argument of Fr
record OneArg (g : Sig) (t : Tree) (f : Fact) : Type 0 where
  value : Tree
  is : f ≡ fresh_fact value
  equal : IsTheoryEqual (equations g) t value

one_arg : (g : Sig) (t : Tree) (f : Fact) → IsEqualFact (equations g) (fresh_fact t) f → OneArg g t f
one_arg g t f h = by f.args refl h.args
  where
    by : (ts : List Tree) → f.args ≡ ts → AllZip (IsTheoryEqual (equations g)) (t ∷ []) ts → OneArg g t f
    by [] e k = absurd k
    by (x ∷ []) e k = record { value = x; is = made f.name (fresh_fact t).name f.persistent false f.args (x ∷ []) h.name h.persistent e; equal = k.0 }
    by (x ∷ y ∷ ts) e k = absurd k.1

module _ (laws : Laws) (g : Sig) (W : Tree → Type 0) (p q : Proc) (hold : HoldsBuiltins g) (ready : IsReady g p) (small : node_count p < 2 ^ 64) (annotated : IsAnnotation p q) (agents : List (Option Agent)) (pending : Option Tree) (lines : List PStep) (c : Config) (es : List Tree) (tr : Trace) (s : RuleState) (full : Trace) (w : IsAlong g W q agents pending lines c es tr s full) (tables : ProcessTables) (table : AreProcessTables agents pending c es s tables) where
  -- the laws of the other file, here
  abbrev Here : List ℕ → List Var → Proc → Rule → Type 0
  Here path v body r = Case laws g W p q hold ready small annotated agents pending lines c es tr s full w tables table path v body r

  sits : (path : List ℕ) (v : List Var) (body : Proc) (R : List Var → Rule) (l : Fact) → ((x : List Var) → (R x).left ≡ state path x ∷ l ∷ []) → scoped_place_at (root q) path ≡ Some (place path v body)
      → (ks : List ℕ) (b : List Binding) (σ : Choice) (left acts right : List Fact) (rest : Pile) → Fired g W s full (R v) ks b σ left acts right rest → Beside g W q agents s full tables path R body l ks σ left acts right rest
  sits path v body R l is at ks b σ left acts right rest fired = beside laws g W q agents pending c tr s full w.together.related es tables table path v body R l is at ks b σ left acts right rest fired

  -- an input finds its K event pending
  served : (acts : List Fact) (x : Tree) → acts ≡ input_fact x ∷ [] → EachServed (ShowsAt (full ++ acts ∷ [])) → pending ≡ Some x
  served acts x e h = w.waits x (served_free full x (subst (λ a. EachServed (ShowsAt (full ++ a ∷ []))) e h))

  -- names that are theory-equal are one
  one_name : (n m : ℕ) {t : Tree} → t ≡ fresh m → IsTheoryEqual (equations g) (fresh n) t → t ≡ fresh n
  one_name n m {t = t} is equal =
      is ∙ sym (normal_same laws.decide (equations g) (fresh n) (fresh m) (laws.leaves.of_fresh_name (equations g) n) (laws.leaves.of_fresh_name (equations g) m) (subst (λ z. IsTheoryEqual (equations g) (fresh n) z) is equal))

  same_names : (m n : ℕ) → fresh m ≡ fresh n → m ≡ n
  same_names m n e = cc

  -- so far as what is in scope goes, a form of what the thread has of a term is one under the choice
  instance_form : (env : Env) (σ : Choice) (m x : Tree) → SameOn (names env) σ env.choice → Within (names env) m → IsNormalForm (equations g) (term_under env m) x → IsNormalForm (equations g) (instance σ m) x
  instance_form env σ m x same in_scope f = subst (λ t. IsNormalForm (equations g) t x) (sym (term_is laws env σ m same in_scope)) f

  pub new_case : (path : List ℕ) (v : List Var) (x : Var) (u : Proc) → Here path v (act (action.new x) u) (rules.new_rule path v x)
  new_case path v x u at ks b σ left acts right rest fired =
      let body = act (action.new x) u in
      let st = sits path v body (λ z. rules.new_rule path z x) (fresh_fact (variable (fresh_var x))) (λ z. refl) at ks b σ left acts right rest fired in
      let n = a_name g (σ (fresh_var x)) (st.used.fits.messages (fresh_var x)) in
      let name = one_arg g (σ (fresh_var x)) st.fact st.equal in
      let sound = sound_at laws g W p q hold ready small annotated agents pending lines c es tr s full w tables table path st.env body st.at in
      let at_name : slice_get s.facts st.other ≡ Some (Some (fresh_fact name.value)) = st.is ∙ ap (λ z. Some (Some z)) name.is in
      let number = numbered laws g W q agents pending c tr s full w.together.related es tables table st.other (fresh_fact name.value) at_name in
      let value_is : name.value ≡ fresh n.0 = one_name n.0 number.0 (table.made st.other number.0 name.value at_name number.1) (subst (λ z. IsTheoryEqual (equations g) z name.value) n.1 name.equal) in
      let live : slice_get s.facts st.other ≡ Some (Some (fr_fact n.0)) = at_name ∙ ap (λ z. Some (Some (fresh_fact z))) value_is in
      let number_is : slice_get tables.facts st.other ≡ Some n.0 = number.1 ∙ ap (λ z. Some z) (same_names number.0 n.0 (sym (table.made st.other number.0 name.value at_name number.1) ∙ value_is)) in
      let wider = join st.env (just (fresh_var x) (fresh n.0)) in
      let f = law laws g W p q hold ready small annotated agents pending lines c es tr s full w tables table _ laws.follows_new st.thread st.number st.other n.0 path st.env x u σ left acts right rest st.seated.stands st.used n.1 in
      silent laws g W p q hold ready small annotated agents pending lines c es tr s full w tables table (rules.new_rule path v x).name ks (st.number ∷ st.other ∷ []) b st.numbers (goes_on agents st.thread path wider u) (come tables (st.thread ∷ [])) rest acts right (process.makes_name st.thread n.0) [] (config.makes (becomes c st.thread (Some (under wider u))) n.0) (IsWrittenAsProcess.makes_name st.thread st.number st.other n.0 path st.env b x u st.seated live number_is, λ fs i. (traded st.used.takes (st.lefts ∙ ap (λ z. state_fact path (values st.env) ∷ z ∷ []) (name.is ∙ ap fresh_fact value_is)) (one_state laws g σ st.used.fits.messages (first_of path) wider right (wider_by_one laws st.env σ (fresh_var x) (fresh n.0) st.same sound n.1) st.used.fits.adds), kept refl refl i)) f
      (head_is laws g W p q hold ready small annotated agents pending lines c es tr s full w tables table b st.thread (running path st.env body) st.seated.stands.thread (process.makes_name st.thread n.0) [] refl)
      (ap (λ a. marks (a ∷ [])) (no_acts (equations g) acts st.used.fits.shows)) (on_set laws g W p q hold ready small annotated agents pending lines c es tr s full w tables table st.thread (first_of path) wider u)

  pub lock_case : (path : List ℕ) (v : List Var) (m : Tree) (l : ℕ) (u : Proc) → Here path v (act (action.lock m l) u) (rules.lock_rule path v m l)
  lock_case path v m l u at ks b σ left acts right rest fired =
      let body = act (action.lock m l) u in
      let st = sits path v body (λ z. rules.lock_rule path z m l) (fresh_fact (variable (lock_var l))) (λ z. refl) at ks b σ left acts right rest fired in
      let sound = sound_at laws g W p q hold ready small annotated agents pending lines c es tr s full w tables table path st.env body st.at in
      let in_scope = sound.0 in
      let lock = variable (lock_var l) in
      let k = two_forms_of (equations g) (lock_fact lock m).name (instance σ lock) (instance σ m) acts st.used.fits.shows in
      let fx = form_is laws g W p q hold ready small annotated agents pending lines c es tr s full w tables table st.env σ m k.second st.same in_scope k.second_form in
      let n = a_name g (σ (lock_var l)) (st.used.fits.messages (lock_var l)) in
      let wider = join st.env (just (lock_var l) (fresh n.0)) in
      let f = law laws g W p q hold ready small annotated agents pending lines c es tr s full w tables table _ laws.follows_lock st.thread st.number st.other n.0 path st.env m k.second l u σ left acts right rest st.seated.stands st.used fx n.1 in
      silent laws g W p q hold ready small annotated agents pending lines c es tr s full w tables table (rules.lock_rule path v m l).name ks (st.number ∷ st.other ∷ []) b st.numbers (goes_on agents st.thread path wider u) (come tables (st.thread ∷ [])) rest acts right (process.locks st.thread) (locked k.second ∷ []) (holding (becomes c st.thread (Some (under st.env u))) k.second true) (IsWrittenAsProcess.locks st.thread st.number st.other n.0 path st.env b m l u st.seated, λ fs i. (trades_two laws g W p q hold ready small annotated agents pending lines c es tr s full w tables table st (one_state laws g σ st.used.fits.messages (first_of path) wider right (wider_by_one laws st.env σ (lock_var l) (fresh n.0) st.same sound.1 n.1) st.used.fits.adds), kept refl refl i)) f
      (head_is laws g W p q hold ready small annotated agents pending lines c es tr s full w tables table b st.thread (running path st.env body) st.seated.stands.thread (process.locks st.thread) (locked k.second ∷ [])
      (k.second, fx, one_within laws g W p q hold ready small annotated agents pending lines c es tr s full w tables table st.env σ (rules.lock_rule path (names st.env) m l) (lock_fact lock m) m st.same in_scope st.within (Member.later (Member.later Member.here)) (Member.later Member.here), refl))
      (ap (λ a. marks (a ∷ [])) k.is) (on_set laws g W p q hold ready small annotated agents pending lines c es tr s full w tables table st.thread (first_of path) wider u)

  pub in_case : (path : List ℕ) (v : List Var) (m : Tree) (u : Proc) → Here path v (act (action.input m) u) (rules.in_rule path v m)
  in_case path v m u at ks b σ left acts right rest fired =
      let body = act (action.input m) u in
      let st = sits path v body (λ z. rules.in_rule path z m) (in_fact m) (λ z. refl) at ks b σ left acts right rest fired in
      let k = one_form_of (equations g) (input_fact m).name (instance σ m) acts st.used.fits.shows in
      let waits = served acts k.form k.is st.demands.served in
      let entry = entry_waits laws g W p q hold ready small annotated agents pending lines c es tr s full w tables table k.form waits in
      let wider = widened st.env σ (tree_vars m) in
      let f = law laws g W p q hold ready small annotated agents pending lines c es tr s full w tables table _ laws.follows_in st.thread st.number st.other path st.env m k.form u σ left acts right rest st.seated.stands st.used k.is_form waits in
      input_written laws g W p q hold ready small annotated agents pending lines c es tr s full w tables table (rules.in_rule path v m).name ks (st.number ∷ st.other ∷ []) b st.numbers (goes_on agents st.thread path wider u) (waiting (come tables (st.thread ∷ [])) None) rest acts right (process.inputs st.thread σ) k.form entry.0 (becomes c st.thread (Some (under wider u))) entry.2 (IsWrittenAsProcess.inputs st.thread st.number st.other entry.0 path st.env b m σ u st.seated entry.1, λ fs i. (trades_two laws g W p q hold ready small annotated agents pending lines c es tr s full w tables table st (one_state laws g σ st.used.fits.messages (first_of path) wider right (wider_by_new laws st.env σ (tree_vars m) st.same) st.used.fits.adds), kept refl refl i)) f
      (head_is laws g W p q hold ready small annotated agents pending lines c es tr s full w tables table b st.thread (running path st.env body) st.seated.stands.thread (process.inputs st.thread σ) [] refl)
      (ap (λ a. marks (a ∷ [])) k.is) (on_set laws g W p q hold ready small annotated agents pending lines c es tr s full w tables table st.thread (first_of path) wider u)

  pub in_adv_case : (path : List ℕ) (v : List Var) (l r : Tree) (u : Proc) → Here path v (act (action.receive l r) u) (rules.in_adv_rule path v l r)
  in_adv_case path v l r u at ks b σ left acts right rest fired =
      let body = act (action.receive l r) u in
      let pair = app2 pair_name l r in
      let st = sits path v body (λ z. rules.in_adv_rule path z l r) (in_fact pair) (λ z. refl) at ks b σ left acts right rest fired in
      let in_scope = (sound_at laws g W p q hold ready small annotated agents pending lines c es tr s full w tables table path st.env body st.at).0 in
      let k = one_form_of (equations g) (input_fact pair).name (instance σ pair) acts st.used.fits.shows in
      let waits = served acts k.form k.is st.demands.served in
      let entry = entry_waits laws g W p q hold ready small annotated agents pending lines c es tr s full w tables table k.form waits in
      let wider = widened st.env σ (tree_vars r) in
      let rule = rules.in_adv_rule path (names st.env) l r in
      let both = rule_term_within g W σ rule pair st.within (rule_fact rule (in_fact pair) pair (Member.later Member.here) Member.here) in
      let channel : EvaluateWithin g W (instance σ l ∷ []) = λ n i. both n (left_part (instance σ l) (instance σ r) i) in
      let f = law laws g W p q hold ready small annotated agents pending lines c es tr s full w tables table _ laws.follows_in_adv st.thread st.number st.other path st.env l r k.form u σ left acts right rest st.seated.stands st.used k.is_form waits in
      input_written laws g W p q hold ready small annotated agents pending lines c es tr s full w tables table (rules.in_adv_rule path v l r).name ks (st.number ∷ st.other ∷ []) b st.numbers (goes_on agents st.thread path wider u) (waiting (come tables (st.thread ∷ [])) None) rest acts right (process.inputs_on st.thread σ) k.form entry.0 (becomes c st.thread (Some (under wider u))) entry.2 (IsWrittenAsProcess.inputs_on st.thread st.number st.other entry.0 path st.env b l r σ u st.seated entry.1, λ fs i. (trades_two laws g W p q hold ready small annotated agents pending lines c es tr s full w tables table st (one_state laws g σ st.used.fits.messages (first_of path) wider right (wider_by_new laws st.env σ (tree_vars r) st.same) st.used.fits.adds), kept refl refl i)) f
      (head_is laws g W p q hold ready small annotated agents pending lines c es tr s full w tables table b st.thread (running path st.env body) st.seated.stands.thread (process.inputs_on st.thread σ) []
      (subst (λ t. EvaluateWithin g W (t ∷ [])) (Rattle.sap_back.proofs.Seats.term_is laws st.env σ l st.same in_scope) channel, refl))
      (ap (λ a. marks (a ∷ [])) k.is) (on_set laws g W p q hold ready small annotated agents pending lines c es tr s full w tables table st.thread (first_of path) wider u)
    where
      left_part : {P : Tree → Type 0} (t o : Tree) → Rattle.sap_terms.specs.Subterms.SomeSubtermWithin P (Rattle.sap_terms.specs.Tree.trees_of (t ∷ [])) → Rattle.sap_terms.specs.Subterms.SomeSubtermWithin P (Rattle.sap_terms.specs.Tree.trees_of (app2 pair_name t o ∷ []))
      left_part t o (Rattle.sap_terms.specs.Subterms.here i) = Rattle.sap_terms.specs.Subterms.here (Rattle.sap_terms.specs.Subterms.below (Rattle.sap_terms.specs.Subterms.here i))
      left_part t o (Rattle.sap_terms.specs.Subterms.later i) = elim i [ ]

  pub out_adv_case : (path : List ℕ) (v : List Var) (m n : Tree) (u : Proc) → Here path v (act (action.send m n) u) (rules.out_adv_rule path v m n)
  out_adv_case path v m n u at ks b σ left acts right rest fired =
      let body = act (action.send m n) u in
      let st = sits path v body (λ z. rules.out_adv_rule path z m n) (in_fact m) (λ z. refl) at ks b σ left acts right rest fired in
      let in_scope = sound_at laws g W p q hold ready small annotated agents pending lines c es tr s full w tables table path st.env body st.at in
      let k = one_form_of (equations g) (input_fact m).name (instance σ m) acts st.used.fits.shows in
      let waits = served acts k.form k.is st.demands.served in
      let entry = entry_waits laws g W p q hold ready small annotated agents pending lines c es tr s full w tables table k.form waits in
      let fx = form_is laws g W p q hold ready small annotated agents pending lines c es tr s full w tables table st.env σ m k.form st.same in_scope.0 k.is_form in
      let sent = out_then_state laws g σ st.used.fits.messages n (first_of path) st.env right st.same st.used.fits.adds in
      let fy = form_is laws g W p q hold ready small annotated agents pending lines c es tr s full w tables table st.env σ n sent.0 st.same in_scope.1 sent.1 in
      let rule = rules.out_adv_rule path (names st.env) m n in
      let f = law laws g W p q hold ready small annotated agents pending lines c es tr s full w tables table _ laws.follows_out_adv st.thread st.number st.other path st.env m n k.form sent.0 u σ left acts right rest st.seated.stands st.used fx fy waits in
      input_written laws g W p q hold ready small annotated agents pending lines c es tr s full w tables table (rules.out_adv_rule path v m n).name ks (st.number ∷ st.other ∷ []) b st.numbers (goes_on agents st.thread path st.env u) (waiting (with_known (come tables (tables.known ∷ st.thread ∷ []))) None) rest acts right (process.outputs_on st.thread) k.form entry.0 (sends_out (becomes c st.thread (Some (under st.env u))) sent.0) entry.2 (IsWrittenAsProcess.outputs_on st.thread st.number st.other entry.0 path st.env b m n u st.seated entry.1, λ fs i. (sent.0, trades_two laws g W p q hold ready small annotated agents pending lines c es tr s full w tables table st sent.2, got sent.0 refl refl i)) f
      (head_is laws g W p q hold ready small annotated agents pending lines c es tr s full w tables table b st.thread (running path st.env body) st.seated.stands.thread (process.outputs_on st.thread) [] (
        within_join g W (term_under st.env m) (term_under st.env n ∷ [])
            (one_within laws g W p q hold ready small annotated agents pending lines c es tr s full w tables table st.env σ rule (in_fact m) m st.same in_scope.0 st.within (Member.later Member.here) Member.here)
            (one_within laws g W p q hold ready small annotated agents pending lines c es tr s full w tables table st.env σ rule (out_fact n) n st.same in_scope.1 st.within (Member.later (Member.later (Member.later Member.here))) Member.here),
        refl,
      ))
      (ap (λ a. marks (a ∷ [])) k.is) (on_set laws g W p q hold ready small annotated agents pending lines c es tr s full w tables table st.thread (first_of path) st.env u)

  -- a message under way: the process stays
  pub out_msg_case : (path : List ℕ) (v : List Var) (m n : Tree) (u : Proc) → Here path v (act (action.send m n) u) (rules.out_msg_rule path v m n)
  out_msg_case path v m n u at ks b σ left acts right rest fired =
      let body = act (action.send m n) u in
      let st = sits path v body (λ z. rules.out_msg_rule path z m n) (fresh_fact (variable tag)) (λ z. refl) at ks b σ left acts right rest fired in
      let in_scope = sound_at laws g W p q hold ready small annotated agents pending lines c es tr s full w tables table path st.env body st.at in
      let rule = rules.out_msg_rule path (names st.env) m n in
      let x = laws.each_form (equations g) (term_under st.env m) in
      let y = laws.each_form (equations g) (term_under st.env n) in
      let k = a_name g (σ tag) (st.used.fits.messages tag) in
      let both = two_within laws g W p q hold ready small annotated agents pending lines c es tr s full w tables table st.env σ rule (msg_fact (variable tag) m n) m n st.same in_scope.0 in_scope.1 st.within (Member.later (Member.later Member.here)) (Member.later Member.here) (Member.later (Member.later Member.here)) in
      let f = law laws g W p q hold ready small annotated agents pending lines c es tr s full w tables table _ laws.follows_out_msg st.thread st.number st.other k.0 path st.env m n x.0 y.0 u σ left acts right rest st.seated.stands st.used x.1 y.1 k.1 in
      let waits = awaiting path st.env m n x.0 y.0 u k.0 in
      none_written laws g W p q hold ready small annotated agents pending lines c es tr s full w tables table (rules.out_msg_rule path v m n).name ks (st.number ∷ st.other ∷ []) b st.numbers (slice_set agents st.thread (Some waits)) (come tables (st.thread ∷ st.thread ∷ [])) rest acts right (IsWrittenAsProcess.sends st.thread st.number st.other k.0 path st.env b m n x.0 y.0 u st.seated x.1 y.1, λ fs i. (trades_two laws g W p q hold ready small annotated agents pending lines c es tr s full w tables table st (message_waits laws g σ st.used.fits.messages m n (fresh k.0) x.0 y.0 path st.env right k.1 (instance_form st.env σ m x.0 st.same in_scope.0 x.1) (instance_form st.env σ n y.0 st.same in_scope.1 y.1) st.same st.used.fits.adds), kept refl refl i)) f
      (ap (λ a. marks (a ∷ [])) (no_acts (equations g) acts st.used.fits.shows))
      (every-set (SentWithin g W) agents st.thread (Some waits) w.within (λ a e. subst (λ z. SentWithin g W z) (some_agent waits a e) both))
    where
      some_agent : (x y : Agent) → Some x ≡ Some y → x ≡ y
      some_agent x y e = cc

  -- two threads meet
  pub in_msg_case : (path : List ℕ) (v : List Var) (l r : Tree) (u : Proc) → Here path v (act (action.receive l r) u) (rules.in_msg_rule path v l r)
  in_msg_case path v l r u at ks b σ left acts right rest fired =
      let body = act (action.receive l r) u in
      let st = sits path v body (λ z. rules.in_msg_rule path z l r) (msg_fact (variable tag) l r) (λ z. refl) at ks b σ left acts right rest fired in
      let in_scope = (sound_at laws g W p q hold ready small annotated agents pending lines c es tr s full w tables table path st.env body st.at).0 in
      let rule = rules.in_msg_rule path (names st.env) l r in
      let args = three_args g (instance σ (variable tag)) (instance σ l) (instance σ r) st.fact st.equal in
      let there = st.is ∙ ap (λ z. Some (Some z)) args.is in
      let o = msg_owner agents args.tag_is args.channel args.sent (own laws g W q agents pending c tr s full w.together.related es tables table st.other (msg_fact args.tag_is args.channel args.sent) refl there) in
      let number_of : slice_get tables.facts st.other ≡ Some o.thread = (numbered laws g W q agents pending c tr s full w.together.related es tables table st.other (msg_fact args.tag_is args.channel args.sent) there).1 ∙ ap (λ i. Some i) (sym o.from) in
      let tag_is : σ tag ≡ fresh o.tag = normal_same laws.decide (equations g) (σ tag) (fresh o.tag) (st.used.fits.messages tag).normal (laws.leaves.of_fresh_name (equations g) o.tag) (subst (λ z. IsTheoryEqual (equations g) (σ tag) z) o.same args.equal) in
      let sender = awaiting o.path o.env o.m o.n args.channel args.sent o.body o.tag in
      let wider = widened st.env σ (tree_vars r) in
      let f = law laws g W p q hold ready small annotated agents pending lines c es tr s full w tables table _ laws.follows_in_msg o.thread st.thread st.number st.other o.tag o.path path o.env st.env o.m o.n args.channel args.sent l r o.body u σ left acts right rest o.is (there ∙ ap (λ z. Some (Some (msg_fact z args.channel args.sent))) o.same) st.seated.stands st.used in
      let sent : EvaluateWithin g W (term_under o.env o.m ∷ term_under o.env o.n ∷ []) = w.within o.thread sender o.is in
      let channel = one_within laws g W p q hold ready small annotated agents pending lines c es tr s full w tables table st.env σ rule (msg_fact (variable tag) l r) l st.same in_scope st.within (Member.later Member.here) (Member.later Member.here) in
      let all = three (term_under o.env o.m) (term_under o.env o.n) (term_under st.env l) sent channel in
      silent laws g W p q hold ready small annotated agents pending lines c es tr s full w tables table (rules.in_msg_rule path v l r).name ks (st.number ∷ st.other ∷ []) b st.numbers (goes_on (slice_set agents o.thread (Some (received o.path o.env o.m o.n o.body o.tag))) st.thread path wider u) (come tables (o.thread ∷ st.thread ∷ [])) rest acts right (process.meets o.thread st.thread σ) []
      (becomes (becomes c o.thread (Some (under o.env o.body))) st.thread (Some (under wider u))) (IsWrittenAsProcess.meets o.thread st.thread st.number st.other o.tag o.path path o.env st.env b o.m o.n args.channel args.sent l r σ o.body u o.is (there ∙ ap (λ z. Some (Some (msg_fact z args.channel args.sent))) o.same) number_of st.seated, λ fs i. (traded st.used.takes (st.lefts ∙ ap (λ z. state_fact path (values st.env) ∷ z ∷ []) (args.is ∙ ap (λ z. msg_fact z args.channel args.sent) o.same)) (ack_then_state laws g σ st.used.fits.messages (fresh o.tag) (first_of path) wider right tag_is (wider_by_new laws st.env σ (tree_vars r) st.same) st.used.fits.adds), kept refl refl i)) f (
        refl,
        λ m n a z i j one two. met (process_of sender) (process_of (running path st.env body)) (act (action.send m n) i) (act (action.receive a z) j)
            (runs_one c o.thread (process_of sender) (act (action.send m n) i) (agent_runs laws g W q agents pending c tr s full w.together.related es tables table o.thread sender o.is) one)
            (runs_one c st.thread (process_of (running path st.env body)) (act (action.receive a z) j) (agent_runs laws g W q agents pending c tr s full w.together.related es tables table st.thread (running path st.env body) st.seated.stands.thread) two) all,
      )
      (ap (λ a. marks (a ∷ [])) (no_acts (equations g) acts st.used.fits.shows))
      (every-set (SentWithin g W) (slice_set agents o.thread (Some (received o.path o.env o.m o.n o.body o.tag))) st.thread (Some (running (first_of path) wider u))
      (every-set (SentWithin g W) agents o.thread (Some (received o.path o.env o.m o.n o.body o.tag)) w.within (λ a e. let same : received o.path o.env o.m o.n o.body o.tag ≡ a = cc in subst (λ z. SentWithin g W z) same tt))
      (only_running g W (first_of path) wider u))
    where
      three : (t x y : Tree) → EvaluateWithin g W (t ∷ x ∷ []) → EvaluateWithin g W (y ∷ []) → EvaluateWithin g W (t ∷ x ∷ y ∷ [])
      three t x y h k n (Rattle.sap_terms.specs.Subterms.here i) = h n (Rattle.sap_terms.specs.Subterms.here i)
      three t x y h k n (Rattle.sap_terms.specs.Subterms.later (Rattle.sap_terms.specs.Subterms.here i)) = h n (Rattle.sap_terms.specs.Subterms.later (Rattle.sap_terms.specs.Subterms.here i))
      three t x y h k n (Rattle.sap_terms.specs.Subterms.later (Rattle.sap_terms.specs.Subterms.later i)) = k n i

      met : (a d x z : Proc) → a ≡ x → d ≡ z → MeetsWithin g W a d → MeetsWithin g W x z
      met a d x z e f h = subst (λ i. MeetsWithin g W x i) f (subst (λ i. MeetsWithin g W i d) e h)
