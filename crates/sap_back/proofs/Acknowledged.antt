-- A line of rules where a sender's tag is acknowledged, and the line that starts.
use Rattle.std.proofs.Common.{◌≡◌, ℕ, ◌<◌, ◌^◌, List, [], ◌∷◌, ◌++◌, Option, Some, None, refl, sym, ap, ◌∙◌, subst, arith, slice_get, slice_set, map, false}
use Rattle.std.specs.List.{AllZip}
use Rattle.sap_terms.specs.Choice.{Choice, instance}
use Rattle.sap_terms.specs.Equal.{IsTheoryEqual}
use Rattle.sap_terms.specs.Equations.{equations}
use Rattle.sap_terms.specs.Modulo.{instance_fact, instance_facts, IsEqualFact, AreEqualFacts}
use Rattle.sap_terms.specs.Piles.{Pile, Takes, used}
use Rattle.sap_terms.specs.Signature.{Sig, HoldsBuiltins}
use Rattle.sap_terms.specs.Trace.{Trace}
use Rattle.sap_terms.specs.Tree.{Tree, fresh, variable}
use Rattle.sap_terms.specs.declared.binding.Binding.{Binding}
use Rattle.sap_terms.specs.declared.fact.Fact.{Fact}
use Rattle.sap_terms.specs.declared.var.Var.{Var}
use Rattle.sap_process.specs.Action as action
use Rattle.sap_process.specs.Configuration.{Config}
use Rattle.sap_process.specs.Proc.{Proc, act, node_count}
use Rattle.sap_process.specs.Ready.{IsReady}
use Rattle.sap_locks.specs.Annotation.{IsAnnotation}
use Rattle.sap_place.specs.StateFacts.{waits_fact, tag}
use Rattle.sap_restrict.specs.ReservedFacts.{init_fact}
use Rattle.sap_rule.specs.RuleSteps.{RuleState}
use Rattle.sap_runs.specs.declared.process_step.PStep.{PStep}
use Rattle.sap_steps.specs.Marks.{marks}
use Rattle.sap_templates.specs.ChannelFacts.{ack_fact}
use Rattle.sap_templates.specs.Places.{ScopedPlace}
use Rattle.sap_templates.specs.Templates as rules
use Rattle.sap_templates.specs.Templates.{first_of}
use Rattle.sap_translate.specs.relation.Agents.{Agent, unborn, running, copying, awaiting, received, is_unborn}
use Rattle.sap_translate.specs.relation.Answers.{goes_on}
use Rattle.sap_translate.specs.relation.Counts.{has_init}
use Rattle.sap_translate.specs.relation.Envs.{names, no_env, values}
use Rattle.sap_translate.specs.relation.Followed.{IsUsed}
use Rattle.sap_translate.specs.relation.Totals.{total}
use Rattle.sap_back.specs.Along.{IsAlong}
use Rattle.sap_back.specs.Followed.{IsWrittenAsProcess}
use Rattle.sap_process_lines.specs.Tables.{ProcessTables, come}
use Rattle.sap_back.specs.Tables.{AreProcessTables}
use Rattle.sap_back.proofs.Added.{one_state}
use Rattle.sap_back.proofs.Cases.{law, Goes, Case, on_set, none_written}
use Rattle.sap_back.proofs.Effects.{kept, traded}
use Rattle.sap_back.proofs.Premises.{Laws}
use Rattle.sap_back.proofs.Seats.{numbered, own, Fired, head_of, none_left, equal_none, was_there, same_place, equal_linear}
use Rattle.sap_back.proofs.Terms.{no_acts, normal_same, SameOn, variables_same}
use Rattle.sap_translate.proofs.Shared.Facts.{made}
use Rattle.sap_translate.proofs.Shared.Owners.{ack_owner, sent_owner, handshake}
use Rattle.sap_translate.proofs.Shared.Totals.{total-append, total_found, Found}

-- the last of the arguments
record Last (g : Sig) (σ : Choice) (v : List Var) (ts : List Tree) : Type 0 where
  front : List Tree
  last : Tree
  is : ts ≡ front ++ last ∷ []
  equal : IsTheoryEqual (equations g) (σ tag) last
  fronts : AllZip (IsTheoryEqual (equations g)) (map (instance σ) (map variable v)) front

last_of : (g : Sig) (σ : Choice) (v : List Var) (ts : List Tree) → AllZip (IsTheoryEqual (equations g)) (map (instance σ) (map variable v ++ variable tag ∷ [])) ts → Last g σ v ts
last_of g σ [] [] h = absurd h
last_of g σ [] (t ∷ []) h = record { front = []; last = t; is = refl; equal = h.0; fronts = tt }
last_of g σ [] (t ∷ u ∷ ts) h = absurd h.1
last_of g σ (x ∷ v) [] h = absurd h
last_of g σ (x ∷ v) (t ∷ ts) h = let l = last_of g σ v ts h.1 in record { front = t ∷ l.front; last = l.last; is = ap (λ us. t ∷ us) l.is; equal = l.equal; fronts = (h.0, l.fronts) }

-- the tag that is acknowledged
record OnlyTag (g : Sig) (σ : Choice) (f : Fact) : Type 0 where
  name : Tree
  is : f ≡ ack_fact name
  equal : IsTheoryEqual (equations g) (σ tag) name

only_tag : (g : Sig) (σ : Choice) (f : Fact) → IsEqualFact (equations g) (instance_fact σ (ack_fact (variable tag))) f → OnlyTag g σ f
only_tag g σ f h = by f.args refl h.args
  where
    by : (ts : List Tree) → f.args ≡ ts → AllZip (IsTheoryEqual (equations g)) (σ tag ∷ []) ts → OnlyTag g σ f
    by [] e k = absurd k
    by (t ∷ []) e k = record { name = t; is = made f.name (ack_fact t).name f.persistent false f.args (t ∷ []) h.name h.persistent e; equal = k.0 }
    by (t ∷ u ∷ ts) e k = absurd k.1

unborn_of : (agents : List (Option Agent)) → Found is_unborn agents → (t : ℕ) × (body : Proc) × (slice_get agents t ≡ Some (Some (unborn body)))
unborn_of agents f = by f.item refl
  where
    no : (o : Option Agent) → f.item ≡ o → is_unborn o ≡ 0 → ⊥
    no o e z = let h = f.counts in let k : is_unborn f.item ≡ 0 = ap is_unborn e ∙ z in omega arith

    by : (o : Option Agent) → f.item ≡ o → (t : ℕ) × (body : Proc) × (slice_get agents t ≡ Some (Some (unborn body)))
    by None e = absurd (no None e refl)
    by (Some (unborn body)) e = (f.number, body, f.is ∙ ap (λ z. Some z) e)
    by (Some (running path env body)) e = absurd (no (Some (running path env body)) e refl)
    by (Some (copying path env body)) e = absurd (no (Some (copying path env body)) e refl)
    by (Some (awaiting path env m n x y body k)) e = absurd (no (Some (awaiting path env m n x y body k)) e refl)
    by (Some (received path env m n body k)) e = absurd (no (Some (received path env m n body k)) e refl)

module _ (laws : Laws) (g : Sig) (W : Tree → Type 0) (p q : Proc) (hold : HoldsBuiltins g) (ready : IsReady g p) (small : node_count p < 2 ^ 64) (annotated : IsAnnotation p q) (agents : List (Option Agent)) (pending : Option Tree) (lines : List PStep) (c : Config) (es : List Tree) (tr : Trace) (s : RuleState) (full : Trace) (w : IsAlong g W q agents pending lines c es tr s full) (tables : ProcessTables) (table : AreProcessTables agents pending c es s tables) where
  number_of : (k : ℕ) (f : Fact) (e : slice_get s.facts k ≡ Some (Some f)) {t : ℕ} → t ≡ (numbered laws g W q agents pending c tr s full w.together.related es tables table k f e).0 → slice_get tables.facts k ≡ Some t
  number_of k f e from = (numbered laws g W q agents pending c tr s full w.together.related es tables table k f e).1 ∙ ap (λ i. Some i) (sym from)

  -- a sender goes on
  pub out_ack_case : (path : List ℕ) (v : List Var) (m n : Tree) (u : Proc) → Case laws g W p q hold ready small annotated agents pending lines c es tr s full w tables table path v (act (action.send m n) u) (rules.out_ack_rule path v)
  out_ack_case path v m n u at ks b σ left acts right rest fired = by left refl fired.used.fits.takes fired.used.takes
    where
      GoesOn : Type 0
      GoesOn = Goes laws g W p q hold ready small annotated agents pending lines c es tr s full w tables table (rules.out_ack_rule path v).name ks b rest acts right

      by : (fs : List Fact) → left ≡ fs → AreEqualFacts (equations g) (instance_facts σ (rules.out_ack_rule path v).left) fs → Takes s.facts ks fs rest → GoesOn
      by [] is h takes = absurd h
      by (f ∷ []) is h takes = absurd h.1
      by (f ∷ o ∷ x ∷ fs) is h takes = absurd h.1.1
      by (f ∷ o ∷ []) is h takes =
          let l = last_of g σ v f.args h.0.args in
          let name = (waits_fact path []).name in
          let waits : f ≡ waits_fact path (l.front ++ l.last ∷ []) = equal_linear g name (map (instance σ) (map variable v ++ variable tag ∷ [])) f h.0 ∙ ap (waits_fact path) l.is in
          let ack = only_tag g σ o h.1.0 in
          let first = head_of takes in
          let second = head_of (subst (λ z. Takes (used s.facts first.number z) first.others (o ∷ []) rest) waits first.takes) in
          let others : second.others ≡ [] = none_left second.takes in
          let at_first = first.is ∙ ap (λ z. Some (Some z)) waits in
          let at_second = was_there s.facts first.number second.number o second.is ∙ ap (λ z. Some (Some z)) ack.is in
          let r = w.together.related in
          let sender = sent_owner agents path l.last l.front (own laws g W q agents pending c tr s full r es tables table first.number (waits_fact path (l.front ++ l.last ∷ [])) refl at_first) in
          let known = ack_owner agents ack.name (own laws g W q agents pending c tr s full r es tables table second.number (ack_fact ack.name) refl at_second) in
          let normal = (fired.used.fits.messages tag).normal in
          let e = equations g in
          let one : σ tag ≡ fresh sender.tag = normal_same laws.decide e (σ tag) (fresh sender.tag) normal (laws.leaves.of_fresh_name e sender.tag) (subst (λ z. IsTheoryEqual e (σ tag) z) sender.same l.equal) in
          let two : σ tag ≡ fresh known.tag = normal_same laws.decide e (σ tag) (fresh known.tag) normal (laws.leaves.of_fresh_name e known.tag) (subst (λ z. IsTheoryEqual e (σ tag) z) known.same ack.equal) in
          let tags : l.last ≡ ack.name = sender.same ∙ sym one ∙ two ∙ sym known.same in
          let there : slice_get s.facts first.number ≡ Some (Some (waits_fact path (l.front ++ ack.name ∷ []))) = at_first ∙ ap (λ z. Some (Some (waits_fact path (l.front ++ z ∷ [])))) tags in
          let hs = handshake agents c s first.number second.number path ack.name l.front (own laws g W q agents pending c tr s full r es tables table) r.names there at_second in
          let here = r.placed hs.thread (received path hs.env hs.m hs.n hs.body hs.tag) hs.is in
          let scope : names hs.env ≡ v = ap (λ (z : ScopedPlace). z.above) (same_place _ _ (sym here.0 ∙ at)) in
          let numbers = first.numbers ∙ ap (λ js. first.number ∷ js) (second.numbers ∙ ap (λ js. second.number ∷ js) others) in
          let used_there : IsUsed g s full (rules.out_ack_rule path (names hs.env)) (first.number ∷ second.number ∷ []) σ left acts right rest =
          subst (λ x. IsUsed g s full (rules.out_ack_rule path x) (first.number ∷ second.number ∷ []) σ left acts right rest) (sym scope)
          (subst (λ js. IsUsed g s full (rules.out_ack_rule path v) js σ left acts right rest) (first.numbers ∙ ap (λ js. first.number ∷ js) (second.numbers ∙ ap (λ js. second.number ∷ js) others)) fired.used) in
          let stands = at_first ∙ (λ i. Some (Some (waits_fact path (hs.bound i ++ (tags ∙ hs.same) i ∷ [])))) in
          let lefts : left ≡ waits_fact path (values hs.env ++ fresh hs.tag ∷ []) ∷ ack_fact (fresh hs.tag) ∷ [] = is ∙ (λ i. (waits ∙ (λ j. waits_fact path (hs.bound j ++ (tags ∙ hs.same) j ∷ []))) i ∷ (ack.is ∙ ap ack_fact hs.same) i ∷ []) in
          let same : SameOn (names hs.env) σ hs.env.choice = variables_same laws.decide e (names hs.env) σ hs.env.choice (λ x. (fired.used.fits.messages x).normal) (λ x m. (here.1.messages x m).normal)
          (subst (λ ts. AllZip (IsTheoryEqual e) (map (instance σ) (map variable (names hs.env))) ts) hs.bound (subst (λ z. AllZip (IsTheoryEqual e) (map (instance σ) (map variable z)) l.front) (sym scope) l.fronts)) in
          let f = law laws g W p q hold ready small annotated agents pending lines c es tr s full w tables table _ laws.follows_out_ack hs.thread first.number second.number hs.tag path hs.env hs.m hs.n hs.body σ left acts right rest hs.is stands used_there in
          none_written laws g W p q hold ready small annotated agents pending lines c es tr s full w tables table (rules.out_ack_rule path v).name ks (first.number ∷ second.number ∷ []) b numbers (goes_on agents hs.thread path hs.env hs.body) (come tables (hs.thread ∷ [])) rest acts right (IsWrittenAsProcess.goes_on hs.thread first.number second.number hs.tag path hs.env b hs.m hs.n hs.body hs.is stands (number_of first.number (waits_fact path (l.front ++ ack.name ∷ [])) there hs.from), λ gs i. (traded used_there.takes lefts (one_state laws g σ fired.used.fits.messages (first_of path) hs.env right same used_there.fits.adds), number_of second.number (ack_fact ack.name) at_second hs.also, kept refl refl i)) f
          (ap (λ a. marks (a ∷ [])) (no_acts (equations g) acts fired.used.fits.shows)) (on_set laws g W p q hold ready small annotated agents pending lines c es tr s full w tables table hs.thread (first_of path) hs.env hs.body)

  -- the rules start
  pub init_case : (ks : List ℕ) (b : List Binding) (σ : Choice) (left acts right : List Fact) (rest : Pile) → Fired g W s full rules.init_rule ks b σ left acts right rest → Goes laws g W p q hold ready small annotated agents pending lines c es tr s full w tables table rules.init_rule.name ks b rest acts right
  init_case ks b σ left acts right rest fired =
      let shows = init_acts acts fired.used.fits.shows in
      let once = fired.once in
      let joined = total-append has_init full (acts ∷ []) in
      let one : total has_init (acts ∷ []) ≡ 1 = ap (λ a. total has_init (a ∷ [])) shows in
      let before = w.together.related.init in
      let there = unborn_of agents (total_found is_unborn agents (omega arith)) in
      let left_none = equal_none g left fired.used.fits.takes in
      let numbers : ks ≡ [] = none_left (subst (λ fs. Takes s.facts ks fs rest) left_none fired.used.takes) in
      let f = law laws g W p q hold ready small annotated agents pending lines c es tr s full w tables table _ laws.follows_init there.0 there.1 σ left acts right rest there.2 (subst (λ js. IsUsed g s full rules.init_rule js σ left acts right rest) numbers fired.used) in
      none_written laws g W p q hold ready small annotated agents pending lines c es tr s full w tables table rules.init_rule.name ks [] b numbers (slice_set agents there.0 (Some (running [] no_env there.1))) (come tables (there.0 ∷ [])) rest acts right (IsWrittenAsProcess.starts there.0 there.1 b there.2 (table.unborn there.0 there.1 there.2), λ fs i. (traded (subst (λ js. Takes s.facts js left rest) numbers fired.used.takes) left_none (one_state laws g σ fired.used.fits.messages [] no_env right (λ x m. elim m [ ]) fired.used.fits.adds), kept refl refl i)) f
      (ap (λ a. marks (a ∷ [])) shows) (on_set laws g W p q hold ready small annotated agents pending lines c es tr s full w tables table there.0 [] no_env there.1)
    where
      init_acts : (fs : List Fact) → Rattle.sap_terms.specs.Modulo.AreFormsOfFacts (equations g) (init_fact ∷ []) fs → fs ≡ init_fact ∷ []
      init_acts [] h = absurd h
      init_acts (f ∷ []) h = ap (λ z. z ∷ []) (is_init f f.args refl h.0.args h.0.name h.0.persistent)
        where
          is_init : (a : Fact) (ts : List Tree) → a.args ≡ ts → AllZip (Rattle.sap_terms.specs.Normal.IsNormalForm (equations g)) [] ts → a.name ≡ init_fact.name → a.persistent ≡ false → a ≡ init_fact
          is_init a [] e k n o = made a.name init_fact.name a.persistent false a.args [] n o e
          is_init a (t ∷ ts) e k n o = absurd k
      init_acts (f ∷ x ∷ fs) h = absurd h.1
