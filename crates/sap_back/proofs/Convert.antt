-- Each line of rules is followed by lines of the process, whichever it is; and so is each legal run whose full trace is admitted.
use Rattle.std.proofs.Common.{◌≡◌, ℕ, zero, suc, ◌<◌, ◌^◌, List, [], ◌∷◌, ◌++◌, Option, Some, None, refl, sym, ap, ◌∙◌, subst, arith, slice_get, map, length, inl, inr}
use Rattle.std.specs.Prelude.{Contains, All}
use Rattle.sap_terms.specs.Choice.{Choice}
use Rattle.sap_terms.specs.Piles.{Pile, adds}
use Rattle.sap_terms.specs.Signature.{Sig, HoldsBuiltins}
use Rattle.sap_terms.specs.Trace.{Trace}
use Rattle.sap_terms.specs.Tree.{Tree}
use Rattle.sap_terms.specs.declared.binding.Binding.{Binding}
use Rattle.sap_terms.specs.declared.fact.Fact.{Fact}
use Rattle.sap_terms.specs.declared.var.Var.{Var}
use Rattle.sap_terms.proofs.PlainLaws.Items.{cons_cases, item_cases, first_item, later_item, got_contained, contains_got}
use Rattle.sap_process.specs.Action as action
use Rattle.sap_process.specs.Action.{Action}
use Rattle.sap_process.specs.Configuration.{Config, initial}
use Rattle.sap_process.specs.Places.{place}
use Rattle.sap_process.specs.Proc as whole
use Rattle.sap_process.specs.Proc.{Proc, act, node_count}
use Rattle.sap_process.specs.Ready.{IsReady}
use Rattle.sap_locks.specs.Annotation.{IsAnnotation}
use Rattle.sap_restrict.specs.Standard.{IsAdmitted}
use Rattle.sap_rule.specs.RuleSteps.{RuleState, RuleStep, RuleRun, leaves}
use Rattle.sap_rule.specs.declared.rule.Rule.{Rule}
use Rattle.sap_runs.specs.Limits.{HasFewNodes}
use Rattle.sap_runs.specs.declared.process_step.PStep.{PStep}
use Rattle.sap_runs.specs.declared.rule_step.RStep.{RStep}
use Rattle.sap_runs.specs.declared.rule_step.RStep.TheVariants as rline
use Rattle.sap_lines.specs.Runs.{IsLegalProcessRun}
use Rattle.sap_steps.specs.Lines.{IsLine, IsRuleLine}
use Rattle.sap_steps.specs.Marks.{marks}
use Rattle.sap_steps.specs.Runs.{IsLegalRun}
use Rattle.sap_templates.specs.Places.{root, scoped_place_at}
use Rattle.sap_templates.specs.Templates as rules
use Rattle.sap_templates.specs.Templates.{rules_of, own_rules}
use Rattle.sap_translate.specs.relation.Agents.{Agent, unborn}
use Rattle.sap_translate.specs.relation.Followed.{IsFollowed}
use Rattle.sap_translate.specs.relation.Related.{Free}
use Rattle.sap_back.specs.Along.{IsAlong, SentWithin, BeginsAlong}
use Rattle.sap_back.specs.Followed.{EndsTabled, LinesAreFollowed, pending_lines}
use Rattle.sap_process_lines.specs.Tables.{ProcessTables, first_process_tables}
use Rattle.sap_back.specs.Tables.{AreProcessTables}
use Rattle.sap_back.proofs.Named.{found_among, found_named}
use Rattle.sap_back.specs.Opposite.{HasOppositeProcessRuns}
use Rattle.sap_back.proofs.Acknowledged.{out_ack_case, init_case}
use Rattle.sap_back.proofs.Advance.{length_push, pending_written}
use Rattle.sap_back.proofs.Adversary.{fresh_line, learn_line, own_line, public_line, apply_line, know_line}
use Rattle.sap_back.proofs.Cases as cases
use Rattle.sap_back.proofs.Cases.{law, Goes}
use Rattle.sap_back.proofs.Effects.{IsContinued}
use Rattle.sap_back.proofs.Embedded.{rule_case}
use Rattle.sap_back.proofs.Meets.{new_case, lock_case, in_case, in_adv_case, in_msg_case, out_adv_case, out_msg_case}
use Rattle.sap_back.proofs.Premises.{Laws}
use Rattle.sap_back.proofs.Seats.{Fired}
use Rattle.sap_back.proofs.Tabled.{begins_tabled, followed_tabled}

-- some lines of the process go along with the state of the rules, and have their tables
record GoesAlong (g : Sig) (W : Tree → Type 0) (start : Proc) (s : RuleState) (full : Trace) : Type 0 where
  agents : List (Option Agent)
  pending : Option Tree
  lines : List PStep
  config : Config
  entries : List Tree
  trace : Trace
  is : IsAlong g W start agents pending lines config entries trace s full
  tables : ProcessTables
  table : AreProcessTables agents pending config entries s tables

-- what holds of each that is contained holds of all
each_item : {A : Type 0} (P : A → Type 0) (xs : List A) → ((x : A) → Contains xs x → P x) → All P xs
each_item P [] h k d lt = absurd (omega arith)
each_item P (x ∷ xs) h zero d lt = h x (first_item x xs)
each_item P (x ∷ xs) h (suc k) d lt = each_item P xs (λ y m. h y (later_item x xs y m)) k d (omega arith)

-- one of two, or of three
one_of_two : {A : Type 0} (P : A → Type 0) (x y z : A) → P x → P y → Contains (x ∷ y ∷ []) z → P z
one_of_two P x y z a b m = elim (cons_cases x (y ∷ []) z m) [ inl e ↦ subst P e a | inr k ↦ subst P (item_cases y z k) b ]

one_of_three : {A : Type 0} (P : A → Type 0) (x y w z : A) → P x → P y → P w → Contains (x ∷ y ∷ w ∷ []) z → P z
one_of_three P x y w z a b d m = elim (cons_cases x (y ∷ w ∷ []) z m) [ inl e ↦ subst P e a | inr k ↦ one_of_two P y w z b d k ]

module _ (laws : Laws) (g : Sig) (p q : Proc) (hold : HoldsBuiltins g) (ready : IsReady g p) (small : node_count p < 2 ^ 64) (annotated : IsAnnotation p q) where
  module _ (agents : List (Option Agent)) (pending : Option Tree) (lines : List PStep) (c : Config) (es : List Tree) (tr : Trace) (s : RuleState) (full : Trace) (w : IsAlong g HasFewNodes q agents pending lines c es tr s full) (tables : ProcessTables) (table : AreProcessTables agents pending c es s tables) where
    -- lines go along with a use of the rule, whatever it takes
    abbrev Followable : Rule → Type 0
    Followable r = (ks : List ℕ) (b : List Binding) (σ : Choice) (left acts right : List Fact) (rest : Pile) → Fired g HasFewNodes s full r ks b σ left acts right rest → Goes laws g HasFewNodes p q hold ready small annotated agents pending lines c es tr s full w tables table r.name ks b rest acts right

    action_case : (path : List ℕ) (v : List Var) (a : Action) (u : Proc) → scoped_place_at (root q) path ≡ Some (place path v (act a u)) → (r : Rule) → Contains (own_rules path v (act a u)) r → Followable r
    action_case path v (action.new x) u at r m = subst Followable (item_cases (rules.new_rule path v x) r m) (new_case laws g HasFewNodes p q hold ready small annotated agents pending lines c es tr s full w tables table path v x u at)
    action_case path v (action.out t) u at r m = subst Followable (item_cases (rules.out_rule path v t) r m) (cases.out_case laws g HasFewNodes p q hold ready small annotated agents pending lines c es tr s full w tables table path v t u at)
    action_case path v (action.send t o) u at r m =
        one_of_three Followable (rules.out_adv_rule path v t o) (rules.out_msg_rule path v t o) (rules.out_ack_rule path v) r (out_adv_case laws g HasFewNodes p q hold ready small annotated agents pending lines c es tr s full w tables table path v t o u at)
        (out_msg_case laws g HasFewNodes p q hold ready small annotated agents pending lines c es tr s full w tables table path v t o u at) (out_ack_case laws g HasFewNodes p q hold ready small annotated agents pending lines c es tr s full w tables table path v t o u at) m
    action_case path v (action.input t) u at r m = subst Followable (item_cases (rules.in_rule path v t) r m) (in_case laws g HasFewNodes p q hold ready small annotated agents pending lines c es tr s full w tables table path v t u at)
    action_case path v (action.receive t o) u at r m =
        one_of_two Followable (rules.in_adv_rule path v t o) (rules.in_msg_rule path v t o) r (in_adv_case laws g HasFewNodes p q hold ready small annotated agents pending lines c es tr s full w tables table path v t o u at)
        (in_msg_case laws g HasFewNodes p q hold ready small annotated agents pending lines c es tr s full w tables table path v t o u at) m
    action_case path v (action.event f) u at r m = subst Followable (item_cases (rules.event_rule path v f) r m) (cases.event_case laws g HasFewNodes p q hold ready small annotated agents pending lines c es tr s full w tables table path v f u at)
    action_case path v (action.insert t o) u at r m = subst Followable (item_cases (rules.insert_rule path v t o) r m) (cases.insert_case laws g HasFewNodes p q hold ready small annotated agents pending lines c es tr s full w tables table path v t o u at)
    action_case path v (action.delete t) u at r m = subst Followable (item_cases (rules.delete_rule path v t) r m) (cases.delete_case laws g HasFewNodes p q hold ready small annotated agents pending lines c es tr s full w tables table path v t u at)
    action_case path v (action.lock t l) u at r m = subst Followable (item_cases (rules.lock_rule path v t l) r m) (lock_case laws g HasFewNodes p q hold ready small annotated agents pending lines c es tr s full w tables table path v t l u at)
    action_case path v (action.unlock t l) u at r m = subst Followable (item_cases (rules.unlock_rule path v t l) r m) (cases.unlock_case laws g HasFewNodes p q hold ready small annotated agents pending lines c es tr s full w tables table path v t l u at)
    action_case path v (action.embedded l a o) u at r m = subst Followable (item_cases (rules.embedded_rule path v l a o) r m) (rule_case laws g HasFewNodes p q hold ready small annotated agents pending lines c es tr s full w tables table path v l a o u at)

    place_case : (path : List ℕ) (v : List Var) (b : Proc) → scoped_place_at (root q) path ≡ Some (place path v b) → (r : Rule) → Contains (own_rules path v b) r → Followable r
    place_case path v whole.nil at r m = subst Followable (item_cases (rules.nil_rule path v) r m) (cases.nil_case laws g HasFewNodes p q hold ready small annotated agents pending lines c es tr s full w tables table path v at)
    place_case path v (whole.parallel u o) at r m = subst Followable (item_cases (rules.parallel_rule path v) r m) (cases.parallel_case laws g HasFewNodes p q hold ready small annotated agents pending lines c es tr s full w tables table path v u o at)
    place_case path v (whole.replicated u) at r m =
        one_of_two Followable (rules.rep_start_rule path v) (rules.rep_copy_rule path v) r (cases.rep_start_case laws g HasFewNodes p q hold ready small annotated agents pending lines c es tr s full w tables table path v u at)
        (cases.rep_copy_case laws g HasFewNodes p q hold ready small annotated agents pending lines c es tr s full w tables table path v u at) m
    place_case path v (act a u) at r m = action_case path v a u at r m
    place_case path v (whole.test t y u o) at r m =
        one_of_two Followable (rules.then_rule path v t y) (rules.else_rule path v t y) r (cases.then_case laws g HasFewNodes p q hold ready small annotated agents pending lines c es tr s full w tables table path v t y u o at)
        (cases.else_case laws g HasFewNodes p q hold ready small annotated agents pending lines c es tr s full w tables table path v t y u o at) m
    place_case path v (whole.lookup t x u o) at r m =
        one_of_two Followable (rules.found_rule path v t x) (rules.missing_rule path v t) r (cases.found_case laws g HasFewNodes p q hold ready small annotated agents pending lines c es tr s full w tables table path v t x u o at)
        (cases.missing_case laws g HasFewNodes p q hold ready small annotated agents pending lines c es tr s full w tables table path v t x u o at) m

    followable : (r : Rule) → Contains (rules_of q) r → Followable r
    followable r m = elim (laws.origin q r m) [
      | inl e ↦ subst Followable (sym e) (init_case laws g HasFewNodes p q hold ready small annotated agents pending lines c es tr s full w tables table)
      | inr o ↦ place_case o.path o.scope o.body o.stands r o.own
    ]

    -- a line of a rule
    rule_line : (name ks : List ℕ) (b : List Binding) (acts : List Fact) (z : RuleState) → IsRuleLine g (rules_of q) HasFewNodes s name ks b acts z → RuleStep g (rules_of q) s acts z → IsAdmitted g (full ++ acts ∷ []) → IsContinued g HasFewNodes q agents pending lines c es s full tables (rline.Rule name ks b) z acts
    rule_line name ks b acts z l step admitted =
        let f : IsFollowed g q z (full ++ acts ∷ []) = law laws g HasFewNodes p q hold ready small annotated agents pending lines c es tr s full w tables table _ laws.follows_every acts z step admitted in
        let once = f.together.related.init in
        subst (λ y. IsContinued g HasFewNodes q agents pending lines c es s full tables (rline.Rule name ks b) y acts) (sym l.becomes) (subst (λ y. IsContinued g HasFewNodes q agents pending lines c es s full tables (rline.Rule y ks b) (leaves s (adds l.rest l.right)) acts) (found_named (rules_of q) name l.rule l.named)
        (followable l.rule (found_among (rules_of q) name l.rule l.named) ks b l.fires.choice l.left acts l.right l.rest
        (record {
          used = record { takes = l.takes; fits = l.fires.use_; admitted = admitted };
          binds = l.fires.binds;
          within = l.fires.within;
          demands = f.together.related.traces.demands;
          once = omega arith;
        })))

    all_known : (known ts : List Tree) (ks : List ℕ) → map (slice_get known) ks ≡ map (λ x. Some x) ts → (x : Tree) → Contains ts x → Contains known x
    all_known known [] ks e x m = absurd (let k = (got_contained [] x m).1 in cc)
    all_known known (t ∷ ts) [] e x m = absurd (cc)
    all_known known (t ∷ ts) (k ∷ ks) e x m = elim (cons_cases t ts x m) [
      | inl i ↦ subst (λ z. Contains known z) i (contains_got known t k (let h : slice_get known k ≡ Some t = cc in h))
      | inr j ↦ all_known known ts ks (let h : map (slice_get known) ks ≡ map (λ y. Some y) ts = cc in h) x j
    ]

    lengths : (known ts : List Tree) (ks : List ℕ) → map (slice_get known) ks ≡ map (λ x. Some x) ts → length ks ≡ length ts
    lengths known [] [] e = refl
    lengths known [] (k ∷ ks) e = absurd (cc)
    lengths known (t ∷ ts) [] e = absurd (cc)
    lengths known (t ∷ ts) (k ∷ ks) e = ap suc (lengths known ts ks (let h : map (slice_get known) ks ≡ map (λ y. Some y) ts = cc in h))

    -- what a line without acts leads to
    quietly : (l : RStep) (acts : List Fact) (z y : RuleState) → acts ≡ [] → z ≡ y → IsContinued g HasFewNodes q agents pending lines c es s full tables l y [] → IsContinued g HasFewNodes q agents pending lines c es s full tables l z acts
    quietly l acts z y e f h = subst (λ a. IsContinued g HasFewNodes q agents pending lines c es s full tables l z a) (sym e) (subst (λ x. IsContinued g HasFewNodes q agents pending lines c es s full tables l x []) (sym f) h)

    -- any line
    pub any_line : (l : RStep) (acts : List Fact) (z : RuleState) → IsLine g (rules_of q) HasFewNodes s l acts z → IsAdmitted g (full ++ acts ∷ []) → IsContinued g HasFewNodes q agents pending lines c es s full tables l z acts
    any_line (rline.Fresh n) acts z h admitted = quietly (rline.Fresh n) acts z _ h.silent h.becomes (fresh_line laws g HasFewNodes p q hold ready small annotated agents pending lines c es tr s full w tables table n h.new)
    any_line (rline.Learn k) acts z (t, h) admitted = quietly (rline.Learn k) acts z _ h.silent h.becomes (learn_line laws g HasFewNodes p q hold ready small annotated agents pending lines c es tr s full w tables table k t h.rest h.takes)
    any_line (rline.Own k) acts z (n, h) admitted = quietly (rline.Own k) acts z _ h.silent h.becomes (own_line laws g HasFewNodes p q hold ready small annotated agents pending lines c es tr s full w tables table k n h.rest h.takes)
    any_line (rline.Public a) acts z h admitted = quietly (rline.Public a) acts z _ h.0 h.1 (public_line laws g HasFewNodes p q hold ready small annotated agents pending lines c es tr s full w tables table a)
    any_line (rline.Apply f ks) acts z h admitted =
        let all = all_known s.known h.terms ks h.entries in
        quietly (rline.Apply f ks) acts z _ h.silent h.becomes (apply_line laws g HasFewNodes p q hold ready small annotated agents pending lines c es tr s full w tables table f ks h.terms h.form h.entries h.public_symbol (h.arity ∙ ap (λ i. Some i) (lengths s.known h.terms ks h.entries)) (each_item (Contains s.known) h.terms all) h.is_form h.within)
    any_line (rline.Know k) acts z h admitted =
        subst (λ a. IsContinued g HasFewNodes q agents pending lines c es s full tables (rline.Know k) z a) (sym h.shows) (subst (λ x. IsContinued g HasFewNodes q agents pending lines c es s full tables (rline.Know k) x (Rattle.sap_terms.specs.AdversaryFacts.k_fact h.term ∷ [])) (sym h.becomes)
        (know_line laws g HasFewNodes p q hold ready small annotated agents pending lines c es tr s full w tables table k h.term h.entry (contains_got s.known h.term k h.entry)))
    any_line (rline.Rule name ks b) acts z h admitted = rule_line name ks b acts z h (laws.steps g (rules_of q) s z acts (rline.Rule name ks b) h) admitted

  -- before the first line
  pub begins_along : BeginsAlong g q
  begins_along = record {
    legal = IsLegalProcessRun.starts;
    together = laws.begins g p q ready small annotated;
    waits = λ x f. absurd (nothing x f);
    sent = λ x m. m;
    known = λ x m. m;
    given = λ x e. absurd (cc);
    within = λ t a e. first t a e;
    short = omega arith;
  }
    where
      nothing : (x : Tree) → Free [] x → ⊥
      nothing x f = let e = f.known.1 in cc

      first : (t : ℕ) (a : Agent) → slice_get (Some (unborn q) ∷ []) t ≡ Some (Some a) → SentWithin g HasFewNodes a
      first zero a e = let same : unborn q ≡ a = cc in subst (λ z. SentWithin g HasFewNodes z) same tt
      first (suc t) a e = absurd (cc)

  pub lines_followed : LinesAreFollowed g q
  lines_followed agents pending lines c es tr s z full tables step acts w table is admitted = followed_tabled g HasFewNodes q agents pending lines c es s full tables step z acts table (any_line agents pending lines c es tr s full w tables table step acts z is admitted)

  pub ends_tabled : EndsTabled g q
  ends_tabled agents pending lines c es tr s full tables w waits =
      let b = pending_written g HasFewNodes q agents pending tables.pending lines c es tr s full waits w in
      subst (λ t. IsLegalProcessRun g HasFewNodes q (lines ++ pending_lines tables.pending) c es t (marks full)) (sym w.together.related.traces.shows) b.legal

  -- what counts, counts before its last time
  admitted_before : (s : RuleState) (full : Trace) (acts : List Fact) → RuleRun g (rules_of q) s (full ++ acts ∷ []) → IsAdmitted g (full ++ acts ∷ []) → IsAdmitted g full
  admitted_before s full acts run h which = laws.prefix which g full (acts ∷ []) (laws.messages g q (full ++ acts ∷ []) hold (laws.over g p q ready annotated) (s, run)) (h which)

  along : (rule_lines : List RStep) (s : RuleState) (full : Trace) → IsLegalRun g (rules_of q) HasFewNodes rule_lines s full → IsAdmitted g full → GoesAlong g HasFewNodes q s full
  along rule_lines s full IsLegalRun.starts h = record { agents = Some (unborn q) ∷ []; pending = None; lines = []; config = initial q; entries = []; trace = []; is = begins_along; tables = first_process_tables; table = begins_tabled q }
  along rule_lines s full (IsLegalRun.further {lines = before} {s = y} {full = seen} l acts run is) h =
      let a = along before y seen run (admitted_before s seen acts (laws.runs g (rules_of q) (before ++ l ∷ []) s (seen ++ acts ∷ []) (IsLegalRun.further l acts run is)) h) in
      let f = lines_followed a.agents a.pending a.lines a.config a.entries a.trace y s seen a.tables l acts a.is a.table is h in
      record { agents = f.next; pending = f.later; lines = a.lines ++ f.more; config = f.config; entries = f.entries; trace = f.trace; is = f.is; tables = f.behind; table = f.tabled }

  -- each line shows one time
  one_each : (rule_lines : List RStep) (s : RuleState) (full : Trace) → IsLegalRun g (rules_of q) HasFewNodes rule_lines s full → length full ≡ length rule_lines
  one_each rule_lines s full IsLegalRun.starts = refl
  one_each rule_lines s full (IsLegalRun.further {lines = before} {s = y} {full = seen} l acts run is) =
      let e = one_each before y seen run in
      let a = length_push before l in
      let b = length_push seen acts in
      omega arith

  pub have_opposites : HasOppositeProcessRuns g q
  have_opposites rule_lines s full legal admitted =
      let a = along rule_lines s full legal admitted in
      let b = pending_written g HasFewNodes q a.agents a.pending a.tables.pending a.lines a.config a.entries a.trace s full a.table.waits a.is in
      let shows = a.is.together.related.traces.shows in (
        a.lines ++ pending_lines a.tables.pending,
        record {
          config = a.config;
          entries = a.entries;
          legal = subst (λ t. IsLegalProcessRun g HasFewNodes q (a.lines ++ pending_lines a.tables.pending) a.config a.entries t (marks full)) (sym shows) b.legal;
          known = b.known;
          short = let h = b.short in let n = one_each rule_lines s full legal in omega arith;
        },
      )
