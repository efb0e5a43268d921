-- The relation is kept by Lock and Unlock.
use Rattle.sap_translate.proofs.Premises.LowerLaws.{Laws, one_normal_form}
use Rattle.sap_restrict.specs.ReservedFacts.{lock_fact, unlock_fact}
use Rattle.sap_translate.specs.Members.{Member}
use Rattle.sap_translate.proofs.Terms.Choices.{put_more, good_just, just_free, good-append, join_new}
use Rattle.sap_translate.proofs.Traces.Demands.{other, demands_quiet, demands_lock, no_demand_one}
use Rattle.sap_translate.proofs.Shared.Facts.{eq_self}
use Rattle.sap_translate.proofs.Terms.Forms.{fresh_message}
use Rattle.sap_translate.proofs.Parts.Holders.{every_at_set, longer, among_others, Split, split_at, but_one, member_counts, closed_other}
use Rattle.sap_translate.proofs.Parts.Kept.{placed_set, cond_cond, state_no_out}
use Rattle.sap_translate.proofs.Parts.LockPart.{lock_step, unlock_step}
use Rattle.sap_translate.proofs.Shared.Lookups.{map-set, member_left, member_right}
use Rattle.sap_translate.proofs.Parts.Parts.{Grows, knowledge_kept, names_held, trace_both, spot_below}
use Rattle.sap_translate.proofs.Traces.Store.{no_write_one, store_quiet}
use Rattle.sap_translate.proofs.Terms.Substitution.{within_more, known-append, member_known}
use Rattle.sap_translate.proofs.Shared.Takings.{takes_total}
use Rattle.sap_translate.proofs.Shared.Totals.{total-set, total-append}
use Rattle.sap_translate.proofs.Terms.Unused.{instance_same_on}
use Rattle.sap_translate.specs.relation.Envs.{Env, names, chosen, values, just, join}
use Rattle.sap_translate.specs.Scoped.{IsFree, Within}
use Rattle.sap_templates.specs.ChannelFacts.{fresh_fact}
use Rattle.sap_translate.specs.relation.Totals.{total}
use Rattle.sap_translate.specs.relation.Locks.{Holder, LockPart}
use Rattle.sap_translate.specs.OpenLocks.{closed, IsUnusedIn}
use Rattle.sap_translate.specs.relation.Agents.{Agent, running, process_of, IsAt, is_unborn}
use Rattle.sap_translate.specs.relation.Counts.{count_live, count_owed, count_user, count_tag, count_name, count_holder, has_init}
use Rattle.sap_translate.specs.relation.Related.{Related, Holding, Covered}
use Rattle.sap_place.specs.StateFacts.{state_fact}
use Rattle.sap_templates.specs.Places.{root}
use Rattle.sap_process.specs.Places.{place}
use Rattle.sap_templates.specs.Templates.{first_of}
use Rattle.sap_process.specs.Scopes.{lock_var}
use Rattle.sap_process.specs.Configuration.{Config, becomes, holding, marked}
use Rattle.sap_process.specs.Instance.{process_instance}
use Rattle.sap_process.specs.Proc.{Proc, act}
use Rattle.sap_process.specs.ProcessSteps.{ProcessStep}
use Rattle.sap_rule.specs.RuleSteps.{RuleState}
use Rattle.sap_terms.specs.AdversaryFacts.{k_fact}
use Rattle.sap_terms.specs.Choice.{instance}
use Rattle.sap_terms.specs.Normal.{IsNormalForm}
use Rattle.sap_terms.specs.Piles.{Takes, adds}
use Rattle.sap_terms.specs.Signature.{Sig}
use Rattle.sap_terms.specs.Equations.{Equations, equations}
use Rattle.sap_terms.specs.Trace.{Trace}
use Rattle.std.specs.Str.{bytes_eq}
use Rattle.sap_process.specs.Sites.{var_names}
use Rattle.sap_terms.specs.Variables.{is_known}
use Rattle.sap_terms.specs.Tree.{variable, Tree, fresh}
use Rattle.sap_terms.specs.declared.fact.Fact.{Fact}
use Rattle.sap_terms.specs.declared.var.Var.{Var}
use Rattle.std.proofs.Common.{◌≡◌, ◌||◌, ℕ, ◌+◌, ◌==◌, List, [], ◌∷◌, ◌++◌, Option, Some, refl, sym, ap, ◌∙◌, arith, Bool, true, false, cond, slice_get, slice_set, subst, map}
use Rattle.std.specs.Option.{option_map}
use Rattle.sap_process.specs.Action as action

one_more : {A : Type 0} (a : A) (hs : List A) (P : A → Type 0) → P a → ((h : A) → Member h hs → P h) → (h : A) → Member h (a ∷ hs) → P h
one_more a hs P b all h Member.here = b
one_more a hs P b all h (Member.later m) = all h m

-- a variable that is new in scope changes no other
pub same_but : (env : Env) (x : Var) (t : Tree) (y : Var) → bytes_eq x.name y.name ≡ false → chosen (join env (just x t)) y ≡ chosen env y
same_but env x t y d = go (is_known (var_names env.scope) y.name) (is_known (var_names (env.scope ++ x ∷ [])) y.name) (known-append env.scope (x ∷ []) y ∙ ap (λ b. is_known (var_names env.scope) y.name || (b || false)) d)
  where
    go : (b c : Bool) → c ≡ (b || false) → cond c (cond b (env.choice y) t) (variable y) ≡ cond b (env.choice y) (variable y)
    go true c e = rw e refl
    go false c e = rw e refl

-- a lock: what is covered, with one more holder
lock_covers : (e : Equations) (hs : List Holder) (a : Holder) (env : Env) (path : List ℕ) (m : Tree) (l : ℕ) (n : ℕ) (p : Proc) (t : ℕ) → a.thread ≡ t → a.label ≡ l → a.name ≡ n → IsFree (lock_var l) (names env) → Within (names env) m → IsNormalForm e (instance (chosen env) m) a.term → Covered e hs t (running path env (act (action.lock m l) p)) → Covered e (a ∷ hs) t (running (first_of path) (join env (just (lock_var l) (fresh n))) p)
lock_covers e hs a env path m l n p t thread label name absent within form w =
    let τ : Env = just (lock_var l) (fresh n) in
    let new : Holding e (a ∷ hs) t (join env τ) l m = record {
      holder = a;
      among = Member.here;
      thread = thread;
      label = label;
      known = member_known (names (join env τ)) (lock_var l) (member_right env.scope Member.here);
      bound = join_new env τ (lock_var l) absent ∙ ap fresh (sym name);
      form = subst (λ u. IsNormalForm e u a.term) (sym (put_more env τ m within)) form;
      within = within_more (names env) (names (join env τ)) (λ x h. member_left (names τ) h) m within;
    } in
    ((l, m) ∷ w.0, w.1, λ u v h. one_more (l, m) w.0 (λ b. Holding e (a ∷ hs) t (join env τ) b.0 b.1) new (λ b k. let old = longer env τ (w.2 b.0 b.1 k) in among_others old (Member.later old.among)) (u, v) h)

covered_more : (e : Equations) (hs : List Holder) (a : Holder) (t : ℕ) (b : Agent) → Covered e hs t b → Covered e (a ∷ hs) t b
covered_more e hs a t b w = (w.0, w.1, λ l m h. let old = w.2 l m h in among_others old (Member.later old.among))

-- an unlock: what is covered, with one holder less
unlock_covers : (e : Equations) (before after : List Holder) (a : Holder) (env : Env) (path : List ℕ) (m : Tree) (l : ℕ) (p : Proc) (t : ℕ) → a.label ≡ l → Covered e (before ++ a ∷ after) t (running path env (act (action.unlock m l) p)) → Covered e (before ++ after) t (running (first_of path) env p)
unlock_covers e before after a env path m l p t label w = (
  closed l w.0,
  w.1.1,
  λ u v h.
      let r = closed_other l (u, v) w.0 h in
      let old = w.2 u v r.0 in
      among_others old (but_one a before after old.among (λ s. r.1 (sym old.label ∙ ap (λ (z : Holder). z.label) s ∙ label))),
)

others_cover : (e : Equations) (before after : List Holder) (a : Holder) (t u : ℕ) (b : Agent) → a.thread ≡ t → (t ≡ u → ⊥) → Covered e (before ++ a ∷ after) u b → Covered e (before ++ after) u b
others_cover e before after a t u b thread d w = (
  w.0,
  w.1,
  λ l m h.
      let old = w.2 l m h in
      among_others old (but_one a before after old.among (λ s. d (sym thread ∙ ap (λ (z : Holder). z.thread) (sym s) ∙ old.thread))),
)

holder_self : (n : ℕ) (h : Holder) → h.name ≡ n → count_holder n h ≡ 1
holder_self n h e = ap (λ k. count_name n k) e ∙ rw (eq_self n) refl

module _ (laws : Laws) (sig : Sig) (start : Proc) (agents : List (Option Agent)) (pending : Option Tree) (c : Config) (tr : Trace) (s : RuleState) (full : Trace) (r : Related sig start agents pending c tr s full) where
  pub kept_lock : (t n : ℕ) (ks : List ℕ) (path : List ℕ) (env : Env) (m : Tree) (l : ℕ) (p : Proc) (x : Tree) (rest : List (Option Fact)) → IsFree (lock_var l) (names env) → IsUnusedIn (lock_var l) p → Within (names env) m → IsNormalForm (equations sig) (instance (chosen env) m) x → c.held x ≡ false → slice_get agents t ≡ Some (Some (running path env (act (action.lock m l) p))) → Takes s.facts ks (state_fact path (values env) ∷ fresh_fact (fresh n) ∷ []) rest → ProcessStep sig c [] (holding (becomes c t (Some (process_instance (chosen env) p))) x true)
      → Related sig start (slice_set agents t (Some (running (first_of path) (join env (just (lock_var l) (fresh n))) p))) pending (holding (becomes c t (Some (process_instance (chosen env) p))) x true) (tr ++ []) (record s { facts = adds rest (state_fact (first_of path) (values (join env (just (lock_var l) (fresh n)))) ∷ []) }) (full ++ (lock_fact (fresh n) x ∷ []) ∷ [])
  kept_lock t n ks path env m l p x rest absent unused within form free e takes step =
      let b : Proc = act (action.lock m l) p in
      let here : IsAt sig start path env b = r.placed t (running path env b) e in
      let τ : Env = just (lock_var l) (fresh n) in
      let new : Option Agent = Some (running (first_of path) (join env τ) p) in
      let d : Config = holding (becomes c t (Some (process_instance (chosen env) p))) x true in
      let up : Grows c d = record { own = λ n m. m; frame = λ x m. m } in
      let down : Grows d c = record { own = λ n m. m; frame = λ x m. m } in
      let same : process_instance (chosen env) p ≡ process_instance (chosen (join env τ)) p = sym (instance_same_on (λ y. bytes_eq (lock_var l).name y.name ≡ false) (chosen (join env τ)) (chosen env) (λ y h. same_but env (lock_var l) (fresh n) y h) p unused) in
      let right : List Fact = state_fact (first_of path) (values (join env τ)) ∷ [] in
      let acts : List Fact = lock_fact (fresh n) x ∷ [] in
      let a : Holder = record { thread = t; label = l; name = n; term = x } in
      record {
        placed = placed_set sig start agents t (running (first_of path) (join env τ) p) r.placed
            (spot_below (root start) path 1 (place path (names env) b) (place (first_of path) (names env ++ lock_var l ∷ []) p) here.0 refl, good-append sig env τ here.1 (good_just sig (lock_var l) (fresh n) ((fresh_message laws) sig n)) (just_free env (lock_var l) (fresh n) absent));
        threads = ap (λ ts. slice_set ts t (Some (process_instance (chosen env) p))) r.threads ∙ ap (λ z. slice_set (map (option_map process_of) agents) t (Some z)) same ∙ sym (map-set (option_map process_of) agents t new);
        facts = λ test. let owed = total-set (count_owed test) agents t (Some (running path env b)) new e in let live = takes_total (count_live test) refl takes in let more = total-append (count_live test) rest (map (λ f. Some f) right) in let equal = r.facts test in omega arith;
        pile = λ test. let live = takes_total (count_user test) refl takes in let more = total-append (count_user test) rest (map (λ f. Some f) right) in let equal = r.pile test in omega arith;
        init = let unborn = total-set is_unborn agents t (Some (running path env b)) new e in let inits = total-append has_init full (acts ∷ []) in let one = r.init in omega arith;
        holders = a ∷ r.holders;
        names = names_held r.holders (a ∷ r.holders) agents (slice_set agents t new) c d s ks _ rest right r.names takes (λ k. let tags = total-set (count_tag k) agents t (Some (running path env b)) new e in omega (arith, cond_cond (n == k)));
        knowledge = knowledge_kept sig c d s ks _ rest right r.knowledge up down takes (λ y. refl) (state_no_out (first_of path) (values (join env τ)));
        traces = trace_both sig start pending c d tr full acts r.traces refl (λ y h. other (k_fact y) (lock_fact (fresh n) x) refl h) (demands_lock (equations sig) full (fresh n) x r.traces.demands (r.locks.part.free x free)) (store_quiet sig c.store full acts r.traces.store (no_write_one (lock_fact (fresh n) x) refl)) up step;
        locks = record {
          part = lock_step c.held r.holders full a r.locks.part free;
          covers = every_at_set (λ u z. Covered (equations sig) (a ∷ r.holders) u z) agents t new (λ u z d h. covered_more (equations sig) r.holders a u z (r.locks.covers u z h))
              (λ z h. let is : running (first_of path) (join env τ) p ≡ z = cc in subst (λ y. Covered (equations sig) (a ∷ r.holders) t y) is (lock_covers (equations sig) r.holders a env path m l n p t refl refl refl absent within form (r.locks.covers t (running path env b) e)));
        };
      }

  pub kept_unlock : (t : ℕ) (ks : List ℕ) (path : List ℕ) (env : Env) (m : Tree) (l : ℕ) (p : Proc) (x z : Tree) (rest : List (Option Fact)) → env.choice (lock_var l) ≡ z → IsNormalForm (equations sig) (instance (chosen env) m) x → slice_get agents t ≡ Some (Some (running path env (act (action.unlock m l) p))) → Takes s.facts ks (state_fact path (values env) ∷ []) rest → ProcessStep sig c [] (holding (becomes c t (Some (process_instance (chosen env) p))) x false)
      → Related sig start (slice_set agents t (Some (running (first_of path) env p))) pending (holding (becomes c t (Some (process_instance (chosen env) p))) x false) (tr ++ []) (record s { facts = adds rest (state_fact (first_of path) (values env) ∷ []) }) (full ++ (unlock_fact z x ∷ []) ∷ [])
  kept_unlock t ks path env m l p x z rest z_is form e takes step =
      let b : Proc = act (action.unlock m l) p in
      let here : IsAt sig start path env b = r.placed t (running path env b) e in
      let new : Option Agent = Some (running (first_of path) env p) in
      let d : Config = holding (becomes c t (Some (process_instance (chosen env) p))) x false in
      let up : Grows c d = record { own = λ n m. m; frame = λ x m. m } in
      let down : Grows d c = record { own = λ n m. m; frame = λ x m. m } in
      let right : List Fact = state_fact (first_of path) (values env) ∷ [] in
      let acts : List Fact = unlock_fact z x ∷ [] in
      let w = r.locks.covers t (running path env b) e in
      let mine = w.2 l m w.1.0 in
      let a : Holder = mine.holder in
      let split : Split a r.holders = split_at mine.among in
      let others : List Holder = split.before ++ split.after in
      let name : fresh a.name ≡ z = sym mine.bound ∙ z_is in
      let term : a.term ≡ x = (one_normal_form laws) (equations sig) (instance (chosen env) m) a.term mine.form ∙ sym ((one_normal_form laws) (equations sig) (instance (chosen env) m) x form) in
      let part : LockPart c.held (split.before ++ a ∷ split.after) full = subst (λ hs. LockPart c.held hs full) split.is r.locks.part in
      let count : (n : ℕ) → total (count_holder n) r.holders ≡ total (count_holder n) split.before + (count_holder n a + total (count_holder n) split.after) = λ n. ap (total (count_holder n)) split.is ∙ total-append (count_holder n) split.before (a ∷ split.after) in
      let differ : (h : Holder) → Member h others → h.name ≡ a.name → ⊥ = λ h k same.
      let one = holder_self a.name h same in
      let two = holder_self a.name a refl in
      let three = member_counts (count_holder a.name) h others k in
      let four = total-append (count_holder a.name) split.before split.after in
      let five = count a.name in
      let six = r.names.shares a.name in
      let seven = r.names.once a.name in
      absurd (omega arith) in
      let part' : LockPart (marked c.held a.term false) others (full ++ (unlock_fact (fresh a.name) a.term ∷ []) ∷ []) = unlock_step c.held split.before split.after full a part differ in
      record {
        placed = placed_set sig start agents t (running (first_of path) env p) r.placed (spot_below (root start) path 1 (place path (names env) b) (place (first_of path) (names env) p) here.0 refl, here.1);
        threads = ap (λ ts. slice_set ts t (Some (process_instance (chosen env) p))) r.threads ∙ sym (map-set (option_map process_of) agents t new);
        facts = λ test. let owed = total-set (count_owed test) agents t (Some (running path env b)) new e in let live = takes_total (count_live test) refl takes in let more = total-append (count_live test) rest (map (λ f. Some f) right) in let equal = r.facts test in omega arith;
        pile = λ test. let live = takes_total (count_user test) refl takes in let more = total-append (count_user test) rest (map (λ f. Some f) right) in let equal = r.pile test in omega arith;
        init = let unborn = total-set is_unborn agents t (Some (running path env b)) new e in let inits = total-append has_init full (acts ∷ []) in let one = r.init in omega arith;
        holders = others;
        names = names_held r.holders others agents (slice_set agents t new) c d s ks _ rest right r.names takes (λ n. let tags = total-set (count_tag n) agents t (Some (running path env b)) new e in let old = count n in let less = total-append (count_holder n) split.before split.after in omega arith);
        knowledge = knowledge_kept sig c d s ks _ rest right r.knowledge up down takes (λ y. refl) (state_no_out (first_of path) (values env));
        traces = trace_both sig start pending c d tr full acts r.traces refl (λ y h. other (k_fact y) (unlock_fact z x) refl h) (demands_quiet (equations sig) full acts r.traces.demands (no_demand_one (unlock_fact z x) refl)) (store_quiet sig c.store full acts r.traces.store (no_write_one (unlock_fact z x) refl)) up step;
        locks = record {
          part = subst (λ u. LockPart (marked c.held u false) others (full ++ (unlock_fact z u ∷ []) ∷ [])) term (subst (λ u. LockPart (marked c.held a.term false) others (full ++ (unlock_fact u a.term ∷ []) ∷ [])) name part');
          covers = every_at_set (λ u y. Covered (equations sig) others u y) agents t new
              (λ u y d h. others_cover (equations sig) split.before split.after a t u y mine.thread d (subst (λ hs. Covered (equations sig) hs u y) split.is (r.locks.covers u y h)))
              (λ y h. let is : running (first_of path) env p ≡ y = cc in subst (λ y. Covered (equations sig) others t y) is (unlock_covers (equations sig) split.before split.after a env path m l p t mine.label (subst (λ hs. Covered (equations sig) hs t (running path env b)) split.is w)));
        };
      }
