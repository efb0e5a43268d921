-- What is written runs as trees: its expansion, up to names, thread by thread.
use Rattle.std.proofs.Common.{◌≡◌, ℕ, zero, suc, true, List, [], ◌∷◌, ◌++◌, Option, Some, None, slice_get, slice_set, refl, sym, ap, ◌∙◌, subst, ⊎_elim}
use Rattle.std.specs.Prelude.{Contains}
use Rattle.std.specs.Str.{bytes_eq}
use Rattle.std.proofs.lemmas.Bool.{false≢true}
use Rattle.sap_terms.specs.Choice.{Choice}
use Rattle.sap_terms.specs.Equations.{equations}
use Rattle.sap_terms.specs.Ground.{IsGround, AreGround}
use Rattle.sap_terms.specs.Normal.{IsNormalForm}
use Rattle.sap_terms.specs.Signature.{Sig}
use Rattle.sap_terms.specs.Tree.{Tree, variable, public, fresh, apply, Trees, none, more, trees_of}
use Rattle.sap_terms.specs.Variables.{is_known, tree_vars, trees_vars}
use Rattle.sap_terms.specs.declared.var.Var.{Var}
use Rattle.sap_process.specs.Action as action
use Rattle.sap_process.specs.Action.{Action, new, out, input}
use Rattle.sap_process.specs.Configuration.{Config, ConfigOf}
use Rattle.sap_process.specs.Head as head
use Rattle.sap_process.specs.Head.{Head}
use Rattle.sap_process.specs.Instance.{process_instance}
use Rattle.sap_process.specs.Proc as whole
use Rattle.sap_process.specs.Proc.{Proc}
use Rattle.sap_process.specs.ProcessSteps.{chosen}
use Rattle.sap_process.specs.Sites.{var_names}
use Rattle.sap_macro.specs.AlikeConfigurations.{AlikeThread, both_ended, both_run, AlikeThreads, no_thread, one_thread}
use Rattle.sap_macro.specs.Expansion.{Expanded, binders, binding, binding_vars, bound_by, bound_in, behind, entered, expanded, meaning_of, put, same_name, scope_behind, unchanged}
use Rattle.sap_macro.specs.Instances.{IsOverScope, IsClosed, AreClosedAmong, AreTaken, Keeps, instance_by, written_instance}
use Rattle.sap_macro.specs.Order.{AreInOrder, UsesOnly}
use Rattle.sap_macro.specs.UpToNames.{AreAlike}
use Rattle.sap_macro.specs.Written.{Written, call, parallel, replicated, act, test, lookup, Definition}
use Rattle.sap_macro.specs.WrittenRuns.{StartsWith, itself, use_of, written_of, StandsAs, writing}
use Rattle.sap_terms.proofs.PlainLaws.Known.{in_cases, in_head, in_tail}
use Rattle.sap_macro.proofs.Closed.{Split, binders_rest, closed_rest}
use Rattle.sap_macro.proofs.Commuting.{taken_grows}
use Rattle.sap_macro.proofs.Continuing.{closed_here, taken_here}
use Rattle.sap_macro.proofs.Definitions.{known_of}
use Rattle.sap_macro.proofs.Joined.{one_behind_other}
use Rattle.sap_macro.proofs.Kept.{each_kept, action_kept, kept}
use Rattle.sap_macro.proofs.OrderedMeanings.{closed_body, instance_among, means, steady_of}
use Rattle.sap_macro.proofs.OtherDefinitions.{expansions_among_are_one, instance_uses, uses_among_are_instances}
use Rattle.sap_macro.proofs.Scopes.{Among, behind_cases, in_left, in_right, over_behind}
use Rattle.sap_macro.proofs.Swapped.{other_side}
use Rattle.sap_macro.proofs.Uses.{either_way, later_param, put_other}

-- terms that use nothing that is bound are ground
first : (vs ws : List Var) → IsOverScope [] (vs ++ ws) → IsOverScope [] vs
first [] ws h = tt
first (v ∷ vs) ws h = (h.0, first vs ws h.1)

later : (vs ws : List Var) → IsOverScope [] (vs ++ ws) → IsOverScope [] ws
later [] ws h = h
later (v ∷ vs) ws h = later vs ws h.1

mutual
  ground : (t : Tree) → IsOverScope [] (tree_vars t) → IsGround t
  ground (variable v) h = absurd (false≢true h.0)
  ground (public n) h = tt
  ground (fresh k) h = tt
  ground (apply f ts) h = all_ground ts h

  all_ground : (ts : Trees) → IsOverScope [] (trees_vars ts) → AreGround ts
  all_ground none h = tt
  all_ground (more t ts) h = (ground t (first (tree_vars t) (trees_vars ts) h), all_ground ts (later (tree_vars t) (trees_vars ts) h))

-- the instance of a closed definition by ground terms is closed, and binds the same names
put_ground : (ys : List (List ℕ)) (ts : List Tree) (v : Var) → AreGround (trees_of ts) → is_known ys v.name ≡ true → IsGround (put ys ts unchanged v)
put_ground [] ts v h k = absurd (false≢true k)
put_ground (y ∷ ys) [] v h k = either_way IsGround (bytes_eq y v.name) (public []) (put ys [] unchanged v) (λ e. tt) (λ e. put_ground ys [] v h (later_param y ys v.name k e))
put_ground (y ∷ ys) (t ∷ ts) v h k = either_way IsGround (bytes_eq y v.name) t (put ys ts unchanged v) (λ e. h.0) (λ e. put_ground ys ts v h.1 (later_param y ys v.name k e))

module _ (d : Definition) (ts : List Tree) (closed : IsClosed d.params d.body) (known : AreGround (trees_of ts)) where
  params_split : Split (put d.params ts unchanged) d.params (λ v h. put_ground d.params ts v known h) (λ v h. put_other d.params ts unchanged v h) d.params []
  params_split = record { gone_in = λ x h. h; stays = λ x h. h }

  instance_closed : IsClosed [] (instance_by d ts)
  instance_closed = closed_rest (put d.params ts unchanged) d.params (λ v h. put_ground d.params ts v known h) (λ v h. put_other d.params ts unchanged v h) d.params [] d.body params_split closed

  instance_taken : AreTaken (binders d.params d.body) [] (instance_by d ts)
  instance_taken = record {
    holds = λ x h.
        subst (λ ns. is_known ns x ≡ true)
        (binders_rest (put d.params ts unchanged) d.params (λ v k. put_ground d.params ts v known k) (λ v k. put_other d.params ts unchanged v k) d.params [] d.body params_split closed) h;
  }

-- definitions in order, of which those of these names are closed, and a signature
pub record Setting : Type 0 where
  pub names : List (List ℕ)
  pub ds : List Definition
  pub ordered : AreInOrder [] ds
  pub all : AreClosedAmong names ds
  pub nothing_put : (p : Proc) → process_instance unchanged p ≡ p
  pub g : Sig
  pub ground_form : (t n : Tree) → IsGround t → IsNormalForm (equations g) t n → IsGround n

module _ (S : Setting) where
  open S use {names, ds, ordered, all, nothing_put, g, ground_form}

  -- the expansion of what is written, where these names are taken, and what is taken behind it
  abbrev pub tree_of_written : Written → List (List ℕ) → Proc
  tree_of_written w taken = (expanded (meaning_of ds) unchanged same_name w taken).process

  abbrev pub taken_behind : Written → List (List ℕ) → List (List ℕ)
  taken_behind w taken = (expanded (meaning_of ds) unchanged same_name w taken).taken

  -- it is closed, uses the names alone, and what it binds is taken
  pub record IsReady (w : Written) (taken : List (List ℕ)) : Type 0 where
    pub closed : IsClosed [] w
    pub uses : UsesOnly names w
    pub own : AreTaken taken [] w

  -- what is written runs as this tree: up to names it is its expansion
  pub record RunsAs (w : Written) (p : Proc) : Type 0 where
    pub taken : List (List ℕ)
    pub ready : IsReady w taken
    pub alike : AreAlike [] (tree_of_written w taken) p

  keeps_all : (taken : List (List ℕ)) → Keeps unchanged taken
  keeps_all taken = record { keeps = λ x s h. refl }

  own_taken : (scope : List (List ℕ)) (w : Written) → AreTaken (binders scope w) scope w
  own_taken scope w = record { holds = λ x h. h }

  -- a use, and the instance of its definition
  use_is_instance : (d : Definition) → Contains ds d → (ts : List Tree) (p : Proc) (other : List (List ℕ)) → RunsAs (call d.name ts) p → AreTaken other d.params d.body
      → AreAlike [] (tree_of_written (instance_by d ts) other) p
  use_is_instance d c ts p other r o =
      let body = closed_body names ds all d c r.ready.uses in
      let known = all_ground (trees_of ts) r.ready.closed in
      let same = each_kept ts in
      let law = uses_among_are_instances names ds d ts unchanged r.taken other all body.1 body.0 (subst (λ us. AreGround (trees_of us)) (sym same) known) (keeps_all r.taken) o in
      let law_here = subst (λ us. AreAlike [] (process_instance unchanged (entered (meaning_of ds) d ts r.taken).process) (tree_of_written (instance_by d us) other)) same law in
      let entered_here = subst (λ q. AreAlike [] q (tree_of_written (instance_by d ts) other)) (nothing_put (entered (meaning_of ds) d ts r.taken).process) law_here in
      let meaning_here : AreAlike [] (meaning_of ds d.name ts r.taken).process p = subst (λ us. AreAlike [] (meaning_of ds d.name us r.taken).process p) same r.alike in
      let running : AreAlike [] (entered (meaning_of ds) d ts r.taken).process p = subst (λ (e : Expanded). AreAlike [] e.process p) (means ds ordered d c ts r.taken) meaning_here in
      one_behind_other (tree_of_written (instance_by d ts) other) (entered (meaning_of ds) d ts r.taken).process p
      (other_side [] (entered (meaning_of ds) d ts r.taken).process (tree_of_written (instance_by d ts) other) entered_here) running

  -- what runs as a tree has a head that runs as it
  pub head_runs : (w : Written) (h : Head Written) (p : Proc) → StartsWith ds w h → RunsAs w p → RunsAs (written_of h) p
  head_runs _ h p (itself _) r = r
  head_runs _ h p (use_of d {ts = ts} c s) r =
      let body = closed_body names ds all d c r.ready.uses in
      let known = all_ground (trees_of ts) r.ready.closed in
      head_runs (instance_by d ts) h p s
      (record {
        taken = binders d.params d.body;
        ready = record {
          closed = instance_closed d ts body.0 known;
          uses = instance_uses names (put d.params ts unchanged) d.body body.1;
          own = instance_taken d ts body.0 known;
        };
        alike = use_is_instance d c ts p (binders d.params d.body) r (own_taken d.params d.body);
      })

  -- ---- heads

  -- the expansion of what has this head
  abbrev pub head_tree : Head Written → List (List ℕ) → Proc
  head_tree head.nil taken = whole.nil
  head_tree (head.parallel p q) taken = whole.parallel (tree_of_written p taken) (tree_of_written q (taken_behind p taken))
  head_tree (head.replicated p) taken = whole.replicated (tree_of_written p taken)
  head_tree (head.act a p) taken = whole.act a (tree_of_written p taken)
  head_tree (head.test t u p q) taken = whole.test t u (tree_of_written p taken) (tree_of_written q (taken_behind p taken))
  head_tree (head.lookup t x p q) taken = whole.lookup t x (tree_of_written p taken) (tree_of_written q (taken_behind p taken))

  own_binding : (a : Action) (p : Proc) → whole.act (binding same_name a) p ≡ whole.act a p
  own_binding (new x) p = refl
  own_binding (out t) p = refl
  own_binding (action.send t u) p = refl
  own_binding (input t) p = refl
  own_binding (action.receive t u) p = refl
  own_binding (action.event f) p = refl
  own_binding (action.insert t u) p = refl
  own_binding (action.delete t) p = refl
  own_binding (action.lock t n) p = refl
  own_binding (action.unlock t n) p = refl
  own_binding (action.embedded l e r) p = refl

  pub head_tree_is : (h : Head Written) (taken : List (List ℕ)) → tree_of_written (written_of h) taken ≡ head_tree h taken
  head_tree_is head.nil taken = refl
  head_tree_is (head.parallel p q) taken = refl
  head_tree_is (head.replicated p) taken = refl
  head_tree_is (head.act a p) taken = ap (λ z. whole.act (binding same_name z) (tree_of_written p taken)) (action_kept a) ∙ own_binding a (tree_of_written p taken)
  head_tree_is (head.test t u p q) taken = λ i. whole.test (kept t i) (kept u i) (tree_of_written p taken) (tree_of_written q (taken_behind p taken))
  head_tree_is (head.lookup t x p q) taken = ap (λ z. whole.lookup z x (tree_of_written p taken) (tree_of_written q (taken_behind p taken))) (kept t)

  -- ---- what goes on

  pub itself_expanded : (q : Written) (taken : List (List ℕ)) → IsReady q taken → RunsAs q (tree_of_written q taken)
  itself_expanded q taken r = record { taken = taken; ready = r; alike = expansions_among_are_one names ds q taken taken all r.uses r.closed r.own r.own }

  grows : (p : Written) (taken : List (List ℕ)) → Among taken (taken_behind p taken)
  grows p taken = taken_grows (meaning_of ds) (steady_of ds) unchanged same_name p taken

  pub left_part : (p q : Written) (taken : List (List ℕ)) → IsReady (parallel p q) taken → IsReady p taken
  left_part p q taken r = record { closed = r.closed.0; uses = r.uses.0; own = record { holds = λ y k. r.own.holds y (in_left (binders [] p) (binders [] q) y k) } }

  pub right_part : (p q : Written) (taken : List (List ℕ)) → IsReady (parallel p q) taken → IsReady q (taken_behind p taken)
  right_part p q taken r =
      record { closed = r.closed.1; uses = r.uses.1; own = record { holds = λ y k. grows p taken y (r.own.holds y (in_right (binders [] p) (binders [] q) y k)) } }

  pub copied_part : (p : Written) (taken : List (List ℕ)) → IsReady (replicated p) taken → IsReady p taken
  copied_part p taken r = record { closed = r.closed; uses = r.uses; own = record { holds = r.own.holds } }

  pub where_equal : (t u : Tree) (p q : Written) (taken : List (List ℕ)) → IsReady (test t u p q) taken → IsReady p taken
  where_equal t u p q taken r =
      record { closed = r.closed.1.1.0; uses = r.uses.0; own = record { holds = λ y k. r.own.holds y (in_left (binders [] p) (binders [] q) y k) } }

  pub where_other : (t u : Tree) (p q : Written) (taken : List (List ℕ)) → IsReady (test t u p q) taken → IsReady q (taken_behind p taken)
  where_other t u p q taken r =
      record { closed = r.closed.1.1.1; uses = r.uses.1; own = record { holds = λ y k. grows p taken y (r.own.holds y (in_right (binders [] p) (binders [] q) y k)) } }

  pub where_missing : (m : Tree) (v : Var) (p q : Written) (taken : List (List ℕ)) → IsReady (lookup m v p q) taken → IsReady q (taken_behind p taken)
  where_missing m v p q taken r =
      let rest = binders (v.name ∷ []) p ++ binders [] q in
      record {
        closed = r.closed.1.1.1;
        uses = r.uses.1;
        own = record { holds = λ y k. grows p taken y (r.own.holds y (in_tail y v.name rest (in_right (binders (v.name ∷ []) p) (binders [] q) y k))) };
      }

  -- behind an action that binds nothing
  pub behind_plain : (a : Action) (q : Written) (taken : List (List ℕ)) → binding_vars a ≡ [] → IsReady (act a q) taken → IsReady q taken
  behind_plain a q taken nothing r =
      record {
        closed = subst (λ vs. IsClosed (scope_behind [] vs) q) nothing r.closed.1.1;
        uses = r.uses;
        own = record {
          holds = λ x k.
              r.own.holds x (in_right (bound_by [] a) (binders (behind [] a) q) x (subst (λ vs. is_known (binders (scope_behind [] vs) q) x ≡ true) (sym nothing) k));
        };
      }

  -- where a choice replaces what is bound
  pub chosen_rest : (σ : Choice) (vs : List Var) (q : Written) (taken : List (List ℕ)) → ((v : Var) → IsGround (σ v)) → IsClosed (scope_behind [] vs) q → UsesOnly names q
      → Among (var_names vs) taken → AreTaken taken (scope_behind [] vs) q → RunsAs (written_instance (chosen σ vs) q) (process_instance (chosen σ vs) (tree_of_written q taken))
  chosen_rest σ vs q taken messages closed uses own all_taken =
      let next = written_instance (chosen σ vs) q in
      let ready : IsReady next taken =
      record { closed = closed_here σ vs messages q taken closed own; uses = instance_uses names (chosen σ vs) q uses; own = taken_here σ vs messages q taken closed own all_taken } in
      subst (λ z. RunsAs next z) (instance_among names ds all σ vs messages q taken uses closed own) (itself_expanded next taken ready)

  -- names of a pattern that nothing above binds are taken
  pattern_taken : (vs : List Var) (taken : List (List ℕ)) → Among (bound_in [] vs) taken → Among (var_names vs) taken
  pattern_taken vs taken h x k =
      ⊎_elim (λ l. absurd (false≢true l)) (λ l. h x l) (behind_cases [] vs x (known_of vs (scope_behind [] vs) x (over_behind [] vs) k))

  pub bound_rest : (σ : Choice) (a : Action) (q : Written) (taken : List (List ℕ)) → ((v : Var) → IsGround (σ v)) → IsReady (act a q) taken
      → RunsAs (written_instance (chosen σ (binding_vars a)) q) (process_instance (chosen σ (binding_vars a)) (tree_of_written q taken))
  bound_rest σ a q taken messages r =
      let own = pattern_taken (binding_vars a) taken (λ y k. r.own.holds y (in_left (bound_by [] a) (binders (behind [] a) q) y k)) in
      chosen_rest σ (binding_vars a) q taken messages r.closed.1.1 r.uses own (record { holds = λ y k. r.own.holds y (in_right (bound_by [] a) (binders (behind [] a) q) y k) })

  pub found_rest : (m y : Tree) (v : Var) (p q : Written) (taken : List (List ℕ)) → IsGround y → IsReady (lookup m v p q) taken
      → RunsAs (written_instance (chosen (λ z. y) (v ∷ [])) p) (process_instance (chosen (λ z. y) (v ∷ [])) (tree_of_written p taken))
  found_rest m y v p q taken ground r =
      let rest = binders (v.name ∷ []) p ++ binders [] q in
      let own : Among (var_names (v ∷ [])) taken =
      λ z i. ⊎_elim (λ j. subst (λ n. is_known taken n ≡ true) j (r.own.holds v.name (in_head v.name rest))) (λ j. absurd (false≢true j)) (in_cases z v.name [] i) in
      chosen_rest (λ z. y) (v ∷ []) p taken (λ z. ground) r.closed.1.1.0 r.uses.0 own
      (record { holds = λ z i. r.own.holds z (in_tail z v.name rest (in_left (binders (v.name ∷ []) p) (binders [] q) z i)) })

  -- ---- threads

  -- what runs as a tree: that tree is equal to itself, up to names
  itself_alike : (w : Written) (p : Proc) → RunsAs w p → AreAlike [] p p
  itself_alike w p r = one_behind_other p (tree_of_written w r.taken) p (other_side [] (tree_of_written w r.taken) p r.alike) r.alike

  pub data RunsAsThread : Option Written → Option Proc → Type 0 where
    both_over : RunsAsThread None None
    both_go : {w : Written} {p : Proc} → RunsAs w p → RunsAsThread (Some w) (Some p)

  pub data RunAsThreads : List (Option Written) → List (Option Proc) → Type 0 where
    no_more : RunAsThreads [] []
    one_more : {o : Option Written} {u : Option Proc} {os : List (Option Written)} {us : List (Option Proc)} → RunsAsThread o u → RunAsThreads os us
        → RunAsThreads (o ∷ os) (u ∷ us)

  thread_of : (o : Option Written) (u : Option Proc) (w : Written) → RunsAsThread o u → o ≡ Some w → (p : Proc) × (u ≡ Some p) × RunsAs w p
  thread_of _ _ w both_over e = cc
  thread_of _ _ w (both_go {w = v} {p = p} r) e = let f : v ≡ w = cc in (p, refl, subst (λ z. RunsAs z p) f r)

  inner : {X : Type 0} (x y : X) → Some x ≡ Some y → x ≡ y
  inner x y e = cc

  pub found_run : (os : List (Option Written)) (us : List (Option Proc)) → RunAsThreads os us → (t : ℕ) (w : Written) → slice_get os t ≡ Some (Some w)
      → (p : Proc) × (slice_get us t ≡ Some (Some p)) × RunsAs w p
  found_run _ _ no_more t w e = cc
  found_run _ _ (one_more {o = o} {u = u} h l) zero w e = let r = thread_of o u w h (inner o (Some w) e) in (r.0, ap (λ z. Some z) r.1, r.2)
  found_run _ _ (one_more {os = os} {us = us} h l) (suc t) w e = found_run os us l t w e

  alike_thread : (o : Option Written) (u : Option Proc) → RunsAsThread o u → AlikeThread u u
  alike_thread _ _ both_over = both_ended
  alike_thread _ _ (both_go {w = w} {p = p} r) = both_run (itself_alike w p r)

  pub alike_threads : (os : List (Option Written)) (us : List (Option Proc)) → RunAsThreads os us → AlikeThreads us us
  alike_threads _ _ no_more = no_thread
  alike_threads _ _ (one_more {o = o} {u = u} {os = os} {us = us} h l) = one_thread (alike_thread o u h) (alike_threads os us l)

  -- the tree of one thread replaced by one that is equal up to names
  pub with_other : (xs us : List (Option Proc)) → AlikeThreads xs us → (t : ℕ) (p x : Proc) → slice_get us t ≡ Some (Some p) → AreAlike [] x p → AlikeThreads (slice_set xs t (Some x)) us
  with_other _ _ no_thread t p x e h = no_thread
  with_other _ _ (one_thread {u = u} k l) zero p x e h = one_thread (subst (λ z. AlikeThread (Some x) z) (sym (inner u (Some p) e)) (both_run h)) l
  with_other _ _ (one_thread {os = xs} {us = us} k l) (suc t) p x e h = one_thread k (with_other xs us l t p x e h)

  -- the same on the other side
  pub other_with : (xs us : List (Option Proc)) → AlikeThreads xs us → (t : ℕ) (p x : Proc) → slice_get xs t ≡ Some (Some p) → AreAlike [] p x → AlikeThreads xs (slice_set us t (Some x))
  other_with _ _ no_thread t p x e h = no_thread
  other_with _ _ (one_thread {o = u} k l) zero p x e h = one_thread (subst (λ z. AlikeThread z (Some x)) (sym (inner u (Some p) e)) (both_run h)) l
  other_with _ _ (one_thread {os = xs} {us = us} k l) (suc t) p x e h = one_thread k (other_with xs us l t p x e h)

  pub stands_there : (us : List (Option Proc)) (t : ℕ) (p x : Proc) → slice_get us t ≡ Some (Some p) → slice_get (slice_set us t (Some x)) t ≡ Some (Some x)
  stands_there [] t p x e = cc
  stands_there (u ∷ us) zero p x e = refl
  stands_there (u ∷ us) (suc t) p x e = stands_there us t p x e

  pub in_place : (os : List (Option Written)) (us : List (Option Proc)) → RunAsThreads os us → (t : ℕ) (o : Option Written) (u : Option Proc) → RunsAsThread o u
      → RunAsThreads (slice_set os t o) (slice_set us t u)
  in_place _ _ no_more t o u h = no_more
  in_place _ _ (one_more k l) zero o u h = one_more h l
  in_place _ _ (one_more {os = os} {us = us} k l) (suc t) o u h = one_more k (in_place os us l t o u h)

  pub spawned : (os : List (Option Written)) (us : List (Option Proc)) → RunAsThreads os us → (w : Written) (p : Proc) → RunsAs w p → RunAsThreads (os ++ Some w ∷ []) (us ++ Some p ∷ [])
  spawned _ _ no_more w p r = one_more (both_go r) no_more
  spawned _ _ (one_more {os = os} {us = us} h l) w p r = one_more h (spawned os us l w p r)

  alike_then : (o : Option Written) (u v : Option Proc) → RunsAsThread o u → AlikeThread u v → RunsAsThread o v
  alike_then _ _ _ both_over both_ended = both_over
  alike_then _ _ _ (both_go {w = w} {p = p} r) (both_run {q = q} h) =
      both_go (record { taken = r.taken; ready = r.ready; alike = one_behind_other (tree_of_written w r.taken) p q r.alike h })

  -- threads that run as trees run as trees that are equal to these up to names
  pub all_then : (os : List (Option Written)) (us vs : List (Option Proc)) → RunAsThreads os us → AlikeThreads us vs → RunAsThreads os vs
  all_then _ _ _ no_more no_thread = no_more
  all_then _ _ _ (one_more {o = o} {u = u} {os = os} {us = us} h l) (one_thread {u = v} {us = vs} k m) = one_more (alike_then o u v h k) (all_then os us vs l m)

  -- ---- configurations

  -- the configuration with trees as its threads
  abbrev pub with_trees : ConfigOf (writing ds) → List (Option Proc) → Config
  with_trees c us = record { made = c.made; own = c.own; store = c.store; facts = c.facts; threads = us; frame = c.frame; held = c.held }

  -- what runs as it is written, and trees as which its threads run
  pub record Running : Type 0 where
    pub config : ConfigOf (writing ds)
    pub trees : List (Option Proc)
    pub run_as : RunAsThreads config.threads trees
    pub stored : (k v : Tree) → config.store k ≡ Some v → IsGround v

  module _ (R : Running) where
    open R use {config, trees, run_as, stored}

    -- thread t has this head, and runs as a tree
    pub record Found (t : ℕ) (h : Head Written) : Type 0 where
      pub tree : Proc
      pub there : slice_get trees t ≡ Some (Some tree)
      pub runs : RunsAs (written_of h) tree

    pub found_head : (t : ℕ) (h : Head Written) → StandsAs ds config.threads t h → Found t h
    found_head t h s =
        let f = found_run config.threads trees run_as t s.process s.runs in record { tree = f.0; there = f.1; runs = head_runs s.process h f.0 s.head f.2 }

    -- thread t as the tree of its head, which is equal to what it was up to names
    pub turned_alike : (t : ℕ) (h : Head Written) (at : Found t h) → AreAlike [] (head_tree h at.runs.taken) at.tree
    turned_alike t h at = subst (λ z. AreAlike [] z at.tree) (head_tree_is h at.runs.taken) at.runs.alike
