-- Threads that write to the store, look into it, lock and unlock.
use Rattle.std.proofs.Common.{◌≡◌, ◌<◌, ℕ, List, [], ◌∷◌, ◌++◌, length, Some, None, option_map, unwrap_or, Bool, true, false, nat_eq, refl, sym, ap, subst, ◌∙◌, inr}
use Rattle.std.specs.Prelude.{slice_get, slice_set}
use Rattle.std.specs.Map.{lookup as looked}
use Rattle.std.proofs.lemmas.List.{append-nil}
use Rattle.indexmap.specs.IndexMap.{insert_entry}
use Rattle.sap_terms.specs.Choice.{instance}
use Rattle.sap_terms.specs.Equations.{equations}
use Rattle.sap_terms.specs.Ground.{IsGround}
use Rattle.sap_terms.specs.Normal.{IsNormalForm}
use Rattle.sap_terms.specs.View.{tree}
use Rattle.sap_terms.specs.declared.fact.Fact.{Fact}
use Rattle.sap_terms.specs.declared.term.Term.{Term}
use Rattle.sap_terms.specs.declared.var.Var.{Var}
use Rattle.sap_process.specs.Action as action
use Rattle.sap_process.specs.Configuration.{Runs, becomes, stores, holding}
use Rattle.sap_process.specs.Instance.{process_instance, without}
use Rattle.sap_process.specs.Proc.{act, lookup}
use Rattle.sap_process.specs.Sites.{above_of, scope_below, var_names, message_var}
use Rattle.sap_runs.specs.Inner.{found, inserted, deleted, missing, locked, unlocked}
use Rattle.sap_runs.specs.declared.process_step.PStep.TheVariants as line
use Rattle.sap_share.specs.Env.{given}
use Rattle.sap_share.specs.Shared.{Shared, tree_at, Keeps, HaveOneNumber}
use Rattle.sap_lines.specs.Faults.{EvaluateSmall, EvaluateLarge, set, held, unset}
use Rattle.sap_lines.specs.Lines.{inserts, deletes, finds, misses, locks, unlocks}
use Rattle.sap_calc.specs.Running.{configuration, IsDone, IsDenied, WouldFind, FindsNothing}
use Rattle.sap_lines.specs.Places.{proc_at, procs_of}
use Rattle.sap_calc.specs.code.Parts.{Parts, AreTied, seen, IsSmallValue}
use Rattle.sap_calc.specs.code.Sound.{IsSoundFrom}
use Rattle.sap_calc.specs.code.Threads.{live, IsThread}
use Rattle.sap_heads.specs.Values.{IsSmallNumber, CanEvaluate, IsValue, AreValues, IsValueFault}
use Rattle.sap_lines.specs.declared.fault.PFault.{PFault}
use Rattle.sap_lines.specs.declared.fault.PFault.TheVariants as fault
use Rattle.sap_lines.specs.declared.form.Form.TheVariants.{Nil, Insert, Delete, Lookup, Lock, Unlock}
use Rattle.sap_lines.specs.declared.place.Place.{Place}
use Rattle.sap_calc.specs.declared.thread.Thread.{Thread}
use Rattle.sap_calc.proofs.Goes.{gone, gone_tied, gone_is, can_one, can_first, can_second, denied_value}
use Rattle.sap_calc.proofs.Lines.{thread_tied, children_below, moved, runs_form, sound_form}
use Rattle.sap_calc.proofs.Moves.{keeps_tied, keeps_seen, sets_tied, sets_is, given_stays, small_stays}
use Rattle.sap_calc.proofs.Numbered.{map_last}
use Rattle.sap_terms.specs.Variables.{is_known}
use Rattle.sap_process.specs.ProcessSteps.{with_term}
use Rattle.sap_share.specs.declared.env.Bound.{Bound}
use Rattle.sap_calc.specs.code.Threads.{running}
use Rattle.sap_heads.specs.Bound.{names_of, IsBoundTo}
use Rattle.sap_calc.proofs.Evaluable.{first_of, second_of}
use Rattle.sap_calc.proofs.Sounds.{sound_head, sound_behind, sound_missing, sound_found}
use Rattle.sap_calc.proofs.Stores.{stores_is, stores_tied, stored_is, holds_is, holds_tied, held_is, looked_small}

-- a thread behind an action that binds nothing
behind : (P : Parts) (t : ℕ) (th : Thread) (x : Place) (tied : AreTied P) (is : Some th ≡ live P.threads t) (count : ℕ) → x.first < length P.places
    → IsSoundFrom P.table.sig (above_of ((thread_tied P t th tied is).above.scope ++ []) count) (proc_at (procs_of P.places) x.first) → IsThread P.table P.places (record th { place = x.first })
behind P t th x tied is count lt sound =
    let above = (thread_tied P t th tied is).above in
    moved P t th tied is x.first (above_of (above.scope ++ []) count) lt sound (ap var_names (sym (append-nil above.scope)))

module _ (P : Parts) (t : ℕ) (th : Thread) (x : Place) (tied : AreTied P) (is : Some th ≡ live P.threads t) (at : slice_get P.places th.place ≡ Some x) (m n : Term) (form : x.form ≡ Insert m n) where
  insert_sound : IsSoundFrom P.table.sig (thread_tied P t th tied is).above (act (action.insert (tree m) (tree n)) (proc_at (procs_of P.places) x.first))
  insert_sound = sound_form P t th x tied is at (Insert m n) form

  insert_runs : Runs (configuration (seen P)) t (act (action.insert (instance (given P.table.trees th.env) (tree m)) (instance (given P.table.trees th.env) (tree n))) (process_instance (given P.table.trees th.env) (proc_at (procs_of P.places) x.first)))
  insert_runs = runs_form P t th x tied is at (Insert m n) form

  insert_below : (x.first < length P.places) × (x.second < length P.places)
  insert_below = children_below P t th x tied is at (λ leaf. let e : Insert m n ≡ Nil = sym form ∙ leaf in cc)

  pub insert_can_left : ((k : ℕ) → k < length P.table.trees → IsGround (tree_at P.table.trees k)) → CanEvaluate P.table th.env (tree m)
  insert_can_left grounds =
      let here = sound_head P.table.sig _ _ insert_sound in
      can_first P t th tied is grounds insert_sound.path (act (action.insert (tree m) (tree n)) (proc_at (procs_of P.places) x.first)) here (tree m) (tree n) here.bound (first_of (tree m) (tree n ∷ []))

  pub insert_can_right : ((k : ℕ) → k < length P.table.trees → IsGround (tree_at P.table.trees k)) → CanEvaluate P.table th.env (tree n)
  insert_can_right grounds =
      let here = sound_head P.table.sig _ _ insert_sound in
      can_second P t th tied is grounds insert_sound.path (act (action.insert (tree m) (tree n)) (proc_at (procs_of P.places) x.first)) here (tree m) (tree n) here.bound (second_of (tree m) (tree n) [])

  pub insert_large : (f : PFault) → IsValueFault P.table.sig ((instance (given P.table.trees th.env) (tree m)) ∷ (instance (given P.table.trees th.env) (tree n)) ∷ []) f → IsDenied (seen P) (line.Insert t) f
  insert_large f h = denied_value P (line.Insert t) t _ f tied refl insert_runs refl tt h

  module _ (u : Shared) (keeps : Keeps P.table u) (j k : ℕ) (v : AreValues P.table u th.env (tree m) (tree n) j k) (once : HaveOneNumber u.trees (length u.trees)) where
    insert_key : IsNormalForm (equations P.known.sig) (instance (given P.table.trees th.env) (tree m)) (tree_at u.trees j)
    insert_key = rw tied.numbered.sig at v.first_form

    insert_value : IsNormalForm (equations P.known.sig) (instance (given P.table.trees th.env) (tree n)) (tree_at u.trees k)
    insert_value = rw tied.numbered.sig at v.second_form

    insert_small : EvaluateSmall P.known.sig ((instance (given P.table.trees th.env) (tree m)) ∷ (instance (given P.table.trees th.env) (tree n)) ∷ [])
    insert_small = rw tied.numbered.sig at v.small

    insert_gone : AreTied (gone P u t th x.first)
    insert_gone = gone_tied P u t th x.first keeps tied (behind P t th x tied is _ insert_below.0 (sound_behind P.table.sig _ _ _ insert_sound))

    insert_value_small : IsSmallValue u (Some k)
    insert_value_small i e = let same : k ≡ i = cc in subst (IsSmallNumber u) same v.second_number

    pub insert_tied : AreTied (record (gone P u t th x.first) { store = insert_entry nat_eq P.store j (Some k) })
    insert_tied = stores_tied (gone P u t th x.first) insert_gone once j v.first_number (Some k) insert_value_small

    pub insert_line : (label : List Fact) → label ≡ [] → IsDone (seen P) (seen (record (gone P u t th x.first) { store = insert_entry nat_eq P.store j (Some k) })) (line.Insert t) label
    insert_line label silent =
        let after : configuration (seen (record (gone P u t th x.first) { store = insert_entry nat_eq P.store j (Some k) })) ≡ stores (becomes (configuration (seen P)) t (Some (process_instance (given P.table.trees th.env) (proc_at (procs_of P.places) x.first)))) (tree_at u.trees j) (Some (tree_at u.trees k)) =
        stores_is (gone P u t th x.first) insert_gone once j v.first_number (Some k) ∙ ap (λ c. stores c (tree_at u.trees j) (Some (tree_at u.trees k))) (gone_is P u t th x.first keeps tied is) in
        rw silent (record { inner = inserted (tree_at u.trees j) (tree_at u.trees k) ∷ []; line = rw after (inserts t insert_runs insert_key insert_value insert_small); sig = refl })

module _ (P : Parts) (t : ℕ) (th : Thread) (x : Place) (tied : AreTied P) (is : Some th ≡ live P.threads t) (at : slice_get P.places th.place ≡ Some x) (m : Term) (form : x.form ≡ Delete m) where
  delete_sound : IsSoundFrom P.table.sig (thread_tied P t th tied is).above (act (action.delete (tree m)) (proc_at (procs_of P.places) x.first))
  delete_sound = sound_form P t th x tied is at (Delete m) form

  delete_runs : Runs (configuration (seen P)) t (act (action.delete (instance (given P.table.trees th.env) (tree m))) (process_instance (given P.table.trees th.env) (proc_at (procs_of P.places) x.first)))
  delete_runs = runs_form P t th x tied is at (Delete m) form

  delete_below : (x.first < length P.places) × (x.second < length P.places)
  delete_below = children_below P t th x tied is at (λ leaf. let e : Delete m ≡ Nil = sym form ∙ leaf in cc)

  pub delete_can : ((k : ℕ) → k < length P.table.trees → IsGround (tree_at P.table.trees k)) → CanEvaluate P.table th.env (tree m)
  delete_can grounds =
      let here = sound_head P.table.sig _ _ delete_sound in
      can_one P t th tied is grounds delete_sound.path (act (action.delete (tree m)) (proc_at (procs_of P.places) x.first)) here (tree m) here.bound (first_of (tree m) [])

  pub delete_large : (f : PFault) → IsValueFault P.table.sig ((instance (given P.table.trees th.env) (tree m)) ∷ []) f → IsDenied (seen P) (line.Delete t) f
  delete_large f h = denied_value P (line.Delete t) t _ f tied refl delete_runs refl tt h

  module _ (u : Shared) (keeps : Keeps P.table u) (k : ℕ) (v : IsValue P.table u th.env (tree m) k) (once : HaveOneNumber u.trees (length u.trees)) where
    delete_key : IsNormalForm (equations P.known.sig) (instance (given P.table.trees th.env) (tree m)) (tree_at u.trees k)
    delete_key = rw tied.numbered.sig at v.form

    delete_small : EvaluateSmall P.known.sig ((instance (given P.table.trees th.env) (tree m)) ∷ [])
    delete_small = rw tied.numbered.sig at v.small

    delete_gone : AreTied (gone P u t th x.first)
    delete_gone = gone_tied P u t th x.first keeps tied (behind P t th x tied is _ delete_below.0 (sound_behind P.table.sig _ _ _ delete_sound))

    delete_none_small : IsSmallValue u None
    delete_none_small i e = cc

    pub delete_tied : AreTied (record (gone P u t th x.first) { store = insert_entry nat_eq P.store k None })
    delete_tied = stores_tied (gone P u t th x.first) delete_gone once k v.number None delete_none_small

    pub delete_line : (label : List Fact) → label ≡ [] → IsDone (seen P) (seen (record (gone P u t th x.first) { store = insert_entry nat_eq P.store k None })) (line.Delete t) label
    delete_line label silent =
        let after : configuration (seen (record (gone P u t th x.first) { store = insert_entry nat_eq P.store k None })) ≡ stores (becomes (configuration (seen P)) t (Some (process_instance (given P.table.trees th.env) (proc_at (procs_of P.places) x.first)))) (tree_at u.trees k) None =
        stores_is (gone P u t th x.first) delete_gone once k v.number None ∙ ap (λ c. stores c (tree_at u.trees k) None) (gone_is P u t th x.first keeps tied is) in
        rw silent (record { inner = deleted (tree_at u.trees k) ∷ []; line = rw after (deletes t delete_runs delete_key delete_small); sig = refl })

module _ (P : Parts) (t : ℕ) (th : Thread) (x : Place) (tied : AreTied P) (is : Some th ≡ live P.threads t) (at : slice_get P.places th.place ≡ Some x) (m : Term) (i : ℕ) (form : x.form ≡ Lock m i) where
  lock_sound : IsSoundFrom P.table.sig (thread_tied P t th tied is).above (act (action.lock (tree m) i) (proc_at (procs_of P.places) x.first))
  lock_sound = sound_form P t th x tied is at (Lock m i) form

  lock_runs : Runs (configuration (seen P)) t (act (action.lock (instance (given P.table.trees th.env) (tree m)) i) (process_instance (given P.table.trees th.env) (proc_at (procs_of P.places) x.first)))
  lock_runs = runs_form P t th x tied is at (Lock m i) form

  lock_below : (x.first < length P.places) × (x.second < length P.places)
  lock_below = children_below P t th x tied is at (λ leaf. let e : Lock m i ≡ Nil = sym form ∙ leaf in cc)

  pub lock_can : ((k : ℕ) → k < length P.table.trees → IsGround (tree_at P.table.trees k)) → CanEvaluate P.table th.env (tree m)
  lock_can grounds =
      let here = sound_head P.table.sig _ _ lock_sound in
      can_one P t th tied is grounds lock_sound.path (act (action.lock (tree m) i) (proc_at (procs_of P.places) x.first)) here (tree m) here.bound (first_of (tree m) [])

  pub lock_large : (f : PFault) → IsValueFault P.table.sig ((instance (given P.table.trees th.env) (tree m)) ∷ []) f → IsDenied (seen P) (line.Lock t) f
  lock_large f h = denied_value P (line.Lock t) t _ f tied refl lock_runs refl tt h

  module _ (u : Shared) (keeps : Keeps P.table u) (k : ℕ) (v : IsValue P.table u th.env (tree m) k) (once : HaveOneNumber u.trees (length u.trees)) where
    lock_key : IsNormalForm (equations P.known.sig) (instance (given P.table.trees th.env) (tree m)) (tree_at u.trees k)
    lock_key = rw tied.numbered.sig at v.form

    lock_small : EvaluateSmall P.known.sig ((instance (given P.table.trees th.env) (tree m)) ∷ [])
    lock_small = rw tied.numbered.sig at v.small

    lock_gone : AreTied (gone P u t th x.first)
    lock_gone = gone_tied P u t th x.first keeps tied (behind P t th x tied is _ lock_below.0 (sound_behind P.table.sig _ _ _ lock_sound))

    lock_held : (configuration (seen P)).held (tree_at u.trees k) ≡ unwrap_or (looked (nat_eq k) P.held) false
    lock_held = ap (λ r. (configuration r).held (tree_at u.trees k)) (sym (keeps_seen P u keeps tied)) ∙ held_is (record P { table = u }) (keeps_tied P u keeps tied) once k v.number

    pub lock_tied : AreTied (record (gone P u t th x.first) { held = insert_entry nat_eq P.held k true })
    lock_tied = holds_tied (gone P u t th x.first) lock_gone once k v.number true

    pub lock_denied : unwrap_or (looked (nat_eq k) P.held) false ≡ true → IsDenied (seen P) (line.Lock t) fault.Held
    lock_denied marked = held t lock_runs lock_small lock_key (lock_held ∙ marked)

    pub lock_line : (label : List Fact) → label ≡ [] → unwrap_or (looked (nat_eq k) P.held) false ≡ false → IsDone (seen P) (seen (record (gone P u t th x.first) { held = insert_entry nat_eq P.held k true })) (line.Lock t) label
    lock_line label silent free =
        let after : configuration (seen (record (gone P u t th x.first) { held = insert_entry nat_eq P.held k true })) ≡ holding (becomes (configuration (seen P)) t (Some (process_instance (given P.table.trees th.env) (proc_at (procs_of P.places) x.first)))) (tree_at u.trees k) true =
        holds_is (gone P u t th x.first) lock_gone once k v.number true ∙ ap (λ c. holding c (tree_at u.trees k) true) (gone_is P u t th x.first keeps tied is) in
        rw silent (record { inner = locked (tree_at u.trees k) ∷ []; line = rw after (locks t lock_runs lock_key (lock_held ∙ free) lock_small); sig = refl })

module _ (P : Parts) (t : ℕ) (th : Thread) (x : Place) (tied : AreTied P) (is : Some th ≡ live P.threads t) (at : slice_get P.places th.place ≡ Some x) (m : Term) (i : ℕ) (form : x.form ≡ Unlock m i) where
  unlock_sound : IsSoundFrom P.table.sig (thread_tied P t th tied is).above (act (action.unlock (tree m) i) (proc_at (procs_of P.places) x.first))
  unlock_sound = sound_form P t th x tied is at (Unlock m i) form

  unlock_runs : Runs (configuration (seen P)) t (act (action.unlock (instance (given P.table.trees th.env) (tree m)) i) (process_instance (given P.table.trees th.env) (proc_at (procs_of P.places) x.first)))
  unlock_runs = runs_form P t th x tied is at (Unlock m i) form

  unlock_below : (x.first < length P.places) × (x.second < length P.places)
  unlock_below = children_below P t th x tied is at (λ leaf. let e : Unlock m i ≡ Nil = sym form ∙ leaf in cc)

  pub unlock_can : ((k : ℕ) → k < length P.table.trees → IsGround (tree_at P.table.trees k)) → CanEvaluate P.table th.env (tree m)
  unlock_can grounds =
      let here = sound_head P.table.sig _ _ unlock_sound in
      can_one P t th tied is grounds unlock_sound.path (act (action.unlock (tree m) i) (proc_at (procs_of P.places) x.first)) here (tree m) here.bound (first_of (tree m) [])

  pub unlock_large : (f : PFault) → IsValueFault P.table.sig ((instance (given P.table.trees th.env) (tree m)) ∷ []) f → IsDenied (seen P) (line.Unlock t) f
  unlock_large f h = denied_value P (line.Unlock t) t _ f tied refl unlock_runs refl tt h

  module _ (u : Shared) (keeps : Keeps P.table u) (k : ℕ) (v : IsValue P.table u th.env (tree m) k) (once : HaveOneNumber u.trees (length u.trees)) where
    unlock_key : IsNormalForm (equations P.known.sig) (instance (given P.table.trees th.env) (tree m)) (tree_at u.trees k)
    unlock_key = rw tied.numbered.sig at v.form

    unlock_small : EvaluateSmall P.known.sig ((instance (given P.table.trees th.env) (tree m)) ∷ [])
    unlock_small = rw tied.numbered.sig at v.small

    unlock_gone : AreTied (gone P u t th x.first)
    unlock_gone = gone_tied P u t th x.first keeps tied (behind P t th x tied is _ unlock_below.0 (sound_behind P.table.sig _ _ _ unlock_sound))

    pub unlock_tied : AreTied (record (gone P u t th x.first) { held = insert_entry nat_eq P.held k false })
    unlock_tied = holds_tied (gone P u t th x.first) unlock_gone once k v.number false

    pub unlock_line : (label : List Fact) → label ≡ [] → IsDone (seen P) (seen (record (gone P u t th x.first) { held = insert_entry nat_eq P.held k false })) (line.Unlock t) label
    unlock_line label silent =
        let after : configuration (seen (record (gone P u t th x.first) { held = insert_entry nat_eq P.held k false })) ≡ holding (becomes (configuration (seen P)) t (Some (process_instance (given P.table.trees th.env) (proc_at (procs_of P.places) x.first)))) (tree_at u.trees k) false =
        holds_is (gone P u t th x.first) unlock_gone once k v.number false ∙ ap (λ c. holding c (tree_at u.trees k) false) (gone_is P u t th x.first keeps tied is) in
        rw silent (record { inner = unlocked (tree_at u.trees k) ∷ []; line = rw after (unlocks t unlock_runs unlock_key unlock_small); sig = refl })

module _ (P : Parts) (t : ℕ) (th : Thread) (x : Place) (tied : AreTied P) (is : Some th ≡ live P.threads t) (at : slice_get P.places th.place ≡ Some x) (m : Term) (y : Var) (form : x.form ≡ Lookup m y) where
  lookup_sound : IsSoundFrom P.table.sig (thread_tied P t th tied is).above (lookup (tree m) y (proc_at (procs_of P.places) x.first) (proc_at (procs_of P.places) x.second))
  lookup_sound = sound_form P t th x tied is at (Lookup m y) form

  lookup_runs : Runs (configuration (seen P)) t (lookup (instance (given P.table.trees th.env) (tree m)) y (process_instance (without (given P.table.trees th.env) y) (proc_at (procs_of P.places) x.first)) (process_instance (given P.table.trees th.env) (proc_at (procs_of P.places) x.second)))
  lookup_runs = runs_form P t th x tied is at (Lookup m y) form

  lookup_below : (x.first < length P.places) × (x.second < length P.places)
  lookup_below = children_below P t th x tied is at (λ leaf. let e : Lookup m y ≡ Nil = sym form ∙ leaf in cc)

  pub lookup_can : ((k : ℕ) → k < length P.table.trees → IsGround (tree_at P.table.trees k)) → CanEvaluate P.table th.env (tree m)
  lookup_can grounds =
      let here = sound_head P.table.sig _ _ lookup_sound in
      can_one P t th tied is grounds lookup_sound.path (lookup (tree m) y (proc_at (procs_of P.places) x.first) (proc_at (procs_of P.places) x.second)) here (tree m) here.bound (first_of (tree m) [])

  pub missing_large : (f : PFault) → IsValueFault P.table.sig ((instance (given P.table.trees th.env) (tree m)) ∷ []) f → IsDenied (seen P) (line.Missing t) f
  missing_large f h = denied_value P (line.Missing t) t _ f tied refl lookup_runs refl tt h

  pub finds_large : EvaluateLarge P.table.sig ((instance (given P.table.trees th.env) (tree m)) ∷ []) → FindsNothing (seen P) t
  finds_large big = record { fault = fault.TermLarge; denied = denied_value P (line.Found t) t _ fault.TermLarge tied refl lookup_runs refl tt (inr (refl, big)); cause = λ h. cc }

  pub found_large : (f : PFault) → IsValueFault P.table.sig ((instance (given P.table.trees th.env) (tree m)) ∷ []) f → IsDenied (seen P) (line.Found t) f
  found_large f h = denied_value P (line.Found t) t _ f tied refl lookup_runs refl tt h

  module _ (u : Shared) (keeps : Keeps P.table u) (k : ℕ) (v : IsValue P.table u th.env (tree m) k) (once : HaveOneNumber u.trees (length u.trees)) where
    lookup_key : IsNormalForm (equations P.known.sig) (instance (given P.table.trees th.env) (tree m)) (tree_at u.trees k)
    lookup_key = rw tied.numbered.sig at v.form

    lookup_small : EvaluateSmall P.known.sig ((instance (given P.table.trees th.env) (tree m)) ∷ [])
    lookup_small = rw tied.numbered.sig at v.small

    lookup_stored : (configuration (seen P)).store (tree_at u.trees k) ≡ option_map (tree_at u.trees) (unwrap_or (looked (nat_eq k) P.store) None)
    lookup_stored = ap (λ r. (configuration r).store (tree_at u.trees k)) (sym (keeps_seen P u keeps tied)) ∙ stored_is (record P { table = u }) (keeps_tied P u keeps tied) once k v.number

    pub missing_tied : AreTied (gone P u t th x.second)
    missing_tied = gone_tied P u t th x.second keeps tied (moved P t th tied is x.second (thread_tied P t th tied is).above lookup_below.1 (sound_missing P.table.sig _ _ _ _ _ lookup_sound) refl)

    pub missing_denied : (i : ℕ) → unwrap_or (looked (nat_eq k) P.store) None ≡ Some i → IsDenied (seen P) (line.Missing t) fault.Set
    missing_denied i has = set t lookup_runs lookup_small lookup_key (lookup_stored ∙ ap (option_map (tree_at u.trees)) has)

    pub missing_line : (label : List Fact) → label ≡ [] → unwrap_or (looked (nat_eq k) P.store) None ≡ None → IsDone (seen P) (seen (gone P u t th x.second)) (line.Missing t) label
    missing_line label silent lacks = rw silent (record {
      inner = missing (tree_at u.trees k) ∷ [];
      line = rw (gone_is P u t th x.second keeps tied is) (misses t lookup_runs lookup_key (lookup_stored ∙ ap (option_map (tree_at u.trees)) lacks) lookup_small);
      sig = refl;
    })

    pub found_denied : unwrap_or (looked (nat_eq k) P.store) None ≡ None → IsDenied (seen P) (line.Found t) fault.Unset
    found_denied lacks = unset t lookup_runs lookup_small lookup_key (lookup_stored ∙ ap (option_map (tree_at u.trees)) lacks)

    pub finds_nothing : unwrap_or (looked (nat_eq k) P.store) None ≡ None → FindsNothing (seen P) t
    finds_nothing lacks = record { fault = fault.Unset; denied = found_denied lacks; cause = λ h. cc }

    pub would_find : (i : ℕ) → unwrap_or (looked (nat_eq k) P.store) None ≡ Some i → WouldFind (seen P) t (tree_at u.trees i)
    would_find i has = record {
      key = tree_at u.trees k;
      after = becomes (configuration (seen P)) t (Some (with_term y (tree_at u.trees i) (process_instance (without (given P.table.trees th.env) y) (proc_at (procs_of P.places) x.first))));
      line = finds t lookup_runs lookup_key (lookup_stored ∙ ap (option_map (tree_at u.trees)) has) lookup_small;
    }

    -- the thread that has the value
    module _ (i : ℕ) (has : unwrap_or (looked (nat_eq k) P.store) None ≡ Some i) where
      pub found_small : IsSmallNumber P.table i
      found_small = looked_small P.table k P.store i has tied.values

      pub found_there : IsSmallNumber u i
      found_there = small_stays P.table u keeps i found_small

      pub found_new : is_known (names_of th.env) y.name ≡ false
      found_new =
          let o = thread_tied P t th tied is in
          let here = sound_head P.table.sig _ _ lookup_sound in
          by (is_known (var_names o.above.scope) y.name) refl (λ known. here.new_names (record { var = y; stands = refl; in_scope = known })) where
            by : (b : Bool) → is_known (var_names (thread_tied P t th tied is).above.scope) y.name ≡ b → (is_known (var_names (thread_tied P t th tied is).above.scope) y.name ≡ true → ⊥) → is_known (names_of th.env) y.name ≡ false
            by true e no_more = absurd (no_more e)
            by false e no_more = rw (thread_tied P t th tied is).names e

      module _ (env : List Bound) (b : IsBoundTo u th.env y i env) where
        found_thread : IsThread u P.places (record { place = x.first; env = env })
        found_thread =
            let o = thread_tied P t th tied is in
            record {
              below = lookup_below.0;
              above = scope_below o.above (lookup (tree m) y (proc_at (procs_of P.places) x.first) (proc_at (procs_of P.places) x.second)) 1;
              sound = rw keeps.sig (sound_found P.table.sig _ _ _ _ _ lookup_sound);
              names = b.names ∙ ap (λ ns. ns ++ y.name ∷ []) o.names ∙ sym (map_last (λ (v : Var). v.name) o.above.scope (message_var y));
              small = b.small;
            }

        pub found_tied : AreTied (record P { table = u; threads = slice_set P.threads t (Some (record { place = x.first; env = env })) })
        found_tied = sets_tied (record P { table = u }) t (record { place = x.first; env = env }) (keeps_tied P u keeps tied) found_thread

        pub found_line : (label : List Fact) → label ≡ [] → IsDone (seen P) (seen (record P { table = u; threads = slice_set P.threads t (Some (record { place = x.first; env = env })) })) (line.Found t) label
        found_line label silent =
            let o = thread_tied P t th tied is in
            let new : Thread = record { place = x.first; env = env } in
            let same : given u.trees th.env ≡ given P.table.trees th.env = given_stays P.table u keeps th.env o.small in
            let runs : running u.trees (procs_of P.places) new ≡ with_term y (tree_at u.trees i) (process_instance (without (given P.table.trees th.env) y) (proc_at (procs_of P.places) x.first)) = b.goes (proc_at (procs_of P.places) x.first) ∙ ap (λ σ. with_term y (tree_at u.trees i) (process_instance (without σ y) (proc_at (procs_of P.places) x.first))) same in
            let after : configuration (seen (record P { table = u; threads = slice_set P.threads t (Some new) })) ≡ becomes (configuration (seen P)) t (Some (with_term y (tree_at u.trees i) (process_instance (without (given P.table.trees th.env) y) (proc_at (procs_of P.places) x.first)))) =
            sets_is (record P { table = u }) t new ∙ ap (λ r. becomes (configuration r) t (Some (running u.trees (procs_of P.places) new))) (keeps_seen P u keeps tied) ∙ ap (λ p. becomes (configuration (seen P)) t (Some p)) runs in
            rw silent (record {
              inner = found (tree_at u.trees k) (tree_at u.trees i) ∷ [];
              line = rw after (finds t lookup_runs lookup_key (lookup_stored ∙ ap (option_map (tree_at u.trees)) has) lookup_small);
              sig = refl;
            })
