-- Threads that take what the adversary gives.
use Rattle.std.proofs.Common.{◌≡◌, ◌<◌, ℕ, List, [], ◌∷◌, ◌++◌, length, Option, Some, None, refl, sym, ap, ◌∙◌, inl, inr}
use Rattle.std.specs.Prelude.{slice_get, slice_set, MatchOption}
use Rattle.sap_terms.specs.AdversaryFacts.{k_fact}
use Rattle.sap_terms.specs.Choice.{instance}
use Rattle.sap_terms.specs.Destructors.{HasDestructor}
use Rattle.sap_terms.specs.Equal.{IsTheoryEqual}
use Rattle.sap_terms.specs.Equations.{equations, app2, pair_name}
use Rattle.sap_terms.specs.Ground.{IsGround}
use Rattle.sap_terms.specs.Message.{IsMessageChoice}
use Rattle.sap_terms.specs.Variables.{tree_vars, new_vars}
use Rattle.sap_terms.specs.View.{tree}
use Rattle.sap_terms.specs.declared.fact.Fact.{Fact}
use Rattle.sap_terms.specs.declared.term.Term.{Term}
use Rattle.sap_rewrite.specs.Match.{HaveOneSort}
use Rattle.sap_deduce.specs.Entries.{Entries, terms_of}
use Rattle.sap_process.specs.Action as action
use Rattle.sap_process.specs.Configuration.{Runs}
use Rattle.sap_process.specs.Instance.{process_instance}
use Rattle.sap_process.specs.Proc.{act}
use Rattle.sap_process.specs.ProcessSteps.{Fits}
use Rattle.sap_process.specs.Sites.{var_names}
use Rattle.sap_process.specs.Sorted.{with_sorts, by_binder}
use Rattle.sap_runs.specs.declared.process_step.PStep.TheVariants as line
use Rattle.sap_share.specs.Env.{given}
use Rattle.sap_share.specs.Shared.{Shared, tree_at, Keeps}
use Rattle.sap_share.specs.declared.env.Bound.{Bound}
use Rattle.sap_lines.specs.Faults.{no_memory, unknown_input, unfitting, unfitting_part, other_part}
use Rattle.sap_lines.specs.Lines.{inputs, inputs_on}
use Rattle.sap_lines.specs.Places.{proc_at, procs_of}
use Rattle.sap_lines.specs.Sorts.{PatternsHaveOneSort}
use Rattle.sap_lines.specs.declared.fault.PFault.{PFault}
use Rattle.sap_lines.specs.declared.fault.PFault.TheVariants as fault
use Rattle.sap_lines.specs.declared.form.Form.TheVariants.{Nil, In, Recv}
use Rattle.sap_lines.specs.declared.place.Place.{Place}
use Rattle.sap_heads.specs.Taken.{IsTaken, IsUntaken, IsReceived, IsUnreceived}
use Rattle.sap_heads.specs.Taken as take
use Rattle.sap_heads.specs.Values.{CanEvaluate}
use Rattle.sap_calc.specs.Running.{IsDone, IsDenied}
use Rattle.sap_calc.specs.code.Given.{IsEntryNumber}
use Rattle.sap_calc.specs.code.Parts.{Parts, AreTied, seen}
use Rattle.sap_calc.specs.code.Sound.{IsSoundFrom}
use Rattle.sap_calc.specs.code.Threads.{live}
use Rattle.sap_calc.specs.declared.thread.Thread.{Thread}
use Rattle.sap_calc.proofs.Evaluable.{first_of}
use Rattle.sap_calc.proofs.Further.{further_is, further_tied}
use Rattle.sap_calc.proofs.Goes.{can_one, denied_value}
use Rattle.sap_calc.proofs.Lines.{thread_tied, children_below, runs_form, sound_form}
use Rattle.sap_calc.proofs.Moves.{small_stays, tree_stays}
use Rattle.sap_calc.proofs.Sounds.{sound_head}
use Rattle.sap_calc.specs.Running.{configuration}

-- an entry has its number at a larger table
pub entry_there : (u v : Shared) (known : Entries) (k e : ℕ) → Keeps u v → IsEntryNumber u known k e → IsEntryNumber v known k e
entry_there u v known k e keeps h = record { small = small_stays u v keeps e h.small; at = h.at ∙ ap Some (sym (tree_stays u v keeps e h.small.below)) }

module _ (P : Parts) (t : ℕ) (th : Thread) (x : Place) (tied : AreTied P) (is : Some th ≡ live P.threads t) (at : slice_get P.places th.place ≡ Some x) where
  -- a thread that takes on a channel
  module _ (m n : Term) (form : x.form ≡ Recv m n) where
    pub recv_sound : IsSoundFrom P.table.sig (thread_tied P t th tied is).above (act (action.receive (tree m) (tree n)) (proc_at (procs_of P.places) x.first))
    recv_sound = sound_form P t th x tied is at (Recv m n) form

    pub recv_runs : Runs (configuration (seen P)) t (act (action.receive (instance (given P.table.trees th.env) (tree m)) (instance (given P.table.trees th.env) (tree n))) (process_instance (given P.table.trees th.env) (proc_at (procs_of P.places) x.first)))
    recv_runs = runs_form P t th x tied is at (Recv m n) form

    pub recv_below : (x.first < length P.places) × (x.second < length P.places)
    recv_below = children_below P t th x tied is at (λ leaf. let e : Recv m n ≡ Nil = sym form ∙ leaf in cc)

    pub recv_one : PatternsHaveOneSort → HaveOneSort (tree_vars (tree n))
    recv_one sorts =
        let scope = (thread_tied P t th tied is).above.scope in
        let more = scope ++ new_vars (var_names scope) (tree_vars (tree n)) in
        let q = proc_at (procs_of P.places) x.first in
        let e : act (action.receive (instance (by_binder more) (tree m)) (instance (by_binder more) (tree n))) (with_sorts more q) ≡ act (action.receive (tree m) (tree n)) q = recv_sound.sorted in
        let same : instance (by_binder more) (tree n) ≡ tree n = cc in
        sorts scope (tree n) same

    pub recv_clean : HasDestructor P.table.sig (tree n) → ⊥
    recv_clean d = (sound_head P.table.sig _ _ recv_sound).plain (record { term = tree n; stands = first_of (tree n) []; destructor = d })

  -- from the adversary
  module _ (n : Term) (form : x.form ≡ In n) where
    in_sound : IsSoundFrom P.table.sig (thread_tied P t th tied is).above (act (action.input (tree n)) (proc_at (procs_of P.places) x.first))
    in_sound = sound_form P t th x tied is at (In n) form

    in_runs : Runs (configuration (seen P)) t (act (action.input (instance (given P.table.trees th.env) (tree n))) (process_instance (given P.table.trees th.env) (proc_at (procs_of P.places) x.first)))
    in_runs = runs_form P t th x tied is at (In n) form

    in_below : (x.first < length P.places) × (x.second < length P.places)
    in_below = children_below P t th x tied is at (λ leaf. let e : In n ≡ Nil = sym form ∙ leaf in cc)

    pub in_one : PatternsHaveOneSort → HaveOneSort (tree_vars (tree n))
    in_one sorts =
        let scope = (thread_tied P t th tied is).above.scope in
        let more = scope ++ new_vars (var_names scope) (tree_vars (tree n)) in
        let q = proc_at (procs_of P.places) x.first in
        let e : act (action.input (instance (by_binder more) (tree n))) (with_sorts more q) ≡ act (action.input (tree n)) q = in_sound.sorted in
        let same : instance (by_binder more) (tree n) ≡ tree n = cc in
        sorts scope (tree n) same

    pub in_clean : HasDestructor P.table.sig (tree n) → ⊥
    in_clean d = (sound_head P.table.sig _ _ in_sound).plain (record { term = tree n; stands = first_of (tree n) []; destructor = d })

  module _ (k e : ℕ) (entry : IsEntryNumber P.table P.known k e) where
    in_denied : (n : Term) (form : x.form ≡ In n) (f : PFault) → IsUntaken P.table th.env (tree n) (tree_at P.table.trees e) f → IsDenied (seen P) (line.In t k) f
    in_denied n form f (inl h) = rw h (no_memory (line.In t k))
    in_denied n form f (inr h) = rw h.0 (unfitting t k (in_runs n form) entry.at (rw tied.numbered.sig at h.1))

    in_tied : (n : Term) (form : x.form ≡ In n) (env : List Bound) → IsTaken P.table th.env (tree n) (tree_at P.table.trees e) env → AreTied (record P { threads = slice_set P.threads t (Some (record { place = x.first; env = env })) })
    in_tied n form env f = further_tied P t th tied is f.choice (tree_vars (tree n)) (tree_vars (instance (given P.table.trees th.env) (tree n))) x.first env f.bound (action.input (tree n)) (λ scope. refl) (in_below n form).0 (in_sound n form)

    in_line : (n : Term) (form : x.form ≡ In n) (env : List Bound) → IsTaken P.table th.env (tree n) (tree_at P.table.trees e) env
        → IsDone (seen P) (seen (record P { threads = slice_set P.threads t (Some (record { place = x.first; env = env })) })) (line.In t k) (k_fact (tree_at P.table.trees e) ∷ [])
    in_line n form env f =
        let good : Fits P.known.sig f.choice (instance (given P.table.trees th.env) (tree n)) (tree_at P.table.trees e) = rw tied.numbered.sig at f.fits in
        record {
          inner = [];
          line = rw (further_is P t th tied is f.choice (tree_vars (tree n)) (tree_vars (instance (given P.table.trees th.env) (tree n))) x.first env f.bound) (inputs t k f.choice (in_runs n form) entry.at good);
          sig = refl;
        }

    -- on a channel
    module _ (m n : Term) (form : x.form ≡ Recv m n) where
      recv_denied : (f : PFault) → IsUnreceived P.table th.env (tree m) (tree n) (tree_at P.table.trees e) f → IsDenied (seen P) (line.In t k) f
      recv_denied f (take.unvalued h) = denied_value P (line.In t k) t _ f tied refl (recv_runs m n form) refl (tree_at P.table.trees e, entry.at) h
      recv_denied f take.no_memory = no_memory (line.In t k)
      recv_denied f (take.unfitting small never) = unfitting_part t k (recv_runs m n form) entry.at (rw tied.numbered.sig at small) (rw tied.numbered.sig at never)
      recv_denied f (take.other_channel σ y z small pair fits other) = other_part t k σ (recv_runs m n form) entry.at (rw tied.numbered.sig at small) pair (rw tied.numbered.sig at fits) (rw tied.numbered.sig at other)

      recv_tied : (env : List Bound) → IsReceived P.table th.env (tree m) (tree n) (tree_at P.table.trees e) env → AreTied (record P { threads = slice_set P.threads t (Some (record { place = x.first; env = env })) })
      recv_tied env f = further_tied P t th tied is f.choice (tree_vars (tree n)) (tree_vars (instance (given P.table.trees th.env) (tree n))) x.first env f.bound (action.receive (tree m) (tree n)) (λ scope. refl) (recv_below m n form).0 (recv_sound m n form)

      recv_line : (env : List Bound) → IsReceived P.table th.env (tree m) (tree n) (tree_at P.table.trees e) env
          → IsDone (seen P) (seen (record P { threads = slice_set P.threads t (Some (record { place = x.first; env = env })) })) (line.In t k) (k_fact (tree_at P.table.trees e) ∷ [])
      recv_line env f =
          let mine : IsMessageChoice P.known.sig f.choice = rw tied.numbered.sig at f.messages in
          let equal : IsTheoryEqual (equations P.known.sig) (app2 pair_name (instance (given P.table.trees th.env) (tree m)) (instance f.choice (instance (given P.table.trees th.env) (tree n)))) (tree_at P.table.trees e) = rw tied.numbered.sig at f.equal in
          record {
            inner = [];
            line = rw (further_is P t th tied is f.choice (tree_vars (tree n)) (tree_vars (instance (given P.table.trees th.env) (tree n))) x.first env f.bound) (inputs_on t k f.choice (recv_runs m n form) entry.at mine equal (rw tied.numbered.sig at f.small));
            sig = refl;
          }

    -- of either form
    module _ {X : Type 0} (now : X → Term) (n : Term) where
      pub input_denied : (o : Option X) → MatchOption o (x.form ≡ In n) (λ m. x.form ≡ Recv (now m) n) → (f : PFault) → MatchOption o (IsUntaken P.table th.env (tree n) (tree_at P.table.trees e) f) (λ m. IsUnreceived P.table th.env (tree (now m)) (tree n) (tree_at P.table.trees e) f) → IsDenied (seen P) (line.In t k) f
      input_denied None form f h = in_denied n form f h
      input_denied (Some m) form f h = recv_denied (now m) n form f h

      pub input_tied : (o : Option X) → MatchOption o (x.form ≡ In n) (λ m. x.form ≡ Recv (now m) n) → (env : List Bound) → MatchOption o (IsTaken P.table th.env (tree n) (tree_at P.table.trees e) env) (λ m. IsReceived P.table th.env (tree (now m)) (tree n) (tree_at P.table.trees e) env)
          → AreTied (record P { threads = slice_set P.threads t (Some (record { place = x.first; env = env })) })
      input_tied None form env f = in_tied n form env f
      input_tied (Some m) form env f = recv_tied (now m) n form env f

      pub input_line : (o : Option X) → MatchOption o (x.form ≡ In n) (λ m. x.form ≡ Recv (now m) n) → (env : List Bound) → MatchOption o (IsTaken P.table th.env (tree n) (tree_at P.table.trees e) env) (λ m. IsReceived P.table th.env (tree (now m)) (tree n) (tree_at P.table.trees e) env)
          → (label : List Fact) → label ≡ k_fact (tree_at P.table.trees e) ∷ [] → IsDone (seen P) (seen (record P { threads = slice_set P.threads t (Some (record { place = x.first; env = env })) })) (line.In t k) label
      input_line None form env f label shown = rw shown (in_line n form env f)
      input_line (Some m) form env f label shown = rw shown (recv_line (now m) n form env f)

-- before an entry is known
module _ (P : Parts) (t : ℕ) (th : Thread) (x : Place) (tied : AreTied P) (is : Some th ≡ live P.threads t) (at : slice_get P.places th.place ≡ Some x) {X : Type 0} (now : X → Term) (n : Term) where
  pub input_unknown : (o : Option X) → MatchOption o (x.form ≡ In n) (λ m. x.form ≡ Recv (now m) n) → (k : ℕ) → slice_get (terms_of P.known.entries) k ≡ None → IsDenied (seen P) (line.In t k) (fault.NoEntry k)
  input_unknown None form k none = unknown_input t k (runs_form P t th x tied is at (In n) form) refl none
  input_unknown (Some m) form k none = unknown_input t k (runs_form P t th x tied is at (Recv (now m) n) form) refl none

  pub input_can : (o : Option X) → MatchOption o (x.form ≡ In n) (λ m. x.form ≡ Recv (now m) n) → ((k : ℕ) → k < length P.table.trees → IsGround (tree_at P.table.trees k)) → MatchOption o (Unit {0}) (λ m. CanEvaluate P.table th.env (tree (now m)))
  input_can None form grounds = tt
  input_can (Some m) form grounds =
      let sound = sound_form P t th x tied is at (Recv (now m) n) form in
      let here = sound_head P.table.sig _ _ sound in
      can_one P t th tied is grounds sound.path (act (action.receive (tree (now m)) (tree n)) (proc_at (procs_of P.places) x.first)) here (tree (now m)) here.bound (first_of (tree (now m)) (tree n ∷ []))

  pub input_sorts : (o : Option X) → MatchOption o (x.form ≡ In n) (λ m. x.form ≡ Recv (now m) n) → PatternsHaveOneSort → HaveOneSort (tree_vars (tree n))
  input_sorts None form sorts = in_one P t th x tied is at n form sorts
  input_sorts (Some m) form sorts = recv_one P t th x tied is at (now m) n form sorts

  pub input_plain : (o : Option X) → MatchOption o (x.form ≡ In n) (λ m. x.form ≡ Recv (now m) n) → HasDestructor P.table.sig (tree n) → ⊥
  input_plain None form d = in_clean P t th x tied is at n form d
  input_plain (Some m) form d = recv_clean P t th x tied is at (now m) n form d
