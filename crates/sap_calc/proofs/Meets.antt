-- Two threads that meet on a channel.
use Rattle.std.proofs.Common.{◌≡◌, ◌<◌, ℕ, zero, suc, arith, Bool, List, [], ◌∷◌, length, Some, None, refl, ap, ◌∙◌, inl, inr}
use Rattle.std.specs.Prelude.{slice_get, slice_set}
use Rattle.sap_terms.specs.Choice.{instance}
use Rattle.sap_terms.specs.Destructors.{HasDestructor}
use Rattle.sap_terms.specs.Equal.{IsTheoryEqual}
use Rattle.sap_terms.specs.Equations.{equations}
use Rattle.sap_terms.specs.Ground.{IsGround}
use Rattle.sap_terms.specs.Variables.{tree_vars}
use Rattle.sap_terms.specs.View.{tree}
use Rattle.sap_terms.specs.declared.fact.Fact.{Fact}
use Rattle.sap_terms.specs.declared.term.Term.{Term}
use Rattle.sap_rewrite.specs.Match.{HaveOneSort}
use Rattle.sap_process.specs.Action as action
use Rattle.sap_process.specs.Configuration.{becomes}
use Rattle.sap_process.specs.Instance.{process_instance}
use Rattle.sap_process.specs.Proc.{Proc, act}
use Rattle.sap_process.specs.ProcessSteps.{with_choice, Fits}
use Rattle.sap_runs.specs.declared.process_step.PStep.TheVariants as line
use Rattle.sap_share.specs.Env.{given}
use Rattle.sap_share.specs.Shared.{tree_at}
use Rattle.sap_share.specs.declared.env.Bound.{Bound}
use Rattle.sap_lines.specs.Faults.{IsUnfit, EvaluateSmall, is_send, is_receive, not_running, other_form, no_memory, unfit_sender, unfit_receiver, large_meeting, unfitting_message, channels_differ}
use Rattle.sap_lines.specs.Heads.{Lacks}
use Rattle.sap_lines.specs.Lines.{meets}
use Rattle.sap_lines.specs.Places.{proc_at, procs_of}
use Rattle.sap_lines.specs.Sorts.{PatternsHaveOneSort}
use Rattle.sap_lines.specs.declared.fault.PFault.{PFault}
use Rattle.sap_lines.specs.declared.fault.PFault.TheVariants as fault
use Rattle.sap_lines.specs.declared.form.Form.TheVariants.{Send, Recv}
use Rattle.sap_lines.specs.declared.place.Place.{Place}
use Rattle.sap_heads.specs.Taken.{IsMet, IsUnmet, unmet_values, misfit, apart}
use Rattle.sap_heads.specs.Values.{CanEvaluate}
use Rattle.sap_calc.specs.Running.{configuration, IsDone, IsDenied}
use Rattle.sap_calc.specs.code.Parts.{Parts, AreTied, seen}
use Rattle.sap_calc.specs.code.Threads.{live}
use Rattle.sap_calc.specs.declared.thread.Thread.{Thread}
use Rattle.sap_calc.proofs.Channels.{behind, send_sound, send_runs, send_below}
use Rattle.sap_calc.proofs.Evaluable.{first_of}
use Rattle.sap_calc.proofs.Further.{further_thread}
use Rattle.sap_calc.proofs.Goes.{can_one}
use Rattle.sap_calc.proofs.Inputs.{recv_sound, recv_runs, recv_below, recv_one, recv_clean}
use Rattle.sap_calc.proofs.Lines.{sound_form}
use Rattle.sap_calc.proofs.Moves.{runs_thread, none_runs, running_at, sets_tied, sets_is}
use Rattle.sap_calc.proofs.Sounds.{sound_head, sound_behind}

pub unfit_thread : (P : Parts) (t : ℕ) (test : Proc → Bool) → None ≡ live P.threads t → IsUnfit (configuration (seen P)) t test (fault.NoThread t)
unfit_thread P t test is = not_running (none_runs P t is)

pub unfit_form : (P : Parts) (t : ℕ) (th : Thread) (x : Place) (test : Proc → Bool) → AreTied P → Some th ≡ live P.threads t → slice_get P.places th.place ≡ Some x → Lacks test x.form → IsUnfit (configuration (seen P)) t test (fault.WrongForm t)
unfit_form P t th x test tied is at lacks =
    other_form (runs_thread P t th is) (ap test (running_at P th x tied at) ∙ lacks (given P.table.trees th.env) (proc_at (procs_of P.places) x.first) (proc_at (procs_of P.places) x.second))

pub set_below : {X : Type 0} (xs : List X) (i : ℕ) (x : X) (t : ℕ) → t < length xs → t < length (slice_set xs i x)
set_below [] i x t lt = lt
set_below (y ∷ ys) zero x t lt = lt
set_below (y ∷ ys) (suc i) x zero lt = omega arith
set_below (y ∷ ys) (suc i) x (suc t) lt = let less : t < length ys = omega (arith, lt) in let k = set_below ys i x t less in omega (arith, k)

pub sync_no_sender : (P : Parts) (s t : ℕ) → None ≡ live P.threads s → IsDenied (seen P) (line.Sync s t) (fault.NoThread s)
sync_no_sender P s t is = unfit_sender s t (unfit_thread P s is_send is)

pub sync_no_send : (P : Parts) (s t : ℕ) (th : Thread) (x : Place) → AreTied P → Some th ≡ live P.threads s → slice_get P.places th.place ≡ Some x → Lacks is_send x.form → IsDenied (seen P) (line.Sync s t) (fault.WrongForm s)
sync_no_send P s t th x tied is at lacks = unfit_sender s t (unfit_form P s th x is_send tied is at lacks)

module _ (P : Parts) (tied : AreTied P) (s : ℕ) (sender : Thread) (from : Place) (is_sender : Some sender ≡ live P.threads s) (at_sender : slice_get P.places sender.place ≡ Some from) (m n : Term) (sends : from.form ≡ Send m n) (t : ℕ) where
  pub sync_no_receiver : None ≡ live P.threads t → IsDenied (seen P) (line.Sync s t) (fault.NoThread t)
  sync_no_receiver is = unfit_receiver s t (send_runs P s sender from tied is_sender at_sender m n sends) (unfit_thread P t is_receive is)

  module _ (th : Thread) (x : Place) (is : Some th ≡ live P.threads t) (at : slice_get P.places th.place ≡ Some x) where
    pub sync_no_receive : Lacks is_receive x.form → IsDenied (seen P) (line.Sync s t) (fault.WrongForm t)
    sync_no_receive lacks = unfit_receiver s t (send_runs P s sender from tied is_sender at_sender m n sends) (unfit_form P t th x is_receive tied is at lacks)

    module _ (l p : Term) (form : x.form ≡ Recv l p) where
      pub sync_can : ((k : ℕ) → k < length P.table.trees → IsGround (tree_at P.table.trees k)) → CanEvaluate P.table th.env (tree l)
      sync_can grounds =
          let sound = sound_form P t th x tied is at (Recv l p) form in
          let here = sound_head P.table.sig _ _ sound in
          can_one P t th tied is grounds sound.path (act (action.receive (tree l) (tree p)) (proc_at (procs_of P.places) x.first)) here (tree l) here.bound (first_of (tree l) (tree p ∷ []))

      pub sync_sorts : PatternsHaveOneSort → HaveOneSort (tree_vars (tree p))
      sync_sorts = recv_one P t th x tied is at l p form

      pub sync_plain : HasDestructor P.table.sig (tree p) → ⊥
      sync_plain = recv_clean P t th x tied is at l p form

      pub sync_denied : (f : PFault) → IsUnmet P.table sender.env th.env (tree m) (tree n) (tree l) (tree p) f → IsDenied (seen P) (line.Sync s t) f
      sync_denied f (unmet_values (inl h)) = rw h (no_memory (line.Sync s t))
      sync_denied f (unmet_values (inr h)) = rw h.0 (large_meeting s t (send_runs P s sender from tied is_sender at_sender m n sends) (recv_runs P t th x tied is at l p form) (rw tied.numbered.sig at h.1))
      sync_denied f (misfit small none_fits) = unfitting_message s t (send_runs P s sender from tied is_sender at_sender m n sends) (recv_runs P t th x tied is at l p form) (rw tied.numbered.sig at small) (rw tied.numbered.sig at none_fits)
      sync_denied f (apart σ small fits other) = channels_differ s t σ (send_runs P s sender from tied is_sender at_sender m n sends) (recv_runs P t th x tied is at l p form) (rw tied.numbered.sig at small) (rw tied.numbered.sig at fits) (rw tied.numbered.sig at other)

      module _ (env : List Bound) (f : IsMet P.table sender.env th.env (tree m) (tree n) (tree l) (tree p) env) where
        pub sync_tied : AreTied (record P { threads = slice_set (slice_set P.threads s (Some (record sender { place = from.first }))) t (Some (record { place = x.first; env = env })) })
        sync_tied =
            let first = sets_tied P s (record sender { place = from.first }) tied (behind P s sender from tied is_sender _ (send_below P s sender from tied is_sender at_sender m n sends).0 (sound_behind P.table.sig _ _ _ (send_sound P s sender from tied is_sender at_sender m n sends))) in
            sets_tied (record P { threads = slice_set P.threads s (Some (record sender { place = from.first })) }) t (record { place = x.first; env = env }) first
            (further_thread P t th tied is f.choice (tree_vars (tree p)) (tree_vars (instance (given P.table.trees th.env) (tree p))) x.first env f.bound (action.receive (tree l) (tree p)) (λ scope. refl) (recv_below P t th x tied is at l p form).0 (recv_sound P t th x tied is at l p form))

        pub sync_line : (label : List Fact) → label ≡ [] → IsDone (seen P) (seen (record P { threads = slice_set (slice_set P.threads s (Some (record sender { place = from.first }))) t (Some (record { place = x.first; env = env })) })) (line.Sync s t) label
        sync_line label silent =
            let q = proc_at (procs_of P.places) x.first in
            let channel : IsTheoryEqual (equations P.known.sig) (instance (given P.table.trees sender.env) (tree m)) (instance (given P.table.trees th.env) (tree l)) = rw tied.numbered.sig at f.channel in
            let small : EvaluateSmall P.known.sig ((instance (given P.table.trees sender.env) (tree m)) ∷ (instance (given P.table.trees sender.env) (tree n)) ∷ (instance (given P.table.trees th.env) (tree l)) ∷ []) = rw tied.numbered.sig at f.small in
            let good : Fits P.known.sig f.choice (instance (given P.table.trees th.env) (tree p)) (instance (given P.table.trees sender.env) (tree n)) = rw tied.numbered.sig at f.fits in
            let after : configuration (seen (record P { threads = slice_set (slice_set P.threads s (Some (record sender { place = from.first }))) t (Some (record { place = x.first; env = env })) })) ≡ becomes (becomes (configuration (seen P)) s (Some (process_instance (given P.table.trees sender.env) (proc_at (procs_of P.places) from.first)))) t (Some (with_choice f.choice (tree_vars (instance (given P.table.trees th.env) (tree p))) (process_instance (given P.table.trees th.env) q))) =
            sets_is (record P { threads = slice_set P.threads s (Some (record sender { place = from.first })) }) t (record { place = x.first; env = env }) ∙ ap (λ c. becomes c t (Some (process_instance (given P.table.trees env) q))) (sets_is P s (record sender { place = from.first }))
            ∙ ap (λ r. becomes (becomes (configuration (seen P)) s (Some (process_instance (given P.table.trees sender.env) (proc_at (procs_of P.places) from.first)))) t (Some r)) (f.bound.goes q) in
            rw silent (record { inner = []; line = rw after (meets s t f.choice (send_runs P s sender from tied is_sender at_sender m n sends) (recv_runs P t th x tied is at l p form) channel good small); sig = refl })
