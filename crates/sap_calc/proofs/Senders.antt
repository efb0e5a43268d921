-- The channel that a thread sends on, of the parts.
use Rattle.std.proofs.Common.{◌≡◌, ℕ, [], ◌∷◌, Some, None, slice_get, sym, ap, subst, ◌∙◌, inl, inr}
use Rattle.std.specs.Prelude.{Result, Ok, Err, IfOk, IfErr}
use Rattle.sap_terms.specs.Choice.{instance}
use Rattle.sap_terms.specs.Tree.{Tree}
use Rattle.sap_terms.specs.View.{tree}
use Rattle.sap_terms.specs.declared.term.Term.{Term}
use Rattle.sap_share.specs.Env.{given}
use Rattle.sap_share.specs.Shared.{Shared, tree_at}
use Rattle.sap_heads.specs.Values.{AreValues, IsValueFault}
use Rattle.sap_lines.specs.Channels.{SendsOn, HasNoChannel, no_memory, unfit, too_large}
use Rattle.sap_lines.specs.Faults.{is_send, not_running, other_form}
use Rattle.sap_lines.specs.Heads.{Lacks}
use Rattle.sap_lines.specs.Places.{proc_at, procs_of}
use Rattle.sap_lines.specs.declared.fault.PFault.{PFault}
use Rattle.sap_lines.specs.declared.fault.PFault.TheVariants as fault
use Rattle.sap_lines.specs.declared.form.Form.TheVariants.{Send}
use Rattle.sap_lines.specs.declared.place.Place.{Place}
use Rattle.sap_calc.specs.Running.{configuration}
use Rattle.sap_calc.specs.code.Parts.{Parts, AreTied, seen}
use Rattle.sap_calc.specs.code.Threads.{live}
use Rattle.sap_calc.specs.declared.thread.Thread.{Thread}
use Rattle.sap_calc.proofs.Channels.{send_runs}
use Rattle.sap_calc.proofs.Moves.{runs_thread, none_runs, running_at}

-- no thread runs there
pub no_sender : (P : Parts) (t : ℕ) → None ≡ live P.threads t → HasNoChannel P.known.sig (configuration (seen P)) t (fault.NoThread t)
no_sender P t is = unfit (not_running (none_runs P t is))

-- or one that doesn't send on a channel
pub other_sender : (P : Parts) (t : ℕ) (th : Thread) (x : Place) → AreTied P → Some th ≡ live P.threads t → slice_get P.places th.place ≡ Some x → Lacks is_send x.form
    → HasNoChannel P.known.sig (configuration (seen P)) t (fault.WrongForm t)
other_sender P t th x tied is at lacks =
    unfit (other_form (runs_thread P t th is) (ap is_send (running_at P th x tied at) ∙ lacks (given P.table.trees th.env) (proc_at (procs_of P.places) x.first) (proc_at (procs_of P.places) x.second)))

module _ (P : Parts) (t : ℕ) (th : Thread) (x : Place) (tied : AreTied P) (is : Some th ≡ live P.threads t) (at : slice_get P.places th.place ≡ Some x) (m n : Term) (form : x.form ≡ Send m n) where
  pub large_sender : (f : PFault) → IsValueFault P.table.sig (instance (given P.table.trees th.env) (tree m) ∷ instance (given P.table.trees th.env) (tree n) ∷ []) f
      → HasNoChannel P.known.sig (configuration (seen P)) t f
  large_sender f (inl none) = rw none no_memory
  large_sender f (inr big) = rw big.0 (too_large (send_runs P t th x tied is at m n form) (rw tied.numbered.sig at big.1))

  pub sender : (u : Shared) (i j : ℕ) → AreValues P.table u th.env (tree m) (tree n) i j → SendsOn P.known.sig (configuration (seen P)) t (tree_at u.trees i)
  sender u i j v = record {
    channel = instance (given P.table.trees th.env) (tree m);
    message = instance (given P.table.trees th.env) (tree n);
    behind = _;
    runs = send_runs P t th x tied is at m n form;
    form = rw tied.numbered.sig at v.first_form;
    small = rw tied.numbered.sig at v.small;
  }

  -- the term of the channel's number is its normal form, and where there is none memory was wanting
  pub sender_told : (u : Shared) (i j : ℕ) → AreValues P.table u th.env (tree m) (tree n) i j → (r : Result Term PFault) → IfOk r (λ x. tree x ≡ tree_at u.trees i)
      → IfOk r (λ x. SendsOn P.known.sig (configuration (seen P)) t (tree x))
  sender_told u i j v (Ok x) h = subst (λ (y : Tree). SendsOn P.known.sig (configuration (seen P)) t y) (sym h) (sender u i j v)
  sender_told u i j v (Err e) h = tt

pub memory_wanted : (P : Parts) (t : ℕ) (r : Result Term PFault) → IfErr r (λ e. e ≡ fault.Mem) → IfErr r (HasNoChannel P.known.sig (configuration (seen P)) t)
memory_wanted P t (Ok x) h = tt
memory_wanted P t (Err e) h = rw h no_memory
