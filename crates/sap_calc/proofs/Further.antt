-- A thread that goes on where more is bound.
use Rattle.std.proofs.Common.{◌≡◌, ◌<◌, ◌+◌, ℕ, List, length, Some, sym, ap, ◌∙◌, ◌++◌}
use Rattle.std.specs.Prelude.{slice_set}
use Rattle.std.proofs.lemmas.List.{map-append}
use Rattle.sap_terms.specs.Choice.{Choice}
use Rattle.sap_terms.specs.Variables.{new_vars}
use Rattle.sap_terms.specs.declared.var.Var.{Var}
use Rattle.sap_process.specs.Action.{Action}
use Rattle.sap_process.specs.Configuration.{becomes}
use Rattle.sap_process.specs.Heads.{locks_set}
use Rattle.sap_process.specs.Instance.{process_instance}
use Rattle.sap_process.specs.Proc.{act}
use Rattle.sap_process.specs.ProcessSteps.{with_choice}
use Rattle.sap_process.specs.Sites.{above_of, var_names, bound_by}
use Rattle.sap_share.specs.Env.{given}
use Rattle.sap_share.specs.declared.env.Bound.{Bound}
use Rattle.sap_lines.specs.Places.{proc_at, procs_of}
use Rattle.sap_heads.specs.Bound.{IsExtended}
use Rattle.sap_calc.specs.Running.{configuration}
use Rattle.sap_calc.specs.code.Parts.{Parts, AreTied, seen}
use Rattle.sap_calc.specs.code.Sound.{IsSoundFrom}
use Rattle.sap_calc.specs.code.Threads.{live, IsThread}
use Rattle.sap_calc.specs.declared.thread.Thread.{Thread}
use Rattle.sap_calc.proofs.Lines.{thread_tied}
use Rattle.sap_calc.proofs.Moves.{sets_tied, sets_is}
use Rattle.sap_calc.proofs.Sounds.{sound_behind}

-- a thread at this place, to which this is bound
abbrev pub thread_with : ℕ → List Bound → Thread
thread_with next env = record { place = next; env = env }

module _ (P : Parts) (t : ℕ) (th : Thread) (tied : AreTied P) (is : Some th ≡ live P.threads t) (σ : Choice) (vs ws : List Var) (next : ℕ) (env : List Bound) (b : IsExtended P.table th.env σ vs ws env) where
  pub further_is : configuration (seen (record P { threads = slice_set P.threads t (Some (record { place = next; env = env })) })) ≡ becomes (configuration (seen P)) t (Some (with_choice σ ws (process_instance (given P.table.trees th.env) (proc_at (procs_of P.places) next))))
  further_is = sets_is P t (record { place = next; env = env }) ∙ ap (λ p. becomes (configuration (seen P)) t (Some p)) (b.goes (proc_at (procs_of P.places) next))

  module _ (a : Action) (binds : (scope : List Var) → bound_by scope a ≡ new_vars (var_names scope) vs) (below : next < length P.places) (sound : IsSoundFrom P.table.sig (thread_tied P t th tied is).above (act a (proc_at (procs_of P.places) next))) where
    pub further_thread : IsThread P.table P.places (record { place = next; env = env })
    further_thread =
        let o = thread_tied P t th tied is in
        let there : IsSoundFrom P.table.sig (above_of (o.above.scope ++ bound_by o.above.scope a) (o.above.locks + locks_set a)) (proc_at (procs_of P.places) next) = sound_behind P.table.sig _ _ _ sound in
        record {
          below = below;
          above = above_of (o.above.scope ++ bound_by o.above.scope a) (o.above.locks + locks_set a);
          sound = there;
          names = b.names ∙ (λ i. o.names i ++ var_names (new_vars (o.names i) vs)) ∙ ap (λ xs. var_names o.above.scope ++ var_names xs) (sym (binds o.above.scope)) ∙ sym (map-append (λ (v : Var). v.name) o.above.scope (bound_by o.above.scope a));
          small = b.small;
        }

    pub further_tied : AreTied (record P { threads = slice_set P.threads t (Some (record { place = next; env = env })) })
    further_tied = sets_tied P t (record { place = next; env = env }) tied further_thread
