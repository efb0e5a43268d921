-- Threads that make names.
use Rattle.std.proofs.Common.{◌≡◌, ◌<◌, ℕ, List, [], ◌∷◌, ◌++◌, length, Some, Bool, true, false, refl, sym, ap, ◌∙◌, ◌⊎◌, inl, inr}
use Rattle.std.specs.Prelude.{slice_get, slice_set, Contains}
use Rattle.sap_terms.specs.Tree.{fresh}
use Rattle.sap_terms.specs.Variables.{is_known}
use Rattle.sap_terms.specs.declared.fact.Fact.{Fact}
use Rattle.sap_terms.specs.declared.var.Var.{Var}
use Rattle.sap_process.specs.Action as action
use Rattle.sap_process.specs.Configuration.{Runs, becomes, makes}
use Rattle.sap_process.specs.Instance.{process_instance, without}
use Rattle.sap_process.specs.Proc.{act}
use Rattle.sap_process.specs.ProcessSteps.{with_term}
use Rattle.sap_process.specs.Sites.{scope_below, var_names, fresh_var}
use Rattle.sap_runs.specs.declared.process_step.PStep.TheVariants as line
use Rattle.sap_share.specs.Env.{given}
use Rattle.sap_share.specs.Shared.{Shared, tree_at, Keeps}
use Rattle.sap_share.specs.declared.env.Bound.{Bound}
use Rattle.sap_lines.specs.Faults.{used_name}
use Rattle.sap_lines.specs.Lines.{makes_name}
use Rattle.sap_calc.specs.Running.{configuration, IsDone, IsDenied}
use Rattle.sap_lines.specs.Places.{proc_at, procs_of}
use Rattle.sap_calc.specs.code.Parts.{Parts, AreTied, seen}
use Rattle.sap_calc.specs.code.Sound.{IsSoundFrom}
use Rattle.sap_calc.specs.code.Threads.{running, live, IsThread}
use Rattle.sap_heads.specs.Bound.{names_of, IsBoundTo}
use Rattle.sap_lines.specs.declared.fault.PFault.TheVariants as fault
use Rattle.sap_lines.specs.declared.form.Form.TheVariants.{Nil, New}
use Rattle.sap_lines.specs.declared.place.Place.{Place}
use Rattle.sap_calc.specs.declared.thread.Thread.{Thread}
use Rattle.sap_calc.proofs.Lines.{thread_tied, children_below, runs_form, sound_form}
use Rattle.sap_calc.proofs.Moves.{keeps_tied, keeps_seen, sets_tied, sets_is, given_stays}
use Rattle.sap_calc.proofs.Numbered.{map_last}
use Rattle.sap_calc.proofs.Sounds.{sound_head, sound_behind}

-- names that were made are tied to nothing
pub made_tied : (P : Parts) (ns : List ℕ) → AreTied P → AreTied (record P { made = ns })
made_tied P ns tied = record {
  numbered = tied.numbered;
  places = tied.places;
  threads = tied.threads;
  keys = tied.keys;
  values = tied.values;
  held = tied.held;
  own = tied.own;
  slots = tied.slots;
  facts = tied.facts;
}

module _ (P : Parts) (t : ℕ) (th : Thread) (x : Place) (tied : AreTied P) (is : Some th ≡ live P.threads t) (at : slice_get P.places th.place ≡ Some x) (y : Var) (form : x.form ≡ New y) where
  new_sound : IsSoundFrom P.table.sig (thread_tied P t th tied is).above (act (action.new y) (proc_at (procs_of P.places) x.first))
  new_sound = sound_form P t th x tied is at (New y) form

  new_runs : Runs (configuration (seen P)) t (act (action.new y) (process_instance (without (given P.table.trees th.env) y) (proc_at (procs_of P.places) x.first)))
  new_runs = runs_form P t th x tied is at (New y) form

  new_below : (x.first < length P.places) × (x.second < length P.places)
  new_below = children_below P t th x tied is at (λ leaf. let e : New y ≡ Nil = sym form ∙ leaf in cc)

  pub new_used : (n : ℕ) → Contains P.made n ⊎ Contains P.own n → IsDenied (seen P) (line.New t n) (fault.UsedName n)
  new_used n (inl h) = used_name t n new_runs refl (inl h)
  new_used n (inr h) = used_name t n new_runs refl (inr (rw tied.own at h))

  pub new_name : is_known (names_of th.env) y.name ≡ false
  new_name =
      let o = thread_tied P t th tied is in
      let here = sound_head P.table.sig _ _ new_sound in
      by (is_known (var_names o.above.scope) y.name) refl (λ known. here.new_names (record { var = y; stands = refl; in_scope = known })) where
        by : (b : Bool) → is_known (var_names (thread_tied P t th tied is).above.scope) y.name ≡ b → (is_known (var_names (thread_tied P t th tied is).above.scope) y.name ≡ true → ⊥) → is_known (names_of th.env) y.name ≡ false
        by true e no_more = absurd (no_more e)
        by false e no_more = rw (thread_tied P t th tied is).names e

  module _ (u : Shared) (keeps : Keeps P.table u) (k n : ℕ) (is_name : tree_at u.trees k ≡ fresh n) (env : List Bound) (b : IsBoundTo u th.env y k env) where
    new_thread : IsThread u P.places (record { place = x.first; env = env })
    new_thread =
        let o = thread_tied P t th tied is in
        record {
          below = new_below.0;
          above = scope_below o.above (act (action.new y) (proc_at (procs_of P.places) x.first)) 1;
          sound = rw keeps.sig (sound_behind P.table.sig _ _ _ new_sound);
          names = b.names ∙ ap (λ ns. ns ++ y.name ∷ []) o.names ∙ sym (map_last (λ (v : Var). v.name) o.above.scope (fresh_var y));
          small = b.small;
        }

    pub new_tied : AreTied (record P { table = u; threads = slice_set P.threads t (Some (record { place = x.first; env = env })); made = P.made ++ n ∷ [] })
    new_tied =
        made_tied (record P { table = u; threads = slice_set P.threads t (Some (record { place = x.first; env = env })) }) (P.made ++ n ∷ [])
        (sets_tied (record P { table = u }) t (record { place = x.first; env = env }) (keeps_tied P u keeps tied) new_thread)

    pub new_line : (label : List Fact) → label ≡ [] → (¬ Contains P.made n) → (¬ Contains P.own n)
        → IsDone (seen P) (seen (record P { table = u; threads = slice_set P.threads t (Some (record { place = x.first; env = env })); made = P.made ++ n ∷ [] })) (line.New t n) label
    new_line label silent free foreign =
        let o = thread_tied P t th tied is in
        let new : Thread = record { place = x.first; env = env } in
        let same : given u.trees th.env ≡ given P.table.trees th.env = given_stays P.table u keeps th.env o.small in
        let runs : running u.trees (procs_of P.places) new ≡ with_term y (fresh n) (process_instance (without (given P.table.trees th.env) y) (proc_at (procs_of P.places) x.first)) = b.goes (proc_at (procs_of P.places) x.first) ∙ (λ i. with_term y (is_name i) (process_instance (without (same i) y) (proc_at (procs_of P.places) x.first))) in
        let after : configuration (seen (record P { table = u; threads = slice_set P.threads t (Some new) })) ≡ becomes (configuration (seen P)) t (Some (with_term y (fresh n) (process_instance (without (given P.table.trees th.env) y) (proc_at (procs_of P.places) x.first)))) =
        sets_is (record P { table = u }) t new ∙ ap (λ r. becomes (configuration r) t (Some (running u.trees (procs_of P.places) new))) (keeps_seen P u keeps tied) ∙ ap (λ p. becomes (configuration (seen P)) t (Some p)) runs in
        let named : configuration (seen (record P { table = u; threads = slice_set P.threads t (Some new); made = P.made ++ n ∷ [] })) ≡ makes (becomes (configuration (seen P)) t (Some (with_term y (fresh n) (process_instance (without (given P.table.trees th.env) y) (proc_at (procs_of P.places) x.first))))) n =
        ap (λ c. makes c n) after in
        rw silent (record { inner = []; line = rw named (makes_name t n new_runs (free, rw tied.own at foreign)); sig = refl })
