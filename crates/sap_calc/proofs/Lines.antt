-- What lines need, and why they are refused, of the parts.
use Rattle.std.proofs.Common.{◌≡◌, ◌<◌, ℕ, List, [], ◌∷◌, ◌++◌, length, Some, None, refl, sym, ap, subst, ◌∙◌, inl, inr, arith}
use Rattle.std.specs.Prelude.{slice_get, slice_set}
use Rattle.sap_terms.specs.Choice.{Choice}
use Rattle.sap_terms.specs.declared.fact.Fact.{Fact}
use Rattle.sap_process.specs.Configuration.{Config, Runs, becomes, spawns}
use Rattle.sap_process.specs.Instance.{process_instance}
use Rattle.sap_process.specs.Proc.{Proc, nil, parallel, replicated}
use Rattle.sap_runs.specs.declared.process_step.PStep.{PStep}
use Rattle.sap_runs.specs.declared.process_step.PStep.TheVariants as line
use Rattle.sap_share.specs.Env.{given}
use Rattle.sap_lines.specs.Faults.{thread_of, has_form, unfit, not_running, other_form}
use Rattle.sap_lines.specs.Lines.{ends, splits, copies}
use Rattle.sap_calc.specs.Running.{configuration, IsDone, IsDenied}
use Rattle.sap_lines.specs.Heads.{Lacks}
use Rattle.sap_lines.specs.Places.{form_proc, proc_at, place_proc, procs_of}
use Rattle.sap_calc.specs.code.Parts.{Parts, AreTied, seen}
use Rattle.sap_calc.specs.code.Sound.{IsSoundFrom}
use Rattle.sap_calc.specs.code.Threads.{live, IsThread}
use Rattle.sap_lines.specs.declared.fault.PFault.TheVariants as fault
use Rattle.sap_lines.specs.declared.form.Form.{Form}
use Rattle.sap_lines.specs.declared.form.Form.TheVariants.{Nil, Par, Rep}
use Rattle.sap_process.specs.Sites.{Above, var_names}
use Rattle.sap_lines.specs.declared.place.Place.{Place}
use Rattle.sap_calc.specs.declared.thread.Thread.{Thread}
use Rattle.sap_calc.proofs.Moves.{runs_thread, none_runs, running_at, ends_is, sets_tied, sets_is, adds_tied, adds_is}
use Rattle.sap_calc.proofs.Numbered.{live_got, got_below, set_append}
use Rattle.sap_calc.proofs.Sounds.{sound_left, sound_right, sound_copy}

pub no_thread : (P : Parts) (step : PStep) (t : ℕ) → thread_of step ≡ Some t → None ≡ live P.threads t → IsDenied (seen P) step (fault.NoThread t)
no_thread P step t named is = unfit t named (not_running (none_runs P t is))

pub wrong_form : (P : Parts) (step : PStep) (t : ℕ) (th : Thread) (x : Place) → thread_of step ≡ Some t → AreTied P → Some th ≡ live P.threads t → slice_get P.places th.place ≡ Some x → Lacks (has_form step) x.form → IsDenied (seen P) step (fault.WrongForm t)
wrong_form P step t th x named tied is at lacks =
    unfit t named (other_form (runs_thread P t th is) (ap (has_form step) (running_at P th x tied at) ∙ lacks (given P.table.trees th.env) (proc_at (procs_of P.places) x.first) (proc_at (procs_of P.places) x.second)))

pub thread_tied : (P : Parts) (t : ℕ) (th : Thread) → AreTied P → Some th ≡ live P.threads t → IsThread P.table P.places th
thread_tied P t th tied is = tied.threads t th (live_got P.threads t th is)

pub place_below : (P : Parts) (t : ℕ) (th : Thread) → AreTied P → Some th ≡ live P.threads t → th.place < length P.places
place_below P t th tied is = (thread_tied P t th tied is).below

pub number_below : (P : Parts) (t : ℕ) (th : Thread) → Some th ≡ live P.threads t → t < length P.threads
number_below P t th is = got_below P.threads t (Some th) (live_got P.threads t th is)

-- what a thread at a place runs
pub runs_at : (P : Parts) (t : ℕ) (th : Thread) (x : Place) → AreTied P → Some th ≡ live P.threads t → slice_get P.places th.place ≡ Some x
    → Runs (configuration (seen P)) t (process_instance (given P.table.trees th.env) (place_proc (procs_of P.places) x))
runs_at P t th x tied is at = runs_thread P t th is ∙ ap (λ p. Some (Some p)) (running_at P th x tied at)

-- and what it knows of it
pub sound_at : (P : Parts) (t : ℕ) (th : Thread) (x : Place) → (tied : AreTied P) → (is : Some th ≡ live P.threads t) → slice_get P.places th.place ≡ Some x
    → IsSoundFrom P.table.sig (thread_tied P t th tied is).above (place_proc (procs_of P.places) x)
sound_at P t th x tied is at = subst (IsSoundFrom P.table.sig (thread_tied P t th tied is).above) (tied.places.procs th.place x at) (thread_tied P t th tied is).sound

-- a thread that is nothing ends
pub nil_line : (P : Parts) (t : ℕ) (th : Thread) (x : Place) (label : List Fact) → AreTied P → Some th ≡ live P.threads t → slice_get P.places th.place ≡ Some x → x.form ≡ Nil → label ≡ []
    → IsDone (seen P) (seen (record P { threads = slice_set P.threads t None })) (line.Nil t) label
nil_line P t th x label tied is at form silent =
    let p = proc_at (procs_of P.places) x.first in
    let q = proc_at (procs_of P.places) x.second in
    let runs : Runs (configuration (seen P)) t nil = runs_at P t th x tied is at ∙ ap (λ f. Some (Some (process_instance (given P.table.trees th.env) (form_proc f p q)))) form in
    rw silent (record {
      inner = [];
      line = rw (ends_is P t) (ends t runs);
      sig = refl;
    })

-- where a place goes on
pub children_below : (P : Parts) (t : ℕ) (th : Thread) (x : Place) → AreTied P → Some th ≡ live P.threads t → slice_get P.places th.place ≡ Some x → (x.form ≡ Nil → ⊥) → (x.first < length P.places) × (x.second < length P.places)
children_below P t th x tied is at some =
    let lt = place_below P t th tied is in
    elim (tied.places.below th.place x at) [ inl leaf ↦ absurd (some leaf) | inr two ↦ (less x.first th.place (length P.places) two.0 lt, less x.second th.place (length P.places) two.1 lt) ] where
      less : (a b c : ℕ) → a < b → b < c → a < c
      less a b c h i = omega arith

-- a thread at another place, to which the same is bound
pub moved : (P : Parts) (t : ℕ) (th : Thread) (tied : AreTied P) (is : Some th ≡ live P.threads t) (k : ℕ) (u : Above) → k < length P.places → IsSoundFrom P.table.sig u (proc_at (procs_of P.places) k)
    → var_names (thread_tied P t th tied is).above.scope ≡ var_names u.scope → IsThread P.table P.places (record th { place = k })
moved P t th tied is k u lt sound names =
    let i = thread_tied P t th tied is in
    record { below = lt; above = u; sound = sound; names = i.names ∙ names; small = i.small }

module _ (P : Parts) (t : ℕ) (th : Thread) (x : Place) (tied : AreTied P) (is : Some th ≡ live P.threads t) (at : slice_get P.places th.place ≡ Some x) where
  σ : Choice
  σ = given P.table.trees th.env

  p : Proc
  p = proc_at (procs_of P.places) x.first

  q : Proc
  q = proc_at (procs_of P.places) x.second

  -- what it runs, where the form of its place is known
  pub runs_form : (f : Form) → x.form ≡ f → Runs (configuration (seen P)) t (process_instance (given P.table.trees th.env) (form_proc f (proc_at (procs_of P.places) x.first) (proc_at (procs_of P.places) x.second)))
  runs_form f form = runs_at P t th x tied is at ∙ ap (λ f. Some (Some (process_instance (given P.table.trees th.env) (form_proc f (proc_at (procs_of P.places) x.first) (proc_at (procs_of P.places) x.second))))) form

  pub sound_form : (f : Form) → x.form ≡ f → IsSoundFrom P.table.sig (thread_tied P t th tied is).above (form_proc f (proc_at (procs_of P.places) x.first) (proc_at (procs_of P.places) x.second))
  sound_form f form = subst (λ f. IsSoundFrom P.table.sig (thread_tied P t th tied is).above (form_proc f (proc_at (procs_of P.places) x.first) (proc_at (procs_of P.places) x.second))) form (sound_at P t th x tied is at)

-- a parallel becomes two
module _ (P : Parts) (t : ℕ) (th : Thread) (x : Place) (tied : AreTied P) (is : Some th ≡ live P.threads t) (at : slice_get P.places th.place ≡ Some x) (form : x.form ≡ Par) where
  below : (x.first < length P.places) × (x.second < length P.places)
  below = children_below P t th x tied is at (λ leaf. let e : Par ≡ Nil = sym form ∙ leaf in cc)

  left : IsThread P.table P.places (record th { place = x.first })
  left = moved P t th tied is x.first (thread_tied P t th tied is).above below.0 (sound_left P.table.sig _ _ _ (sound_form P t th x tied is at Par form)) refl

  right : IsThread P.table P.places (record th { place = x.second })
  right = moved P t th tied is x.second (thread_tied P t th tied is).above below.1 (sound_right P.table.sig _ _ _ (sound_form P t th x tied is at Par form)) refl

  Q : Parts
  Q = record P { threads = P.threads ++ Some (record th { place = x.second }) ∷ [] }

  pub par_tied : AreTied (record P { threads = slice_set (P.threads ++ Some (record th { place = x.second }) ∷ []) t (Some (record th { place = x.first })) })
  par_tied = sets_tied (record P { threads = P.threads ++ Some (record th { place = x.second }) ∷ [] }) t (record th { place = x.first }) (adds_tied P (record th { place = x.second }) tied right) left

  pub par_line : (label : List Fact) → label ≡ [] → IsDone (seen P) (seen (record P { threads = slice_set (P.threads ++ Some (record th { place = x.second }) ∷ []) t (Some (record th { place = x.first })) })) (line.Par t) label
  par_line label silent =
      let σ = given P.table.trees th.env in
      let p = process_instance σ (proc_at (procs_of P.places) x.first) in
      let q = process_instance σ (proc_at (procs_of P.places) x.second) in
      let c : Config = configuration (seen P) in
      let runs : Runs c t (parallel p q) = runs_form P t th x tied is at Par form in
      let after : configuration (seen (record P { threads = slice_set (P.threads ++ Some (record th { place = x.second }) ∷ []) t (Some (record th { place = x.first })) })) ≡ becomes (spawns c q) t (Some p) =
      sets_is (record P { threads = P.threads ++ Some (record th { place = x.second }) ∷ [] }) t (record th { place = x.first }) ∙ ap (λ d. becomes d t (Some p)) (adds_is P (record th { place = x.second })) in
      let turn : becomes (spawns c q) t (Some p) ≡ spawns (becomes c t (Some p)) q = ap (λ ts. record c { threads = ts }) (set_append c.threads (Some q ∷ []) t (Some p) (got_below c.threads t (Some (parallel p q)) runs)) in
      rw silent (record { inner = []; line = rw (after ∙ turn) (splits t runs); sig = refl })

-- a replication stays, and there is one more
module _ (P : Parts) (t : ℕ) (th : Thread) (x : Place) (tied : AreTied P) (is : Some th ≡ live P.threads t) (at : slice_get P.places th.place ≡ Some x) (form : x.form ≡ Rep) where
  copy : IsThread P.table P.places (record th { place = x.first })
  copy =
      let below = children_below P t th x tied is at (λ leaf. let e : Rep ≡ Nil = sym form ∙ leaf in cc) in
      moved P t th tied is x.first (thread_tied P t th tied is).above below.0 (sound_copy P.table.sig _ _ (sound_form P t th x tied is at Rep form)) refl

  pub rep_tied : AreTied (record P { threads = P.threads ++ Some (record th { place = x.first }) ∷ [] })
  rep_tied = adds_tied P (record th { place = x.first }) tied copy

  pub rep_line : (label : List Fact) → label ≡ [] → IsDone (seen P) (seen (record P { threads = P.threads ++ Some (record th { place = x.first }) ∷ [] })) (line.Rep t) label
  rep_line label silent =
      let p = process_instance (given P.table.trees th.env) (proc_at (procs_of P.places) x.first) in
      let runs : Runs (configuration (seen P)) t (replicated p) = runs_form P t th x tied is at Rep form in
      rw silent (record { inner = []; line = rw (adds_is P (record th { place = x.first })) (copies t runs); sig = refl })
