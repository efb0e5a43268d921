-- Threads at places, and the processes that they run.
use Rattle.std.specs.Prelude.{◌≡◌, ◌<◌, ℕ, List, Option, None, map, option_map, length, slice_get, unwrap_or}
use Rattle.sap_terms.specs.Equations.{equations}
use Rattle.sap_terms.specs.Tree.{Tree}
use Rattle.sap_terms.specs.declared.limits.TheConstants.{MOST_TERM_NODES}
use Rattle.sap_process.specs.Instance.{process_instance}
use Rattle.sap_process.specs.Proc.{Proc}
use Rattle.sap_process.specs.Sites.{Above, var_names}
use Rattle.sap_share.specs.Env.{given, AreSmallForms}
use Rattle.sap_share.specs.Shared.{Shared}
use Rattle.sap_lines.specs.Places.{proc_at, procs_of}
use Rattle.sap_heads.specs.Bound.{names_of}
use Rattle.sap_calc.specs.code.Sound.{IsSoundFrom}
use Rattle.sap_lines.specs.declared.place.Place.{Place}
use Rattle.sap_calc.specs.declared.thread.Thread.{Thread}

-- the process that a thread runs
abbrev pub running : List Tree → List Proc → Thread → Proc
running ts procs th = process_instance (given ts th.env) (proc_at procs th.place)

-- those that these run, where they run
abbrev pub all_running : List Tree → List Proc → List (Option Thread) → List (Option Proc)
all_running ts procs threads = map (λ (o : Option Thread). option_map (running ts procs) o) threads

-- the thread of this number, where it runs
abbrev pub live : List (Option Thread) → ℕ → Option Thread
live os t = unwrap_or (slice_get os t) None

-- a thread is at a sound place, and what is in scope there is bound to small normal forms
pub record IsThread (s : Shared) (places : List Place) (th : Thread) : Type 0 where
  pub below : th.place < length places
  pub above : Above
  pub sound : IsSoundFrom s.sig above (proc_at (procs_of places) th.place)
  pub names : names_of th.env ≡ var_names above.scope
  pub small : AreSmallForms (equations s.sig) MOST_TERM_NODES s.trees th.env
