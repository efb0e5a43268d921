-- A thread that evaluates terms and goes on.
use Rattle.std.proofs.Common.{◌≡◌, ◌<◌, ℕ, List, [], ◌∷◌, length, Some, refl, ap, subst, ◌∙◌, true, inl, inr}
use Rattle.std.specs.Prelude.{slice_set, Contains, All}
use Rattle.std.proofs.lemmas.List.Elements.{Contains-get_or}
use Rattle.sap_terms.specs.Ground.{IsGround}
use Rattle.sap_terms.specs.Message.{IsMessage, IsOver}
use Rattle.sap_terms.specs.Signature.{Sig}
use Rattle.sap_terms.specs.Tree.{Tree}
use Rattle.sap_terms.specs.declared.fact.Fact.{Fact}
use Rattle.sap_terms.specs.declared.var.Sort.TheVariants.{Msg}
use Rattle.sap_deduce.specs.Entries.{terms_of}
use Rattle.sap_process.specs.Configuration.{Runs, becomes}
use Rattle.sap_process.specs.Flaws.{unbound_in}
use Rattle.sap_process.specs.Heads.{head_terms}
use Rattle.sap_process.specs.Instance.{process_instance}
use Rattle.sap_process.specs.Places.{place}
use Rattle.sap_process.specs.Proc.{Proc}
use Rattle.sap_runs.specs.declared.process_step.PStep.{PStep}
use Rattle.sap_share.specs.Env.{given}
use Rattle.sap_share.specs.Shared.{Shared, tree_at, Keeps}
use Rattle.sap_lines.specs.Faults.{HasEntry, thread_of, has_form, evaluated, no_memory, large}
use Rattle.sap_calc.specs.Running.{Running, configuration, IsDone, IsDenied}
use Rattle.sap_lines.specs.Places.{proc_at, procs_of}
use Rattle.sap_calc.specs.code.Parts.{Parts, AreTied, seen}
use Rattle.sap_calc.specs.code.Sound.{IsSound}
use Rattle.sap_calc.specs.code.Threads.{live, IsThread}
use Rattle.sap_heads.specs.Values.{IsSmallNumber}
use Rattle.sap_heads.specs.Values.{CanEvaluate, IsValueFault}
use Rattle.sap_lines.specs.declared.fault.PFault.{PFault}
use Rattle.sap_calc.specs.declared.thread.Thread.{Thread}
use Rattle.sap_calc.proofs.Lines.{thread_tied}
use Rattle.sap_calc.proofs.Moves.{keeps_tied, keeps_seen, sets_tied, sets_is, thread_stays, given_stays}
use Rattle.sap_calc.proofs.Evaluable.{one_ground, two_ground, each_ground, over_at}

-- the thread is at another place, over a larger table
abbrev pub gone : Parts → Shared → ℕ → Thread → ℕ → Parts
gone P u t th k = record P { table = u; threads = slice_set P.threads t (Some (record th { place = k })) }

pub gone_tied : (P : Parts) (u : Shared) (t : ℕ) (th : Thread) (k : ℕ) → Keeps P.table u → AreTied P → IsThread P.table P.places (record th { place = k }) → AreTied (gone P u t th k)
gone_tied P u t th k keeps tied new = sets_tied (record P { table = u }) t (record th { place = k }) (keeps_tied P u keeps tied) (thread_stays P.table u keeps P.places (record th { place = k }) new)

pub gone_is : (P : Parts) (u : Shared) (t : ℕ) (th : Thread) (k : ℕ) → Keeps P.table u → AreTied P → Some th ≡ live P.threads t
    → configuration (seen (gone P u t th k)) ≡ becomes (configuration (seen P)) t (Some (process_instance (given P.table.trees th.env) (proc_at (procs_of P.places) k)))
gone_is P u t th k keeps tied is =
    let small = (thread_tied P t th tied is).small in
    let σ = given_stays P.table u keeps th.env small in
    sets_is (record P { table = u }) t (record th { place = k })
    ∙ ap (λ r. becomes (configuration r) t (Some (process_instance (given u.trees th.env) (proc_at (procs_of P.places) k)))) (keeps_seen P u keeps tied)
    ∙ ap (λ σ. becomes (configuration (seen P)) t (Some (process_instance σ (proc_at (procs_of P.places) k)))) σ

module _ (P : Parts) (t : ℕ) (th : Thread) (tied : AreTied P) (is : Some th ≡ live P.threads t) (grounds : (k : ℕ) → k < length P.table.trees → IsGround (tree_at P.table.trees k)) (path : List ℕ) (body : Proc)
    (sound : IsSound P.table.sig (place path (thread_tied P t th tied is).above body)) where
  -- a term at a sound place, whose variables are in scope
  pub can_one : (m : Tree) → unbound_in (thread_tied P t th tied is).above.scope (m ∷ []) ≡ [] → Contains (head_terms body) m → CanEvaluate P.table th.env m
  can_one m bound stands =
      let i = thread_tied P t th tied is in
      record {
        ground = one_ground P.table.trees th.env grounds (λ k d lt. (i.small k d lt).below) i.above.scope m i.names bound;
        over = over_at P.table.sig (place path i.above body) m sound.over stands;
      }

  -- two
  pub can_first : (m n : Tree) → unbound_in (thread_tied P t th tied is).above.scope (m ∷ n ∷ []) ≡ [] → Contains (head_terms body) m → CanEvaluate P.table th.env m
  can_first m n bound stands =
      let i = thread_tied P t th tied is in
      record {
        ground = (two_ground P.table.trees th.env grounds (λ k d lt. (i.small k d lt).below) i.above.scope m n i.names bound).0;
        over = over_at P.table.sig (place path i.above body) m sound.over stands;
      }

  pub can_second : (m n : Tree) → unbound_in (thread_tied P t th tied is).above.scope (m ∷ n ∷ []) ≡ [] → Contains (head_terms body) n → CanEvaluate P.table th.env n
  can_second m n bound stands =
      let i = thread_tied P t th tied is in
      record {
        ground = (two_ground P.table.trees th.env grounds (λ k d lt. (i.small k d lt).below) i.above.scope m n i.names bound).1;
        over = over_at P.table.sig (place path i.above body) n sound.over stands;
      }

  -- and all these
  pub can_each : (ms : List Tree) → unbound_in (thread_tied P t th tied is).above.scope ms ≡ [] → ((m : Tree) → Contains ms m → Contains (head_terms body) m) → All (CanEvaluate P.table th.env) ms
  can_each ms bound stand = λ k d lt.
      let i = thread_tied P t th tied is in
      let here = Contains-get_or ms k d lt in
      record {
        ground = each_ground P.table.trees th.env grounds (λ k d lt. (i.small k d lt).below) i.above.scope ms i.names bound _ here;
        over = over_at P.table.sig (place path i.above body) _ sound.over (stand _ here);
      }

-- the same for a larger table
pub denied_back : (P : Parts) (u : Shared) (keeps : Keeps P.table u) (tied : AreTied P) (step : PStep) (f : PFault) → IsDenied (seen (record P { table = u })) step f → IsDenied (seen P) step f
denied_back P u keeps tied step f h = subst (λ r. IsDenied r step f) (keeps_seen P u keeps tied) h

pub done_back : (P : Parts) (u : Shared) (keeps : Keeps P.table u) (tied : AreTied P) (z : Running) (step : PStep) (label : List Fact) → IsDone (seen (record P { table = u })) z step label → IsDone (seen P) z step label
done_back P u keeps tied z step label h = subst (λ r. IsDone r z step label) (keeps_seen P u keeps tied) h

-- why terms are not evaluated is why the line is refused
pub denied_value : (P : Parts) (step : PStep) (t : ℕ) (p : Proc) (f : PFault) → AreTied P → thread_of step ≡ Some t → Runs (configuration (seen P)) t p → has_form step p ≡ true → HasEntry (terms_of P.known.entries) step
    → IsValueFault P.table.sig (evaluated p) f → IsDenied (seen P) step f
denied_value P step t p f tied named runs form entry (inl none) = rw none (no_memory step)
denied_value P step t p f tied named runs form entry (inr big) =
    rw big.0 (large (record { thread = t; named = named; runs = runs; form = form }) entry (rw tied.numbered.sig at big.1))

-- a small number is that of a message
pub message_at : (s : Shared) (g : Sig) (k : ℕ) → s.sig ≡ g → IsGround (tree_at s.trees k) → IsOver s.sig (tree_at s.trees k) → IsSmallNumber s k → IsMessage g Msg (tree_at s.trees k)
message_at s g k same ground over small = record { ground = ground; over = rw (← same) over; normal = rw (← same) small.normal; sorted = refl }
