-- A thread compares two terms.
use Rattle.std.proofs.Common.{◌≡◌, ◌<◌, ℕ, List, [], ◌∷◌, length, Some, refl, sym, ap, ◌∙◌}
use Rattle.std.specs.Prelude.{slice_get}
use Rattle.sap_rewrite.specs.Laws.{FormsDecide}
use Rattle.sap_terms.specs.Choice.{instance}
use Rattle.sap_terms.specs.Equations.{equations}
use Rattle.sap_terms.specs.Ground.{IsGround}
use Rattle.sap_terms.specs.Normal.{IsNormalForm}
use Rattle.sap_terms.specs.View.{tree}
use Rattle.sap_terms.specs.declared.fact.Fact.{Fact}
use Rattle.sap_terms.specs.declared.term.Term.{Term}
use Rattle.sap_process.specs.Configuration.{Runs}
use Rattle.sap_process.specs.Instance.{process_instance}
use Rattle.sap_process.specs.Proc.{test}
use Rattle.sap_runs.specs.Inner.{equal, different}
use Rattle.sap_runs.specs.declared.process_step.PStep.TheVariants as line
use Rattle.sap_share.specs.Env.{given}
use Rattle.sap_share.specs.Shared.{Shared, tree_at, Keeps, HaveOneNumber}
use Rattle.sap_lines.specs.Faults.{EvaluateSmall, terms_differ, terms_agree}
use Rattle.sap_lines.specs.Lines.{agrees, differs}
use Rattle.sap_calc.specs.Running.{configuration, IsDone, IsDenied}
use Rattle.sap_lines.specs.Places.{proc_at, procs_of}
use Rattle.sap_calc.specs.code.Parts.{Parts, AreTied, seen}
use Rattle.sap_calc.specs.code.Sound.{IsSoundFrom}
use Rattle.sap_calc.specs.code.Threads.{live}
use Rattle.sap_heads.specs.Values.{CanEvaluate, AreValues, IsValueFault}
use Rattle.sap_lines.specs.declared.fault.PFault.{PFault}
use Rattle.sap_lines.specs.declared.fault.PFault.TheVariants as fault
use Rattle.sap_lines.specs.declared.form.Form.TheVariants.{Nil, If}
use Rattle.sap_lines.specs.declared.place.Place.{Place}
use Rattle.sap_calc.specs.declared.thread.Thread.{Thread}
use Rattle.sap_calc.proofs.Goes.{gone, gone_tied, gone_is, can_first, can_second, denied_value}
use Rattle.sap_calc.proofs.Lines.{thread_tied, children_below, moved, runs_form, sound_form}
use Rattle.sap_calc.proofs.Evaluable.{first_of, second_of}
use Rattle.sap_calc.proofs.Sounds.{sound_head, sound_then, sound_else}

module _ (P : Parts) (t : ℕ) (th : Thread) (x : Place) (tied : AreTied P) (is : Some th ≡ live P.threads t) (at : slice_get P.places th.place ≡ Some x) (m n : Term) (form : x.form ≡ If m n) where
  sound : IsSoundFrom P.table.sig (thread_tied P t th tied is).above (test (tree m) (tree n) (proc_at (procs_of P.places) x.first) (proc_at (procs_of P.places) x.second))
  sound = sound_form P t th x tied is at (If m n) form

  pub can_left : ((k : ℕ) → k < length P.table.trees → IsGround (tree_at P.table.trees k)) → CanEvaluate P.table th.env (tree m)
  can_left grounds =
      let here = sound_head P.table.sig _ _ sound in
      can_first P t th tied is grounds sound.path (test (tree m) (tree n) (proc_at (procs_of P.places) x.first) (proc_at (procs_of P.places) x.second)) here (tree m) (tree n) here.bound (first_of (tree m) (tree n ∷ []))

  pub can_right : ((k : ℕ) → k < length P.table.trees → IsGround (tree_at P.table.trees k)) → CanEvaluate P.table th.env (tree n)
  can_right grounds =
      let here = sound_head P.table.sig _ _ sound in
      can_second P t th tied is grounds sound.path (test (tree m) (tree n) (proc_at (procs_of P.places) x.first) (proc_at (procs_of P.places) x.second)) here (tree m) (tree n) here.bound (second_of (tree m) (tree n) [])

  runs : Runs (configuration (seen P)) t (test (instance (given P.table.trees th.env) (tree m)) (instance (given P.table.trees th.env) (tree n)) (process_instance (given P.table.trees th.env) (proc_at (procs_of P.places) x.first)) (process_instance (given P.table.trees th.env) (proc_at (procs_of P.places) x.second)))
  runs = runs_form P t th x tied is at (If m n) form

  below : (x.first < length P.places) × (x.second < length P.places)
  below = children_below P t th x tied is at (λ leaf. let e : If m n ≡ Nil = sym form ∙ leaf in cc)

  pub then_large : (f : PFault) → IsValueFault P.table.sig (instance (given P.table.trees th.env) (tree m) ∷ instance (given P.table.trees th.env) (tree n) ∷ []) f → IsDenied (seen P) (line.Then t) f
  then_large f h = denied_value P (line.Then t) t _ f tied refl runs refl tt h

  pub else_large : (f : PFault) → IsValueFault P.table.sig (instance (given P.table.trees th.env) (tree m) ∷ instance (given P.table.trees th.env) (tree n) ∷ []) f → IsDenied (seen P) (line.Else t) f
  else_large f h = denied_value P (line.Else t) t _ f tied refl runs refl tt h

  module _ (u : Shared) (keeps : Keeps P.table u) (j k : ℕ) (v : AreValues P.table u th.env (tree m) (tree n) j k) where
    first_form : IsNormalForm (equations P.known.sig) (instance (given P.table.trees th.env) (tree m)) (tree_at u.trees j)
    first_form = rw tied.numbered.sig at v.first_form

    second_form : IsNormalForm (equations P.known.sig) (instance (given P.table.trees th.env) (tree n)) (tree_at u.trees k)
    second_form = rw tied.numbered.sig at v.second_form

    small : EvaluateSmall P.known.sig (instance (given P.table.trees th.env) (tree m) ∷ instance (given P.table.trees th.env) (tree n) ∷ [])
    small = rw tied.numbered.sig at v.small

    pub then_tied : AreTied (gone P u t th x.first)
    then_tied = gone_tied P u t th x.first keeps tied (moved P t th tied is x.first (thread_tied P t th tied is).above below.0 (sound_then P.table.sig _ _ _ _ _ sound) refl)

    pub else_tied : AreTied (gone P u t th x.second)
    else_tied = gone_tied P u t th x.second keeps tied (moved P t th tied is x.second (thread_tied P t th tied is).above below.1 (sound_else P.table.sig _ _ _ _ _ sound) refl)

    pub then_line : (label : List Fact) → label ≡ [] → j ≡ k → IsDone (seen P) (seen (gone P u t th x.first)) (line.Then t) label
    then_line label silent same = rw silent (record {
      inner = equal (tree_at u.trees j) (tree_at u.trees k) ∷ [];
      line = rw (gone_is P u t th x.first keeps tied is) (agrees t runs first_form second_form (ap (tree_at u.trees) same) small);
      sig = refl;
    })

    pub else_line : (label : List Fact) → label ≡ [] → HaveOneNumber u.trees (length u.trees) → (¬ (j ≡ k)) → IsDone (seen P) (seen (gone P u t th x.second)) (line.Else t) label
    else_line label silent once other = rw silent (record {
      inner = different (tree_at u.trees j) (tree_at u.trees k) ∷ [];
      line = rw (gone_is P u t th x.second keeps tied is) (differs t runs first_form second_form (λ e. other (once j k v.first_number.below v.second_number.below e)) small);
      sig = refl;
    })

    pub then_denied : FormsDecide → HaveOneNumber u.trees (length u.trees) → (¬ (j ≡ k)) → IsDenied (seen P) (line.Then t) fault.Unequal
    then_denied decide once other =
        terms_differ t runs small (λ e. other (once j k v.first_number.below v.second_number.below ((decide (equations P.known.sig) _ _ _ _ first_form second_form).0 e)))

    pub else_denied : FormsDecide → j ≡ k → IsDenied (seen P) (line.Else t) fault.Equal
    else_denied decide same = terms_agree t runs small ((decide (equations P.known.sig) _ _ _ _ first_form second_form).1 (ap (tree_at u.trees) same))
