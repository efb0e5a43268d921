-- What stands at the heads of threads.
use Rattle.std.proofs.Common.{◌≡◌, ◌<◌, ℕ, Bool, true, false, List, [], ◌∷◌, length, map, Some, if◌then◌else◌, refl, ap, subst, ◌∙◌, ◌⊎◌, inl, inr, arith}
use Rattle.std.specs.Prelude.{Contains, slice_get}
use Rattle.std.specs.Str.{bytes_eq}
use Rattle.std.proofs.lemmas.List.Elements.{All-head, All-tail, Contains-append_left, Contains-append_right, Contains-append_cases}
use Rattle.sap_terms.specs.Choice.{Choice, instance, instances}
use Rattle.sap_terms.specs.Ground.{IsGround, AreGround}
use Rattle.sap_terms.specs.Tree.{Tree, variable, public, fresh, apply, Trees, none, more}
use Rattle.sap_terms.specs.Variables.{tree_vars, trees_vars}
use Rattle.sap_terms.specs.View.{tree}
use Rattle.sap_terms.specs.declared.var.Var.{Var}
use Rattle.sap_terms.proofs.PlainLaws.Items.{item_cases}
use Rattle.sap_rewrite.specs.Match.{HaveOneSort}
use Rattle.sap_share.specs.Env.{given, AreBound}
use Rattle.sap_share.specs.Shared.{tree_at}
use Rattle.sap_share.specs.declared.env.Bound.{Bound}
use Rattle.sap_lines.specs.Places.{proc_at, procs_of}
use Rattle.sap_lines.specs.Sorts.{PatternsHaveOneSort}
use Rattle.sap_lines.specs.declared.form.Form.{Form}
use Rattle.sap_lines.specs.declared.form.Form.TheVariants as form
use Rattle.sap_lines.specs.declared.place.Place.{Place}
use Rattle.sap_calc.specs.Running.{configuration}
use Rattle.sap_calc.specs.ThreadHeads.{HasHead, taken_patterns}
use Rattle.sap_calc.specs.code.Parts.{Parts, AreTied, seen}
use Rattle.sap_calc.specs.code.Threads.{live}
use Rattle.sap_calc.specs.code.Under.{IsFormUnder}
use Rattle.sap_calc.specs.declared.thread.Thread.{Thread}
use Rattle.sap_calc.proofs.Inputs.{in_one, recv_one}
use Rattle.sap_calc.proofs.Lines.{runs_at, thread_tied}

-- what is bound is ground, and all else stands for itself
given_either : (ts : List Tree) → ((k : ℕ) → k < length ts → IsGround (tree_at ts k)) → (env : List Bound) → AreBound (length ts) env → (v : Var) → IsGround (given ts env v) ⊎ (given ts env v ≡ variable v)
given_either ts grounds [] below v = inr refl
given_either ts grounds (e ∷ es) below v =
    let S : Bound → Type 0 = λ b. b.id < length ts in
    by (bytes_eq e.var.name v.name) (grounds e.id (All-head S e es below)) (given_either ts grounds es (All-tail S e es below) v) where
      by : (b : Bool) → IsGround (tree_at ts e.id) → IsGround (given ts es v) ⊎ (given ts es v ≡ variable v)
          → IsGround (if b then tree_at ts e.id else given ts es v) ⊎ ((if b then tree_at ts e.id else given ts es v) ≡ variable v)
      by true here later = inl here
      by false here later = later

-- no variable stands in a ground tree
mutual
  no_vars : (t : Tree) → IsGround t → (v : Var) → Contains (tree_vars t) v → ⊥
  no_vars (variable w) g v m = absurd g
  no_vars (public n) g v m = let lt : m.0 < 0 = m.1 in absurd (omega arith)
  no_vars (fresh k) g v m = let lt : m.0 < 0 = m.1 in absurd (omega arith)
  no_vars (apply f ts) g v m = none_vars ts g v m

  none_vars : (ts : Trees) → AreGround ts → (v : Var) → Contains (trees_vars ts) v → ⊥
  none_vars none g v m = let lt : m.0 < 0 = m.1 in absurd (omega arith)
  none_vars (more t ts) g v m = elim (Contains-append_cases (tree_vars t) (trees_vars ts) v m) [ inl k ↦ no_vars t g.0 v k | inr k ↦ none_vars ts g.1 v k ]

module _ (σ : Choice) (each : (v : Var) → IsGround (σ v) ⊎ (σ v ≡ variable v)) where
  -- a variable of an instance stood there before
  mutual
    stood : (t : Tree) (v : Var) → Contains (tree_vars (instance σ t)) v → Contains (tree_vars t) v
    stood (variable w) v m = elim (each w) [ inl g ↦ absurd (no_vars (σ w) g v m) | inr same ↦ subst (λ (x : Tree). Contains (tree_vars x) v) same m ]
    stood (public n) v m = m
    stood (fresh k) v m = m
    stood (apply f ts) v m = all_stood ts v m

    all_stood : (ts : Trees) (v : Var) → Contains (trees_vars (instances σ ts)) v → Contains (trees_vars ts) v
    all_stood none v m = m
    all_stood (more t ts) v m =
        elim (Contains-append_cases (tree_vars (instance σ t)) (trees_vars (instances σ ts)) v m) [
          | inl k ↦ Contains-append_left (tree_vars t) (trees_vars ts) v (stood t v k)
          | inr k ↦ Contains-append_right (tree_vars t) (trees_vars ts) v (all_stood ts v k)
        ]

  one_stays : (t n : Tree) → HaveOneSort (tree_vars t) → Contains (instance σ t ∷ []) n → HaveOneSort (tree_vars n)
  one_stays t n one m =
      let h : HaveOneSort (tree_vars (instance σ t)) = λ v w a b e. one v w (stood t v a) (stood t w b) e in
      subst (λ (x : Tree). HaveOneSort (tree_vars x)) (item_cases (instance σ t) n m) h

nothing_stands : {X : Type 0} (n : Tree) → Contains {X = Tree} [] n → X
nothing_stands n m = let lt : m.0 < 0 = m.1 in absurd (omega arith)

module _ (P : Parts) (t : ℕ) (th : Thread) (x : Place) (tied : AreTied P) (is : Some th ≡ live P.threads t) (at : slice_get P.places th.place ≡ Some x) (grounds : (k : ℕ) → k < length P.table.trees → IsGround (tree_at P.table.trees k)) (sorts : PatternsHaveOneSort) where
  pub env_bound : AreBound (length P.table.trees) th.env
  env_bound = λ k d lt. ((thread_tied P t th tied is).small k d lt).below

  each_given : (v : Var) → IsGround (given P.table.trees th.env v) ⊎ (given P.table.trees th.env v ≡ variable v)
  each_given = given_either P.table.trees grounds th.env env_bound

  -- the patterns of a form of the place
  one_sort : (f : Form) → x.form ≡ f → (n : Tree) → Contains (map (instance (given P.table.trees th.env)) (taken_patterns f)) n → HaveOneSort (tree_vars n)
  one_sort (form.In m) e n k = one_stays (given P.table.trees th.env) each_given (tree m) n (in_one P t th x tied is at m e sorts) k
  one_sort (form.Recv l m) e n k = one_stays (given P.table.trees th.env) each_given (tree m) n (recv_one P t th x tied is at l m e sorts) k
  one_sort _ e n k = nothing_stands n k

  pub head_is : (f : Form) → IsFormUnder (given P.table.trees th.env) x.form f → HasHead (configuration (seen P)) t f
  head_is f u =
      let goes = u.goes (proc_at (procs_of P.places) x.first) (proc_at (procs_of P.places) x.second) in
      record {
        first = goes.first;
        second = goes.second;
        runs = runs_at P t th x tied is at ∙ ap (λ p. Some (Some p)) goes.is;
        sorts = λ n m. one_sort x.form refl n (subst (λ (ps : List Tree). Contains ps n) u.patterns m);
      }
