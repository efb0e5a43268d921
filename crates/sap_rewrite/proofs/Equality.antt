-- Theory-equality is an equivalence that symbols and substitutions respect.
use Rattle.std.proofs.Common.{◌≡◌, ℕ, List, [], ◌∷◌, refl, inl, inr, Some, None, Option, sym, ◌∙◌}
use Rattle.std.specs.Prelude.{All, Contains, ◌⊎◌}
use Rattle.std.specs.List.{AllZip}
use Rattle.std.proofs.lemmas.List.Elements.{All-head, All-tail, Contains-push, Contains-append_left, Contains-append_right}
use Rattle.std.proofs.lemmas.Option.{same_Some}
use Rattle.sap_terms.specs.Choice.{Choice, instance, instances}
use Rattle.sap_terms.specs.Equal.{IsStep, forward, backward, inside, IsStepWithin, here, later, IsTheoryEqual, same, next}
use Rattle.sap_terms.specs.Equations.{Equations, IsInstance, first, second, symmetric, asymmetric, signing, revealing, revealed}
use Rattle.sap_terms.specs.Normal.{IsNormal, AreNormal, IsNoLeftSide}
use Rattle.sap_terms.specs.Tree.{Tree, variable, public, fresh, apply, Trees, none, more, trees_of}
use Rattle.sap_terms.specs.Variables.{tree_vars, trees_vars}
use Rattle.sap_terms.specs.declared.var.Var.{Var}
use Rattle.sap_rewrite.specs.Laws.{EqualityIsKept, SymbolsReduceOnce}
use Rattle.sap_rewrite.specs.code.Reduce.{contracted}
use Rattle.sap_rewrite.proofs.NormalForms.{no_instance, right-normal}
use Rattle.sap_rewrite.proofs.Reach.{AreTheoryEqual, done, join, join_all, at_head, at_tail, within, back}
use Rattle.sap_rewrite.proofs.Sound.{contracted-sound, contracted-complete}

-- a list of normal trees
all_normal : (e : Equations) (ts : List Tree) → All (IsNormal e) ts → AreNormal e (trees_of ts)
all_normal e [] h = tt
all_normal e (t ∷ ts) h = (All-head (IsNormal e) t ts h, all_normal e ts (All-tail (IsNormal e) t ts h))

-- lists of theory-equal terms
lists_equal : (e : Equations) (ts us : List Tree) → AllZip (IsTheoryEqual e) ts us → AreTheoryEqual e (trees_of ts) (trees_of us)
lists_equal e [] [] h = done
lists_equal e [] (u ∷ us) h = absurd h
lists_equal e (t ∷ ts) [] h = absurd h
lists_equal e (t ∷ ts) (u ∷ us) h = join_all (at_head h.0) (at_tail (lists_equal e ts us h.1))

-- an instance of an equation stays one under a substitution
instance-instance : (e : Equations) (σ : Choice) {a b : Tree} → IsInstance e a b → IsInstance e (instance σ a) (instance σ b)
instance-instance e σ first = first
instance-instance e σ second = second
instance-instance e σ (symmetric h) = symmetric h
instance-instance e σ (asymmetric h) = asymmetric h
instance-instance e σ (signing h) = signing h
instance-instance e σ (revealing h) = revealing h
instance-instance e σ (revealed h) = revealed h

mutual
  step-instance : (e : Equations) (σ : Choice) {a b : Tree} → IsStep e a b → IsStep e (instance σ a) (instance σ b)
  step-instance e σ (forward i) = forward (instance-instance e σ i)
  step-instance e σ (backward i) = backward (instance-instance e σ i)
  step-instance e σ (inside s) = inside (steps-instance e σ s)

  steps-instance : (e : Equations) (σ : Choice) {ts us : Trees} → IsStepWithin e ts us → IsStepWithin e (instances σ ts) (instances σ us)
  steps-instance e σ (here s) = here (step-instance e σ s)
  steps-instance e σ (later s) = later (steps-instance e σ s)

equal-instance : (e : Equations) (σ : Choice) {t u : Tree} → IsTheoryEqual e t u → IsTheoryEqual e (instance σ t) (instance σ u)
equal-instance e σ same = same
equal-instance e σ (next s r) = next (step-instance e σ s) (equal-instance e σ r)

mutual
  choices-equal : (e : Equations) (σ τ : Choice) (t : Tree) → ((v : Var) → Contains (tree_vars t) v → IsTheoryEqual e (σ v) (τ v)) → IsTheoryEqual e (instance σ t) (instance τ t)
  choices-equal e σ τ (variable v) h = h v (Contains-push [] v)
  choices-equal e σ τ (public n) h = same
  choices-equal e σ τ (fresh k) h = same
  choices-equal e σ τ (apply f ts) h = within (all_choices-equal e σ τ ts h)

  all_choices-equal : (e : Equations) (σ τ : Choice) (ts : Trees) → ((v : Var) → Contains (trees_vars ts) v → IsTheoryEqual e (σ v) (τ v)) → AreTheoryEqual e (instances σ ts) (instances τ ts)
  all_choices-equal e σ τ none h = done
  all_choices-equal e σ τ (more t ts) h =
      join_all (at_head (choices-equal e σ τ t (λ v m. h v (Contains-append_left (tree_vars t) (trees_vars ts) v m))))
      (at_tail (all_choices-equal e σ τ ts (λ v m. h v (Contains-append_right (tree_vars t) (trees_vars ts) v m))))

pub equality_kept : EqualityIsKept
equality_kept = record {
  itself = λ e t. same;
  back = λ e t u h. back h;
  onwards = λ e t u v h k. join h k;
  under_symbols = λ e f ts us h. within (lists_equal e ts us h);
  of_instances = λ e σ t u h. equal-instance e σ h;
  of_choices = choices-equal;
}

-- a symbol on terms is a left side, or it isn't
left_side : (e : Equations) (f : List ℕ) (ts : Trees) → ((r : Tree) × IsInstance e (apply f ts) r) ⊎ IsNoLeftSide e (apply f ts)
left_side e f ts = at (contracted e f ts) refl where
  at : (o : Option Tree) → contracted e f ts ≡ o → ((r : Tree) × IsInstance e (apply f ts) r) ⊎ IsNoLeftSide e (apply f ts)
  at None h = inr (no_instance e f ts h)
  at (Some r) h = inl (r, contracted-sound e f ts r h)

pub reduce_once : SymbolsReduceOnce
reduce_once = record {
  side = left_side;
  one_right_side = λ e t r s i j. same_Some _ _ (sym (contracted-complete e i) ∙ contracted-complete e j);
  right_side_is_form = λ e f ts r n i. record { equal = next (forward i) same; normal = right-normal e i n };
  own_form = λ e f ts n h. record { equal = same; normal = (h, n) };
  of_lists = all_normal;
}
