-- What is known is deducible from the entries.
use Rattle.std.proofs.Common.{◌≡◌, ◌<◌, ◌≤◌, ℕ, zero, suc, List, [], ◌∷◌, length, get_or, Some, refl, sym, ap, ◌∙◌, ◌⊎◌, inl, inr, arith, subst}
use Rattle.std.specs.Prelude.{slice_get, Contains}
use Rattle.std.proofs.lemmas.List.{length-map}
use Rattle.std.proofs.lemmas.Option.{slice_get_within, get_or_from_slice_get}
use Rattle.sap_terms.proofs.PlainLaws.Items.{contains_got, first_item, later_item}
use Rattle.sap_terms.specs.Tree.{Tree}
use Rattle.sap_terms.specs.Deduce.{IsDerived, a_public, given, applied, IsDerivation, IsDeducible}
use Rattle.sap_terms.specs.Equal.{same}
use Rattle.sap_terms.specs.Equations.{equations}
use Rattle.sap_terms.specs.Normal.{IsNormal}
use Rattle.sap_share.specs.Shared.{Shared, tree_at, trees_at}
use Rattle.sap_derive.specs.code.Lines.{premises_of}
use Rattle.sap_derive.specs.code.Clauses.{IsLineOn, written, applied as applied_on}
use Rattle.sap_derive.specs.code.Listed.{IsListed}
use Rattle.sap_derive.specs.code.States.{IsStateOf}
use Rattle.sap_derive.specs.declared.closure.Closure.{Closure}
use Rattle.sap_derive.specs.declared.line.Line.{Line}
use Rattle.sap_derive.specs.declared.openers.Openers.{Openers}
use Rattle.sap_derive.specs.declared.grounds.Grounds.{Grounds}
use Rattle.sap_derive.specs.declared.grounds.Grounds.TheVariants.{Given, By}
use Rattle.sap_derive.proofs.Completed.{got-at, all-trees}
use Rattle.sap_derive.proofs.Gets.{same-or_not}
use Rattle.sap_derive.proofs.Parts.{tree-got}

-- the terms of the first known numbers, the last one first
abbrev pub fronts : List Tree → List ℕ → ℕ → List Tree
fronts trees known zero = []
fronts trees known (suc k) = tree_at trees (get_or known k 0) ∷ fronts trees known k

module _ (s : Shared) (entries terms : List ℕ) (brought done : ℕ) (closure : Closure) (openers : Openers) (state : IsStateOf s entries terms brought done closure openers) where
  abbrev front : ℕ → List Tree
  front k = fronts s.trees closure.known k

  abbrev frame : List Tree
  frame = trees_at s.trees entries

  front-has : (k j n : ℕ) → slice_get closure.known j ≡ Some n → j < k → Contains (front k) (tree_at s.trees n)
  front-has zero j n e l = absurd (omega arith)
  front-has (suc k) j n e l = go (λ h. front-has k j n e h) (same-or_not j k) where
    go : (j < k → Contains (fronts s.trees closure.known k) (tree_at s.trees n)) → (j ≡ k) ⊎ ¬ (j ≡ k) → Contains (fronts s.trees closure.known (suc k)) (tree_at s.trees n)
    go before (inl q) =
        let here = get_or_from_slice_get closure.known k n 0 (subst (λ (i : ℕ). slice_get closure.known i ≡ Some n) q e) in
        subst (λ (i : ℕ). Contains (fronts s.trees closure.known (suc k)) (tree_at s.trees i)) here (first_item (tree_at s.trees (get_or closure.known k 0)) (fronts s.trees closure.known k))
    go before (inr q) = later_item (tree_at s.trees (get_or closure.known k 0)) (fronts s.trees closure.known k) (tree_at s.trees n) (before (omega arith))

  derived-by : (k : ℕ) (l : Line) (t : Tree) → IsLineOn s.sig s.trees l t → ((i m : ℕ) → slice_get (premises_of l) i ≡ Some m → Contains (front k) (tree_at s.trees m)) → IsDerived s.sig [] frame (front k) t
  derived-by k _ _ (written a) h = a_public a refl
  derived-by k _ _ (applied_on f ks t can form) h =
      applied f (trees_at s.trees ks) can.public_symbol (can.arity ∙ ap (λ i. Some i) (sym (length-map ks (tree_at s.trees)))) (all-trees (Contains (front k)) s.trees ks h) form

  derived : (k n : ℕ) → slice_get closure.known k ≡ Some n → IsDerived s.sig [] frame (front k) (tree_at s.trees n)
  derived k n e = at (got-at closure.ways.items k within) where
    within : k < length closure.ways.items
    within = (let b = slice_get_within closure.known k n e in let c = state.closed.sound.count in omega arith)

    at : (w : Grounds) × (slice_get closure.ways.items k ≡ Some w) → IsDerived s.sig [] frame (front k) (tree_at s.trees n)
    at (Given, w) =
        let there = state.given_are n (record { rank = k; is = e; way = w }) in
        given (contains_got frame (tree_at s.trees n) there.0 (tree-got s.trees entries there.0 n there.1))
    at (By c, w) =
        let step = state.closed.sound.steps k c w in
        let here = step.gives in
        let number : step.clause.gives ≡ n = cc in
        let numbered = state.numbered c step.clause step.is in
        subst (λ (i : ℕ). IsDerived s.sig [] frame (front k) (tree_at s.trees i)) number
        (derived-by k step.clause.line (tree_at s.trees step.clause.gives) numbered.line (λ i m q. let b = step.before i m q in front-has k b.0 m b.2 b.1))

  derivation : (k : ℕ) → k ≤ length closure.known → IsDerivation s.sig [] frame (front k)
  derivation zero l = tt
  derivation (suc k) l =
      let n = got-at closure.known k (omega arith) in
      let here = sym (get_or_from_slice_get closure.known k n.0 0 n.1) in
      (subst (λ (i : ℕ). IsDerived s.sig [] frame (fronts s.trees closure.known k) (tree_at s.trees i)) here (derived k n.0 n.1), derivation k (omega arith))

  -- so is what is known
  pub deduced : (n : ℕ) → IsListed closure.known n → IsNormal (equations s.sig) (tree_at s.trees n) → IsDeducible s.sig [] frame (tree_at s.trees n)
  deduced n l normal = record {
    form = tree_at s.trees n;
    is_form = record { equal = same; normal = normal };
    earlier = front l.0;
    derivation = (derived l.0 n l.1, derivation l.0 (let w = slice_get_within closure.known l.0 n l.1 in omega arith));
  }
