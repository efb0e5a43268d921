-- What bindings that are added choose, and how a pattern's variables are found again in its instance.
use Rattle.std.proofs.Common.{◌≡◌, ℕ, Bool, true, false, ◌||◌, List, [], ◌∷◌, ◌++◌, Option, Some, None, if◌then◌else◌, refl, sym, ap, subst, ◌∙◌, ◌⊎◌, inl, inr, arith}
use Rattle.std.specs.Prelude.{Contains}
use Rattle.std.specs.Option.{option_map_or}
use Rattle.std.specs.Str.{bytes_eq}
use Rattle.std.proofs.lemmas.Bool.{false≢true}
use Rattle.std.proofs.lemmas.Slice.Eq.{bytes_eq-Decides}
use Rattle.sap_terms.specs.Choice.{Choice, instance, instances}
use Rattle.sap_terms.specs.Ground.{IsGround, AreGround}
use Rattle.sap_terms.specs.Subst.{bound_to}
use Rattle.sap_terms.specs.Tree.{Tree, variable, public, fresh, apply, Trees, none, more}
use Rattle.sap_terms.specs.Variables.{tree_vars, trees_vars, is_known, new_vars}
use Rattle.sap_terms.specs.View.{tree}
use Rattle.sap_terms.specs.declared.binding.Binding.{Binding}
use Rattle.sap_terms.specs.declared.var.Var.{Var}
use Rattle.sap_rewrite.specs.Match.{Agrees, HaveOneSort, bound_vars, names}
use Rattle.sap_process.specs.Flaws.{binder_of}
use Rattle.sap_process.specs.ProcessSteps.{chosen}
use Rattle.sap_terms.proofs.PlainLaws.Items.{cons_cases, first_item, later_item}
use Rattle.sap_terms.proofs.PlainLaws.Names.{known_push}

pub not_true : (b : Bool) → (b ≡ true → ⊥) → b ≡ false
not_true true h = absurd (h refl)
not_true false h = refl

-- what is bound first counts
pub bound_append : (b a : List Binding) (v : Var) → bound_to (b ++ a) v ≡ (if is_known (names b) v.name then bound_to b v else bound_to a v)
bound_append [] a v = refl
bound_append (e ∷ es) a v = by (bytes_eq e.var.name v.name) (bound_append es a v) where
  by : (b : Bool) → bound_to (es ++ a) v ≡ (if is_known (names es) v.name then bound_to es v else bound_to a v)
      → (if b then tree e.term else bound_to (es ++ a) v) ≡ (if b || is_known (names es) v.name then (if b then tree e.term else bound_to es v) else bound_to a v)
  by true later = refl
  by false later = later

-- the binder of a name that isn't known is the first variable of this name
pub binder_new : (known : List (List ℕ)) (vs : List Var) (n : List ℕ) → is_known known n ≡ false → binder_of (new_vars known vs) n ≡ binder_of vs n
binder_new known [] n h = refl
binder_new known (v ∷ vs) n h = by (λ ks free. binder_new ks vs n free) (is_known known v.name) refl (bytes_eq v.name n) refl where
  by : ((ks : List (List ℕ)) → is_known ks n ≡ false → binder_of (new_vars ks vs) n ≡ binder_of vs n) → (a : Bool) → is_known known v.name ≡ a → (b : Bool) → bytes_eq v.name n ≡ b
      → binder_of (if a then new_vars known vs else v ∷ new_vars (known ++ v.name ∷ []) vs) n ≡ (if b then Some v else binder_of vs n)
  by rest true k true e =
      let name : v.name ≡ n = (bytes_eq-Decides v.name n).0 e in
      absurd (false≢true (sym h ∙ subst (λ m. is_known known m ≡ true) name k))
  by rest true k false e = rest known h
  by rest false k true e = rw e refl
  by rest false k false e =
      let newer : is_known (known ++ v.name ∷ []) n ≡ false = not_true (is_known (known ++ v.name ∷ []) n) (λ yes. elim (known_push known v.name n yes) [
        | inl old ↦ false≢true (sym h ∙ old)
        | inr same ↦ false≢true (sym e ∙ (bytes_eq-Decides v.name n).1 same)
      ]) in
      rw e (rest (known ++ v.name ∷ []) newer)

-- what bindings choose that agree with a choice
pub chosen_bound : (a : List Binding) (σ : Choice) → Agrees a σ → (v : Var) → bound_to a v ≡ chosen σ (bound_vars a) v
chosen_bound [] σ h v = refl
chosen_bound (e ∷ es) σ h v = by (bytes_eq e.var.name v.name) (sym h.0) (chosen_bound es σ h.1 v) where
  by : (b : Bool) → tree e.term ≡ σ e.var → bound_to es v ≡ chosen σ (bound_vars es) v
      → (if b then tree e.term else bound_to es v) ≡ option_map_or σ (if b then Some e.var else binder_of (bound_vars es) v.name) (variable v)
  by true first later = first
  by false first later = later

-- a variable has a binder of its name among variables
pub binder_found : (vs : List Var) (v : Var) → Contains vs v → (w : Var) × (binder_of vs v.name ≡ Some w) × Contains vs w × (w.name ≡ v.name)
binder_found [] v m = absurd (omega (arith, m.1))
binder_found (x ∷ xs) v m = by (λ k. binder_found xs v k) (bytes_eq x.name v.name) refl (cons_cases x xs v m) where
  by : (Contains xs v → (w : Var) × (binder_of xs v.name ≡ Some w) × Contains xs w × (w.name ≡ v.name)) → (b : Bool) → bytes_eq x.name v.name ≡ b → (x ≡ v) ⊎ Contains xs v → (w : Var) × ((if b then Some x else binder_of xs v.name) ≡ Some w) × Contains (x ∷ xs) w × (w.name ≡ v.name)
  by rest true e cases = (x, refl, first_item x xs, (bytes_eq-Decides x.name v.name).0 e)
  by rest false e (inl same) = absurd (false≢true (sym e ∙ (bytes_eq-Decides x.name v.name).1 (ap (λ (u : Var). u.name) same)))
  by rest false e (inr later) = let r = rest later in (r.0, r.1, later_item x xs r.0 r.2, r.3)

-- among variables of one sort a name, it is the variable itself
pub chosen_itself : (σ : Choice) (vs : List Var) → HaveOneSort vs → (v : Var) → Contains vs v → chosen σ vs v ≡ σ v
chosen_itself σ vs one v m =
    let b = binder_found vs v m in
    ap (λ o. option_map_or σ o (variable v)) b.1 ∙ ap σ (one b.0 v b.2 m b.3)

-- first occurrences are among the variables, and not known
pub new_among : (known : List (List ℕ)) (vs : List Var) (w : Var) → Contains (new_vars known vs) w → Contains vs w × (is_known known w.name ≡ false)
new_among known [] w m = absurd (omega (arith, m.1))
new_among known (v ∷ vs) w m = by (λ ks k. new_among ks vs w k) (is_known known v.name) refl m where
  known_front : (ks : List (List ℕ)) (n k : List ℕ) → is_known ks k ≡ true → is_known (ks ++ n ∷ []) k ≡ true
  known_front [] n k h = cc
  known_front (j ∷ js) n k h = at (bytes_eq j k) h (known_front js n k) where
    at : (b : Bool) → (b || is_known js k) ≡ true → (is_known js k ≡ true → is_known (js ++ n ∷ []) k ≡ true) → (b || is_known (js ++ n ∷ []) k) ≡ true
    at true h later = refl
    at false h later = later h

  by : ((ks : List (List ℕ)) → Contains (new_vars ks vs) w → Contains vs w × (is_known ks w.name ≡ false)) → (a : Bool) → is_known known v.name ≡ a → Contains (if a then new_vars known vs else v ∷ new_vars (known ++ v.name ∷ []) vs) w → Contains (v ∷ vs) w × (is_known known w.name ≡ false)
  by rest true k m = let r = rest known m in (later_item v vs w r.0, r.1)
  by rest false k m = elim (cons_cases v (new_vars (known ++ v.name ∷ []) vs) w m) [
    | inl same ↦ (subst (Contains (v ∷ vs)) same (first_item v vs), subst (λ (u : Var). is_known known u.name ≡ false) same k)
    | inr later ↦ (let r = rest (known ++ v.name ∷ []) later in (later_item v vs w r.0, not_true (is_known known w.name) (λ yes. false≢true (sym r.1 ∙ known_front known v.name w.name yes))))
  ]

-- the first of two that is there
abbrev or_else : Option Var → Option Var → Option Var
or_else (Some x) o = Some x
or_else None o = o

binder_append : (xs ys : List Var) (n : List ℕ) → binder_of (xs ++ ys) n ≡ or_else (binder_of xs n) (binder_of ys n)
binder_append [] ys n = refl
binder_append (x ∷ xs) ys n = by (bytes_eq x.name n) (binder_append xs ys n) where
  by : (b : Bool) → binder_of (xs ++ ys) n ≡ or_else (binder_of xs n) (binder_of ys n) → (if b then Some x else binder_of (xs ++ ys) n) ≡ or_else (if b then Some x else binder_of xs n) (binder_of ys n)
  by true later = refl
  by false later = later

mutual
  pub ground_vars : (t : Tree) → IsGround t → tree_vars t ≡ []
  ground_vars (variable v) h = absurd h
  ground_vars (public n) h = refl
  ground_vars (fresh k) h = refl
  ground_vars (apply f ts) h = grounds_vars ts h

  grounds_vars : (ts : Trees) → AreGround ts → trees_vars ts ≡ []
  grounds_vars none h = refl
  grounds_vars (more t ts) h = let a = ground_vars t h.0 in let b = grounds_vars ts h.1 in λ i. a i ++ b i

-- where known variables stand for ground trees and others for themselves, a name that isn't known has one binder in a pattern and
-- in its instance
module _ (known : List (List ℕ)) (γ : Choice) (cases : (v : Var) → ((is_known known v.name ≡ true) × IsGround (γ v)) ⊎ ((is_known known v.name ≡ false) × (γ v ≡ variable v))) (n : List ℕ) (free : is_known known n ≡ false) where
  mutual
    pub binder_stays : (t : Tree) → binder_of (tree_vars (instance γ t)) n ≡ binder_of (tree_vars t) n
    binder_stays (variable v) = elim (cases v) [
      | inl bound ↦ ap (λ vs. binder_of vs n) (ground_vars (γ v) bound.1) ∙ by (bytes_eq v.name n) refl bound.0
      | inr other ↦ ap (λ t. binder_of (tree_vars t) n) other.1
    ]
      where
        by : (b : Bool) → bytes_eq v.name n ≡ b → is_known known v.name ≡ true → None ≡ (if b then Some v else None)
        by true e k = absurd (false≢true (sym free ∙ subst (λ m. is_known known m ≡ true) ((bytes_eq-Decides v.name n).0 e) k))
        by false e k = refl
    binder_stays (public m) = refl
    binder_stays (fresh k) = refl
    binder_stays (apply f ts) = binders_stay ts

    pub binders_stay : (ts : Trees) → binder_of (trees_vars (instances γ ts)) n ≡ binder_of (trees_vars ts) n
    binders_stay none = refl
    binders_stay (more t ts) =
        binder_append (tree_vars (instance γ t)) (trees_vars (instances γ ts)) n ∙ (λ i. or_else (binder_stays t i) (binders_stay ts i)) ∙ sym (binder_append (tree_vars t) (trees_vars ts) n)
