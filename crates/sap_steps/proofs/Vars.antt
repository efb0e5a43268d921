-- The variables of a rule: each is open, or stands on the left side outside destructors.
use Rattle.std.proofs.Common.{◌≡◌, ℕ, Bool, true, false, ◌||◌, List, [], ◌∷◌, ◌++◌, map, ◌⊎◌, inl, inr, refl, sym, ap, subst, arith}
use Rattle.std.specs.Prelude.{Contains, if◌then◌else◌}
use Rattle.std.specs.Str.{bytes_eq}
use Rattle.std.proofs.lemmas.List.Elements.{Contains-push, Contains-push_cases, Contains-append_left, Contains-append_right, Contains-append_cases}
use Rattle.std.proofs.lemmas.Slice.Eq.{bytes_eq-Decides}
use Rattle.sap_terms.specs.Signature.{Sig, is_destructor_of}
use Rattle.sap_terms.specs.Tree.{Tree, variable, public, fresh, apply, Trees, none, more, trees_of}
use Rattle.sap_terms.specs.Variables.{facts_vars, tree_vars, trees_vars, is_known, new_vars}
use Rattle.sap_terms.specs.declared.binding.Binding.{Binding}
use Rattle.sap_terms.specs.declared.fact.Fact.{Fact}
use Rattle.sap_terms.specs.declared.var.Var.{Var}
use Rattle.sap_rewrite.specs.Around.{outer_vars, all_outer_vars}
use Rattle.sap_rewrite.specs.Match.{HaveOneSort, bound_vars}
use Rattle.sap_rule.specs.Variables.{facts_outer_vars, rule_vars, open_variables}
use Rattle.sap_rule.specs.declared.rule.Rule.{Rule}
use Rattle.sap_steps.proofs.Found.{fewer_sorts}

pub nothing_in : {X : Type 0} (x : X) → Contains [] x → ⊥
nothing_in x h = let no = h.1 in omega arith

pub first_item : {X : Type 0} (x : X) (xs : List X) → Contains (x ∷ xs) x
first_item x xs = Contains-append_left (x ∷ []) xs x (Contains-push [] x)

pub later_item : {X : Type 0} (x y : X) (xs : List X) → Contains xs y → Contains (x ∷ xs) y
later_item x y xs h = Contains-append_right (x ∷ []) xs y h

-- an element of a list is its first or a later one
pub item_cases : {X : Type 0} (x y : X) (xs : List X) → Contains (x ∷ xs) y → (x ≡ y) ⊎ Contains xs y
item_cases x y xs h = elim (Contains-append_cases (x ∷ []) xs y h) as (λ _. (x ≡ y) ⊎ Contains xs y) [
  | inl a ↦ elim (Contains-push_cases [] x y a) as (λ _. (x ≡ y) ⊎ Contains xs y) [ inl never ↦ absurd (nothing_in y never) | inr e ↦ inl e ]
  | inr b ↦ inr b
]

both_in : {X : Type 0} (xs ys us vs : List X) (x : X) → (Contains xs x → Contains us x) → (Contains ys x → Contains vs x) → Contains (xs ++ ys) x → Contains (us ++ vs) x
both_in xs ys us vs x f h m = elim (Contains-append_cases xs ys x m) as (λ _. Contains (us ++ vs) x) [
  | inl a ↦ Contains-append_left us vs x (f a)
  | inr b ↦ Contains-append_right us vs x (h b)
]

mutual
  outer_among : (g : Sig) (t : Tree) (v : Var) → Contains (outer_vars g t) v → Contains (tree_vars t) v
  outer_among g (variable w) v m = m
  outer_among g (public n) v m = m
  outer_among g (fresh k) v m = m
  outer_among g (apply f ts) v m = elim (is_destructor_of g f) as (λ r. Contains (if r then [] else all_outer_vars g ts) v → Contains (trees_vars ts) v) [
    | true ↦ λ m. absurd (nothing_in v m)
    | false ↦ λ m. all_outer_among g ts v m
  ] m

  all_outer_among : (g : Sig) (ts : Trees) (v : Var) → Contains (all_outer_vars g ts) v → Contains (trees_vars ts) v
  all_outer_among g none v m = m
  all_outer_among g (more t ts) v m = both_in (outer_vars g t) (all_outer_vars g ts) (tree_vars t) (trees_vars ts) v (outer_among g t v) (all_outer_among g ts v) m

facts_outer_among : (g : Sig) (fs : List Fact) (v : Var) → Contains (facts_outer_vars g fs) v → Contains (facts_vars fs) v
facts_outer_among g [] v m = m
facts_outer_among g (f ∷ fs) v m =
    both_in (all_outer_vars g (trees_of f.args)) (facts_outer_vars g fs) (trees_vars (trees_of f.args)) (facts_vars fs) v (all_outer_among g (trees_of f.args) v) (facts_outer_among g fs v) m

pub new_among : (known : List (List ℕ)) (vs : List Var) (w : Var) → Contains (new_vars known vs) w → Contains vs w
new_among known [] w h = h
new_among known (v ∷ vs) w h = elim (is_known known v.name) as (λ r. Contains (if r then new_vars known vs else v ∷ new_vars (known ++ v.name ∷ []) vs) w → Contains (v ∷ vs) w) [
  | true ↦ λ h. later_item v w vs (new_among known vs w h)
  | false ↦ λ h. both_in (v ∷ []) (new_vars (known ++ v.name ∷ []) vs) (v ∷ []) vs w (λ a. a) (new_among (known ++ v.name ∷ []) vs w) h
] h

known_last : (known : List (List ℕ)) (n m : List ℕ) → is_known (known ++ n ∷ []) m ≡ true → (is_known known m ≡ true) ⊎ (n ≡ m)
known_last [] n m h = elim (bytes_eq n m) as (λ r. bytes_eq n m ≡ r → (r || false) ≡ true → (false ≡ true) ⊎ (n ≡ m)) [ true ↦ λ e h. inr ((bytes_eq-Decides n m).0 e) | false ↦ λ e h. inl h ] refl h
known_last (k ∷ ks) n m h = elim (bytes_eq k m) as (λ r. (r || is_known (ks ++ n ∷ []) m) ≡ true → ((r || is_known ks m) ≡ true) ⊎ (n ≡ m)) [ true ↦ λ h. inl refl | false ↦ λ h. known_last ks n m h ] h

-- a variable of this name is among these
abbrev IsNamed : List Var → List ℕ → Type 0
IsNamed vs n = (w : Var) × Contains vs w × (w.name ≡ n)

named_later : (v : Var) (vs : List Var) (n : List ℕ) → IsNamed vs n → IsNamed (v ∷ vs) n
named_later v vs n h = (h.0, later_item v h.0 vs h.1, h.2)

known_named : (vs : List Var) (n : List ℕ) → is_known (map (λ (v : Var). v.name) vs) n ≡ true → IsNamed vs n
known_named [] n h = cc
known_named (v ∷ vs) n h = elim (bytes_eq v.name n) as (λ r. bytes_eq v.name n ≡ r → (r || is_known (map (λ (v : Var). v.name) vs) n) ≡ true → IsNamed (v ∷ vs) n) [
  | true ↦ λ e h. (v, first_item v vs, (bytes_eq-Decides v.name n).0 e)
  | false ↦ λ e h. named_later v vs n (known_named vs n h)
] refl h

-- each variable's name is known, or one of the new variables has it
new_or_known : (known : List (List ℕ)) (vs : List Var) (v : Var) → Contains vs v → (is_known known v.name ≡ true) ⊎ IsNamed (new_vars known vs) v.name
new_or_known known [] v m = absurd (nothing_in v m)
new_or_known known (x ∷ xs) v m =
    let N : Bool → Type 0 = λ r. (is_known known v.name ≡ true) ⊎ IsNamed (if r then new_vars known xs else x ∷ new_vars (known ++ x.name ∷ []) xs) v.name in
    elim (is_known known x.name) as (λ r. is_known known x.name ≡ r → N r) [
      | true ↦ λ e. elim (item_cases x v xs m) as (λ _. N true) [ inl is ↦ inl (subst (λ (w : Var). is_known known w.name ≡ true) is e) | inr later ↦ new_or_known known xs v later ]
      | false ↦ λ e. elim (item_cases x v xs m) as (λ _. N false) [
        | inl is ↦ inr (x, first_item x _, ap (λ (w : Var). w.name) is)
        | inr later ↦ elim (new_or_known (known ++ x.name ∷ []) xs v later) as (λ _. N false) [
          | inl k ↦ elim (known_last known x.name v.name k) as (λ _. N false) [ inl a ↦ inl a | inr b ↦ inr (x, first_item x _, b) ]
          | inr w ↦ inr (named_later x (new_vars (known ++ x.name ∷ []) xs) v.name w)
        ]
      ]
    ] refl

module _ (g : Sig) (r : Rule) (b : List Binding) (sorts : HaveOneSort (rule_vars r)) (open_ : bound_vars b ≡ open_variables g r) where
  outer_in : (v : Var) → Contains (facts_outer_vars g r.left) v → Contains (rule_vars r) v
  outer_in v m = Contains-append_left (facts_vars r.left) (facts_vars r.acts ++ facts_vars r.right) v (facts_outer_among g r.left v m)

  bound_in : (v : Var) → Contains (bound_vars b) v → Contains (rule_vars r) v
  bound_in v m = new_among (map (λ (v : Var). v.name) (facts_outer_vars g r.left)) (rule_vars r) v (subst (λ vs. Contains vs v) open_ m)

  -- the variables that are bound and found are some of the rule's
  pub one_sort : HaveOneSort (bound_vars b ++ facts_outer_vars g r.left)
  one_sort = fewer_sorts (bound_vars b ++ facts_outer_vars g r.left) (rule_vars r) (λ v m.
      elim (Contains-append_cases (bound_vars b) (facts_outer_vars g r.left) v m) as (λ _. Contains (rule_vars r) v) [ inl a ↦ bound_in v a | inr o ↦ outer_in v o ]) sorts

  -- and these are all
  pub covered : (v : Var) → Contains (rule_vars r) v → Contains (bound_vars b ++ facts_outer_vars g r.left) v
  covered v m =
      let os = facts_outer_vars g r.left in
      elim (new_or_known (map (λ (v : Var). v.name) os) (rule_vars r) v m) as (λ _. Contains (bound_vars b ++ os) v) [
        | inl k ↦
            let w = known_named os v.name k in
            let is : w.0 ≡ v = sorts w.0 v (outer_in w.0 w.1) m w.2 in
            Contains-append_right (bound_vars b) os v (subst (Contains os) is w.1)
        | inr w ↦
            let there = subst (λ vs. Contains vs w.0) (sym open_) w.1 in
            let is : w.0 ≡ v = sorts w.0 v (bound_in w.0 there) m w.2 in
            Contains-append_left (bound_vars b) os v (subst (Contains (bound_vars b)) is there)
      ]
