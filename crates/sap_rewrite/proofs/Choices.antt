-- Substitutions as choices, and what a walk finds.
use Rattle.std.proofs.Common.{◌≡◌, ℕ, true, false, ◌||◌, List, [], ◌∷◌, ◌++◌, map, Some, None, inl, inr, refl, sym, ap, subst, ◌∙◌, cond}
use Rattle.std.specs.Prelude.{Contains, if◌then◌else◌, Bool}
use Rattle.std.specs.Str.{bytes_eq}
use Rattle.std.proofs.lemmas.List.{append-nil, map-append}
use Rattle.std.proofs.lemmas.List.Elements.{Contains-push, Contains-append_left, Contains-append_right, Contains-append_cases}
use Rattle.std.proofs.lemmas.Option.{same_Some}
use Rattle.std.proofs.lemmas.Slice.Eq.{bytes_eq-Decides}
use Rattle.sap_terms.specs.declared.var.Var.{Var}
use Rattle.sap_terms.specs.declared.binding.Binding.{Binding}
use Rattle.sap_terms.specs.Tree.{Tree, variable, public, fresh, apply, Trees, none, more}
use Rattle.sap_terms.specs.View.{tree, term, tree-term}
use Rattle.sap_terms.specs.Choice.{Choice, fits_sort, IsSorted}
use Rattle.sap_terms.specs.Subst.{bound_to}
use Rattle.sap_terms.proofs.PlainLaws.Tests.{same_name}
use Rattle.sap_rewrite.specs.Match.{AllSorted, names, Extends, Agrees, HaveOneSort, bound_vars}
use Rattle.sap_terms.specs.Variables.{is_known, new_vars}
use Rattle.sap_rewrite.specs.code.Walk.{match_tree}
use Rattle.sap_rewrite.proofs.Skips.{met_vars, all_met_vars, FitsBut, AllFitBut}
use Rattle.sap_rewrite.proofs.WalkLemmas.{added_names, walk, walk_finds}

pub first_item : {X : Type 0} (x : X) (xs : List X) → Contains (x ∷ xs) x
first_item x xs = Contains-append_left (x ∷ []) xs x (Contains-push [] x)

pub later_item : {X : Type 0} (x y : X) (xs : List X) → Contains xs y → Contains (x ∷ xs) y
later_item x y xs h = Contains-append_right (x ∷ []) xs y h

-- two choices that are the same for these variables
abbrev pub SameFor : Choice → Choice → List Var → Type 0
SameFor τ σ [] = Unit {0}
SameFor τ σ (v ∷ vs) = (τ v ≡ σ v) × SameFor τ σ vs

same_front : (τ σ : Choice) (vs ws : List Var) → SameFor τ σ (vs ++ ws) → SameFor τ σ vs
same_front τ σ [] ws h = tt
same_front τ σ (v ∷ vs) ws h = (h.0, same_front τ σ vs ws h.1)

same_back : (τ σ : Choice) (vs ws : List Var) → SameFor τ σ (vs ++ ws) → SameFor τ σ ws
same_back τ σ [] ws h = h
same_back τ σ (v ∷ vs) ws h = same_back τ σ vs ws h.1

same_back_again : (τ σ : Choice) (vs : List Var) → SameFor τ σ vs → SameFor σ τ vs
same_back_again τ σ [] h = tt
same_back_again τ σ (v ∷ vs) h = (sym h.0, same_back_again τ σ vs h.1)

mutual
  -- whether a choice fits depends on the variables met alone
  pub same_fit : (s : List ℕ → Bool) (τ σ : Choice) (p t : Tree) → SameFor τ σ (met_vars s p) → FitsBut s σ p t → FitsBut s τ p t
  same_fit s τ σ (variable v) t m h = m.0 ∙ h
  same_fit s τ σ (public n) t m h = h
  same_fit s τ σ (fresh k) t m h = h
  same_fit s τ σ (apply f ps) t m (inl h) = inl h
  same_fit s τ σ (apply f ps) t m (inr h) =
      elim (s f) as (λ r. s f ≡ r → SameFor τ σ (cond r [] (all_met_vars s ps)) → FitsBut s τ (apply f ps) t) [
        | true ↦ λ e m. inl e
        | false ↦ λ e m. inr (h.0, h.1, same_all_fit s τ σ ps h.0 m h.2)
      ] refl m

  same_all_fit : (s : List ℕ → Bool) (τ σ : Choice) (ps ts : Trees) → SameFor τ σ (all_met_vars s ps) → AllFitBut s σ ps ts → AllFitBut s τ ps ts
  same_all_fit s τ σ none none m h = tt
  same_all_fit s τ σ (more p ps) (more t ts) m h =
      (same_fit s τ σ p t (same_front τ σ (met_vars s p) (all_met_vars s ps) m) h.0, same_all_fit s τ σ ps ts (same_back τ σ (met_vars s p) (all_met_vars s ps) m) h.1)
  same_all_fit s τ σ none (more t ts) m h = absurd h
  same_all_fit s τ σ (more p ps) none m h = absurd h

-- the variables bound to what the choice gives them
abbrev pub chosen : Choice → List Var → List Binding
chosen σ vs = map (λ (v : Var). record { var = v; term = term (σ v) }) vs

chosen_vars : (σ : Choice) (vs : List Var) → map (λ (e : Binding). e.var) (chosen σ vs) ≡ vs
chosen_vars σ [] = refl
chosen_vars σ (v ∷ vs) = ap (λ ws. v ∷ ws) (chosen_vars σ vs)

chosen_sorted : (σ : Choice) (vs : List Var) → IsSorted σ → AllSorted (chosen σ vs)
chosen_sorted σ [] s = tt
chosen_sorted σ (v ∷ vs) s = (ap (fits_sort v.sort) (tree-term (σ v)) ∙ s v, chosen_sorted σ vs s)

agrees_chosen : (σ : Choice) (b : List Binding) (vs : List Var) → Agrees b σ → Agrees (b ++ chosen σ vs) σ
agrees_chosen σ [] [] a = tt
agrees_chosen σ [] (v ∷ vs) a = (sym (tree-term (σ v)), agrees_chosen σ [] vs tt)
agrees_chosen σ (e ∷ es) vs a = (a.0, agrees_chosen σ es vs a.1)

-- a name that is bound is bound to what an agreeing choice gives it, if the name has one sort
pub bound_as_chosen : (σ : Choice) (c : List Binding) (v : Var) → ((w : Var) → Contains (bound_vars c) w → w.name ≡ v.name → w ≡ v) → Agrees c σ → is_known (names c) v.name ≡ true → bound_to c v ≡ σ v
bound_as_chosen σ [] v n a k = cc
bound_as_chosen σ (e ∷ es) v n a k =
    elim (bytes_eq e.var.name v.name) as (λ r. bytes_eq e.var.name v.name ≡ r → (r || is_known (names es) v.name) ≡ true → (if r then tree e.term else bound_to es v) ≡ σ v) [
      | true ↦ λ h k. sym a.0 ∙ ap σ (n e.var (first_item e.var (bound_vars es)) ((bytes_eq-Decides e.var.name v.name).0 h))
      | false ↦ λ h k. bound_as_chosen σ es v (λ w i. n w (later_item e.var w (bound_vars es) i)) a.1 k
    ] refl k

pub known_front : (ms ns : List (List ℕ)) (n : List ℕ) → is_known ms n ≡ true → is_known (ms ++ ns) n ≡ true
known_front [] ns n h = cc
known_front (m ∷ ms) ns n h =
    elim (bytes_eq m n) as (λ r. (r || is_known ms n) ≡ true → (r || is_known (ms ++ ns) n) ≡ true) [ true ↦ λ h. refl | false ↦ λ h. known_front ms ns n h ] h

pub known_here : (ms ns : List (List ℕ)) (n : List ℕ) → is_known (ms ++ n ∷ ns) n ≡ true
known_here [] ns n = ap (λ r. r || is_known ns n) (same_name n)
known_here (m ∷ ms) ns n =
    elim (bytes_eq m n) as (λ r. (r || is_known (ms ++ n ∷ ns) n) ≡ true) [ true ↦ refl | false ↦ known_here ms ns n ]

pub assoc : (ms ns ks : List (List ℕ)) → (ms ++ ns) ++ ks ≡ ms ++ (ns ++ ks)
assoc [] ns ks = refl
assoc (m ∷ ms) ns ks = ap (λ xs. m ∷ xs) (assoc ms ns ks)

-- what holds of these variables wherever their names are known once the new ones are, holds of all
all_known : (τ σ : Choice) (known : List (List ℕ)) (vs : List Var) → ((v : Var) → Contains vs v → is_known (known ++ map (λ (w : Var). w.name) (new_vars known vs)) v.name ≡ true → τ v ≡ σ v) → SameFor τ σ vs
all_known τ σ known [] h = tt
all_known τ σ known (v ∷ vs) h =
    elim (is_known known v.name) as (λ r. is_known known v.name ≡ r → ((u : Var) → Contains (v ∷ vs) u → is_known (known ++ map (λ (w : Var). w.name) (if r then new_vars known vs else v ∷ new_vars (known ++ v.name ∷ []) vs)) u.name ≡ true → τ u ≡ σ u) → (τ v ≡ σ v) × SameFor τ σ vs) [
      | true ↦ λ k h. (
        h v (first_item v vs) (known_front known _ v.name k),
        all_known τ σ known vs (λ u m i. h u (later_item v u vs m) i),
      )
      | false ↦ λ k h. (
        h v (first_item v vs) (known_here known _ v.name),
        all_known τ σ (known ++ v.name ∷ []) vs (λ u m i. h u (later_item v u vs m) (subst (λ ns. is_known ns u.name ≡ true) (assoc known (v.name ∷ []) (map (λ (w : Var). w.name) (new_vars (known ++ v.name ∷ []) vs))) i)),
      )
    ] refl h

new_among : (known : List (List ℕ)) (vs : List Var) (w : Var) → Contains (new_vars known vs) w → Contains vs w
new_among known [] w h = h
new_among known (v ∷ vs) w h =
    elim (is_known known v.name) as (λ r. Contains (if r then new_vars known vs else v ∷ new_vars (known ++ v.name ∷ []) vs) w → Contains (v ∷ vs) w) [
      | true ↦ λ h. later_item v w vs (new_among known vs w h)
      | false ↦ λ h. elim (Contains-append_cases (v ∷ []) (new_vars (known ++ v.name ∷ []) vs) w h) as (λ _. Contains (v ∷ vs) w) [ inl a ↦ Contains-append_left (v ∷ []) vs w a | inr b ↦ later_item v w vs (new_among (known ++ v.name ∷ []) vs w b) ]
    ] h

-- what extended bindings bind
pub extended_names : (b : List Binding) (vs : List Var) (c : List Binding) → Extends b vs c → names c ≡ names b ++ map (λ (v : Var). v.name) (new_vars (names b) vs)
extended_names b vs c x =
    ap names x.is ∙ map-append (λ (e : Binding). e.var.name) b x.added ∙ ap (λ ns. names b ++ ns) (added_names x.added (new_vars (names b) vs) x.on)

pub extended_vars : (b : List Binding) (vs : List Var) (c : List Binding) → Extends b vs c → bound_vars c ≡ bound_vars b ++ new_vars (names b) vs
extended_vars b vs c x =
    ap bound_vars x.is ∙ map-append (λ (e : Binding). e.var) b x.added ∙ ap (λ vs. bound_vars b ++ vs) x.on

pub extended_among : (b : List Binding) (vs : List Var) (c : List Binding) (w : Var) → Extends b vs c → Contains (bound_vars c) w → Contains (bound_vars b ++ vs) w
extended_among b vs c w x h =
    let among = subst (λ us. Contains us w) (extended_vars b vs c x) h in
    elim (Contains-append_cases (bound_vars b) (new_vars (names b) vs) w among) as (λ _. Contains (bound_vars b ++ vs) w) [ inl a ↦ Contains-append_left (bound_vars b) vs w a | inr n ↦ Contains-append_right (bound_vars b) vs w (new_among (names b) vs w n) ]

-- extended bindings and a choice that agrees with them are the same for the variables, if no name has two sorts
pub agreeing : (σ : Choice) (b : List Binding) (vs : List Var) (c : List Binding) → Extends b vs c → HaveOneSort (bound_vars b ++ vs) → Agrees c σ → SameFor (bound_to c) σ vs
agreeing σ b vs c x one a = all_known (bound_to c) σ (names b) vs (λ v m k.
    let known : is_known (names c) v.name ≡ true = subst (λ ns. is_known ns v.name ≡ true) (sym (extended_names b vs c x)) k in
    bound_as_chosen σ c v (λ w h e. one w v (extended_among b vs c w x h) (Contains-append_right (bound_vars b) vs v m) e) a known)

-- the bindings that a sorted choice gives
pub chosen_extends : (σ : Choice) (b : List Binding) (vs : List Var) → IsSorted σ → Extends b vs (b ++ chosen σ (new_vars (names b) vs))
chosen_extends σ b vs s =
    let ws = new_vars (names b) vs in
    record { added = chosen σ ws; is = refl; on = chosen_vars σ ws; sorted = chosen_sorted σ ws s }

module _ (s : List ℕ → Bool) (p t : Tree) (b : List Binding) where
  abbrev OneSort : Type 0
  OneSort = HaveOneSort (bound_vars b ++ met_vars s p)

  -- a choice that fits gives what the walk finds
  choice_found : OneSort → (σ : Choice) → IsSorted σ → Agrees b σ → FitsBut s σ p t → match_tree s p t b ≡ Some (b ++ chosen σ (new_vars (names b) (met_vars s p)))
  choice_found one σ o a h =
      let vs = met_vars s p in
      let c = b ++ chosen σ (new_vars (names b) vs) in
      let x = chosen_extends σ b vs o in
      walk_finds s p t b c x (same_fit s (bound_to c) σ p t (agreeing σ b vs c x one (agrees_chosen σ b (new_vars (names b) vs) a)) h)

  -- so it agrees with what the walk finds
  pub found_agrees : (c : List Binding) → match_tree s p t b ≡ Some c → OneSort → (σ : Choice) → IsSorted σ → Agrees b σ → FitsBut s σ p t → Agrees c σ
  found_agrees c m one σ o a h =
      let is = same_Some _ _ (sym (choice_found one σ o a h) ∙ m) in
      subst (λ d. Agrees d σ) is (agrees_chosen σ b (new_vars (names b) (met_vars s p)) a)

  -- and there is none where it finds nothing
  pub none_fits : match_tree s p t b ≡ None → OneSort → (σ : Choice) → IsSorted σ → Agrees b σ → FitsBut s σ p t → ⊥
  none_fits m one σ o a h = let found = choice_found one σ o a h in cc

  -- what agrees with what the walk finds fits
  pub agreeing_fits : (c : List Binding) → match_tree s p t b ≡ Some c → OneSort → (σ : Choice) → Agrees c σ → FitsBut s σ p t
  agreeing_fits c m one σ a =
      let f = walk s p t b c m in
      let here = subst (λ d. FitsBut s (bound_to d) p t) (append-nil c) (f.fits []) in
      same_fit s σ (bound_to c) p t (same_back_again (bound_to c) σ (met_vars s p) (agreeing σ b (met_vars s p) c f.extends one a)) here
