-- What bindings give that extend others.
use Rattle.std.proofs.Common.{◌≡◌, ℕ, Bool, true, false, ◌||◌, ◌&&◌, List, [], ◌∷◌, ◌++◌, None, map, cond, inl, inr, refl, sym, ap, subst, ◌∙◌}
use Rattle.std.specs.Prelude.{All, Contains, if◌then◌else◌}
use Rattle.std.specs.Str.{bytes_eq}
use Rattle.std.proofs.lemmas.List.{map-append}
use Rattle.std.proofs.lemmas.List.Elements.{All-contains, Contains-append_cases, Contains-push_cases}
use Rattle.std.proofs.lemmas.Slice.Eq.{bytes_eq-Decides}
use Rattle.sap_terms.specs.declared.var.Var.{Var}
use Rattle.sap_terms.specs.declared.var.Sort.{Sort}
use Rattle.sap_terms.specs.declared.var.Sort.TheVariants.{Msg, Fresh, Pub}
use Rattle.sap_terms.specs.declared.binding.Binding.{Binding}
use Rattle.sap_terms.specs.Choice.{Choice, fits_sort, instance}
use Rattle.sap_terms.specs.Message.{IsMessage, IsMessageChoice}
use Rattle.sap_terms.specs.Signature.{Sig}
use Rattle.sap_terms.specs.Subst.{bound_to, subst_tree}
use Rattle.sap_terms.specs.Equations.{equations}
use Rattle.sap_terms.specs.Tree.{Tree, public, fresh}
use Rattle.sap_terms.specs.Variables.{tree_vars, is_known, new_vars}
use Rattle.sap_terms.specs.View.{tree}
use Rattle.sap_terms.proofs.PlainLaws.Tests.{same_name, and_left, and_right, and_true}
use Rattle.sap_rewrite.specs.Bound.{AreNamedOnce}
use Rattle.sap_rewrite.specs.Match.{Extends, Agrees, HaveOneSort, bound_vars, names}
use Rattle.sap_rewrite.specs.code.Walk.{skipped}
use Rattle.sap_rewrite.proofs.Around.{IsPlain, nothing_in}
use Rattle.sap_rewrite.proofs.Choices.{SameFor, first_item, later_item, same_fit, bound_as_chosen, known_front, known_here, extended_names, extended_vars, extended_among, agreeing}
use Rattle.sap_rewrite.proofs.NormalForms.{leaf-normal}
use Rattle.sap_rewrite.proofs.Skips.{met-all, fits-instance, instance-fits}
use Rattle.sap_rewrite.proofs.WalkLemmas.{added_names}

abbrev var_names : List Var → List (List ℕ)
var_names vs = map (λ (v : Var). v.name) vs

or_left : (a b : Bool) → a ≡ true → (a || b) ≡ true
or_left a b h = rw h refl

or_false : (a b : Bool) → a ≡ false → b ≡ false → (a || b) ≡ false
or_false a b h k = rw (h, k) refl

-- a bound or given name is known
known_in : (vs : List Var) (v : Var) → Contains vs v → is_known (var_names vs) v.name ≡ true
known_in [] v m = absurd (nothing_in v m)
known_in (w ∷ ws) v m =
    elim (Contains-append_cases (w ∷ []) ws v m) as (λ _. is_known (var_names (w ∷ ws)) v.name ≡ true) [
      | inl here ↦ elim (Contains-push_cases [] w v here) as (λ _. is_known (var_names (w ∷ ws)) v.name ≡ true) [
        | inl never ↦ absurd (nothing_in v never)
        | inr e ↦ or_left _ _ ((bytes_eq-Decides w.name v.name).1 (ap (λ (u : Var). u.name) e))
      ]
      | inr later ↦ elim (bytes_eq w.name v.name) as (λ r. (r || is_known (var_names ws) v.name) ≡ true) [ true ↦ refl | false ↦ known_in ws v later ]
    ]

known_append : (ms ns : List (List ℕ)) (n : List ℕ) → is_known (ms ++ ns) n ≡ (is_known ms n || is_known ns n)
known_append [] ns n = refl
known_append (m ∷ ms) ns n =
    elim (bytes_eq m n) as (λ r. (r || is_known (ms ++ ns) n) ≡ ((r || is_known ms n) || is_known ns n)) [ true ↦ refl | false ↦ known_append ms ns n ]

-- no new variable has a known name
new_unknown : (known : List (List ℕ)) (vs : List Var) (n : List ℕ) → is_known known n ≡ true → is_known (var_names (new_vars known vs)) n ≡ false
new_unknown known [] n h = refl
new_unknown known (v ∷ vs) n h =
    elim (is_known known v.name) as (λ r. is_known known v.name ≡ r → is_known (var_names (if r then new_vars known vs else v ∷ new_vars (known ++ v.name ∷ []) vs)) n ≡ false) [
      | true ↦ λ k. new_unknown known vs n h
      | false ↦ λ k. or_false (bytes_eq v.name n) _ (other k) (new_unknown (known ++ v.name ∷ []) vs n (known_front known (v.name ∷ []) n h))
    ] refl where
      other : is_known known v.name ≡ false → bytes_eq v.name n ≡ false
      other k = elim (bytes_eq v.name n) as (λ r. bytes_eq v.name n ≡ r → r ≡ false) [
        | true ↦ λ e. let same = ap (is_known known) ((bytes_eq-Decides v.name n).0 e) in cc
        | false ↦ λ e. refl
      ] refl

pub new_once : (known : List (List ℕ)) (vs : List Var) → AreNamedOnce (new_vars known vs)
new_once known [] = tt
new_once known (v ∷ vs) =
    elim (is_known known v.name) as (λ r. AreNamedOnce (if r then new_vars known vs else v ∷ new_vars (known ++ v.name ∷ []) vs)) [
      | true ↦ new_once known vs
      | false ↦ (new_unknown (known ++ v.name ∷ []) vs v.name (known_here known [] v.name), new_once (known ++ v.name ∷ []) vs)
    ]

append_once : (vs ws : List Var) → AreNamedOnce vs → AreNamedOnce ws → ((n : List ℕ) → is_known (var_names vs) n ≡ true → is_known (var_names ws) n ≡ false) → AreNamedOnce (vs ++ ws)
append_once [] ws a b h = b
append_once (v ∷ vs) ws a b h = (
  ap (λ ns. is_known ns v.name) (map-append (λ (w : Var). w.name) vs ws) ∙ known_append (var_names vs) (var_names ws) v.name ∙ or_false _ _ a.0 (h v.name (or_left _ _ (same_name v.name))),
  append_once vs ws a.1 b (λ n k. h n (elim (bytes_eq v.name n) as (λ r. (r || is_known (var_names vs) n) ≡ true) [ true ↦ refl | false ↦ k ])),
)

pub extended_once : (b c : List Binding) (vs : List Var) → Extends b vs c → AreNamedOnce (bound_vars b) → AreNamedOnce (bound_vars c)
extended_once b c vs x h =
    let ws = new_vars (names b) vs in
    subst AreNamedOnce (sym (extended_vars b vs c x)) (append_once (bound_vars b) ws h (new_once (names b) vs) (λ n k. new_unknown (names b) vs n (subst (λ ns. is_known ns n ≡ true) (sym (added_names b (bound_vars b) refl)) k)))

-- a term of each sort
abbrev some_term : Sort → Tree
some_term Msg = public []
some_term Fresh = fresh 0
some_term Pub = public []

some_message : (g : Sig) (s : Sort) → IsMessage g s (some_term s)
some_message g Msg = record { ground = tt; over = tt; normal = leaf-normal (equations g) (public []) refl; sorted = refl }
some_message g Fresh = record { ground = tt; over = tt; normal = leaf-normal (equations g) (fresh 0) refl; sorted = refl }
some_message g Pub = record { ground = tt; over = tt; normal = leaf-normal (equations g) (public []) refl; sorted = refl }

abbrev AreMessages : Sig → List Binding → Type 0
AreMessages g c = (e : Binding) → Contains c e → IsMessage g e.var.sort (tree e.term)

bound_plain : (g : Sig) (c : List Binding) (v : Var) → AreMessages g c → is_known (names c) v.name ≡ true → IsPlain g (bound_to c v)
bound_plain g [] v m k = cc
bound_plain g (e ∷ es) v m k =
    elim (bytes_eq e.var.name v.name) as (λ r. (r || is_known (names es) v.name) ≡ true → IsPlain g (if r then tree e.term else bound_to es v)) [
      | true ↦ λ _. let h = m e (first_item e es) in (h.ground, h.over, h.normal)
      | false ↦ λ k. bound_plain g es v (λ x i. m x (later_item e x es i)) k
    ] k

among_vars : (c : List Binding) (e : Binding) → Contains c e → Contains (bound_vars c) e.var
among_vars [] e m = absurd (nothing_in e m)
among_vars (x ∷ xs) e m =
    elim (Contains-append_cases (x ∷ []) xs e m) as (λ _. Contains (x.var ∷ bound_vars xs) e.var) [
      | inl here ↦ elim (Contains-push_cases [] x e here) as (λ _. Contains (x.var ∷ bound_vars xs) e.var) [
        | inl never ↦ absurd (nothing_in e never)
        | inr is ↦ subst (λ (y : Binding). Contains (x.var ∷ bound_vars xs) y.var) is (first_item x.var (bound_vars xs))
      ]
      | inr later ↦ later_item x.var e.var (bound_vars xs) (among_vars xs e later)
    ]

-- a binding's variable is bound to its term, where each variable is named once
bound_once : (c : List Binding) (e : Binding) → AreNamedOnce (bound_vars c) → Contains c e → bound_to c e.var ≡ tree e.term
bound_once [] e o m = absurd (nothing_in e m)
bound_once (x ∷ xs) e o m =
    elim (Contains-append_cases (x ∷ []) xs e m) as (λ _. bound_to (x ∷ xs) e.var ≡ tree e.term) [
      | inl here ↦ elim (Contains-push_cases [] x e here) as (λ _. bound_to (x ∷ xs) e.var ≡ tree e.term) [
        | inl never ↦ absurd (nothing_in e never)
        | inr is ↦ subst (λ (y : Binding). bound_to (x ∷ xs) y.var ≡ tree y.term) is (ap (λ r. cond r (tree x.term) (bound_to xs x.var)) (same_name x.var.name))
      ]
      | inr later ↦ elim (bytes_eq x.var.name e.var.name) as (λ r. bytes_eq x.var.name e.var.name ≡ r → cond r (tree x.term) (bound_to xs e.var) ≡ tree e.term) [
        | true ↦ λ h. twice h (known_in (bound_vars xs) e.var (among_vars xs e later))
        | false ↦ λ h. bound_once xs e o.1 later
      ] refl
    ] where
      twice : bytes_eq x.var.name e.var.name ≡ true → is_known (var_names (bound_vars xs)) e.var.name ≡ true → tree x.term ≡ tree e.term
      twice h k = let same = ap (is_known (var_names (bound_vars xs))) ((bytes_eq-Decides x.var.name e.var.name).0 h) in cc

agrees_each : (d : List Binding) (σ : Choice) → ((e : Binding) → Contains d e → σ e.var ≡ tree e.term) → Agrees d σ
agrees_each [] σ h = tt
agrees_each (e ∷ es) σ h = (h e (first_item e es), agrees_each es σ (λ x m. h x (later_item e x es m)))

pub agrees_itself : (b : List Binding) → AreNamedOnce (bound_vars b) → Agrees b (bound_to b)
agrees_itself b o = agrees_each b (bound_to b) (λ e m. bound_once b e o m)

-- a choice of messages that agrees
chosen_by : List Binding → Choice
chosen_by c v = cond (is_known (names c) v.name && fits_sort v.sort (bound_to c v)) (bound_to c v) (some_term v.sort)

pub choice_of : (g : Sig) (c : List Binding) → AreNamedOnce (bound_vars c) → All (λ (e : Binding). IsMessage g e.var.sort (tree e.term)) c → (σ : Choice) × IsMessageChoice g σ × Agrees c σ
unfolding chosen_by
choice_of g c o m =
    let each : AreMessages g c = λ e i. All-contains (λ (e : Binding). IsMessage g e.var.sort (tree e.term)) c e m i in
    (chosen_by c, (λ v. message v each), agrees_each c (chosen_by c) (λ e i. agrees e i each)) where
      message : (v : Var) → AreMessages g c → IsMessage g v.sort (chosen_by c v)
      message v each =
          elim (is_known (names c) v.name && fits_sort v.sort (bound_to c v)) as (λ r. (is_known (names c) v.name && fits_sort v.sort (bound_to c v)) ≡ r → IsMessage g v.sort (cond r (bound_to c v) (some_term v.sort))) [
            | true ↦ λ h.
                let q = bound_plain g c v each (and_left _ _ h) in
                record { ground = q.0; over = q.1; normal = q.2; sorted = and_right (is_known (names c) v.name) _ h }
            | false ↦ λ h. some_message g v.sort
          ] refl

      agrees : (e : Binding) → Contains c e → AreMessages g c → chosen_by c e.var ≡ tree e.term
      agrees e i each =
          let is = bound_once c e o i in
          let known : is_known (names c) e.var.name ≡ true = subst (λ ns. is_known ns e.var.name ≡ true) (sym (added_names c (bound_vars c) refl)) (known_in (bound_vars c) e.var (among_vars c e i)) in
          let sorted : fits_sort e.var.sort (bound_to c e.var) ≡ true = ap (fits_sort e.var.sort) is ∙ (each e i).sorted in
          ap (λ r. cond r (bound_to c e.var) (some_term e.var.sort)) (and_true _ _ known sorted) ∙ is

same_each : (τ σ : Choice) (vs : List Var) → ((v : Var) → Contains vs v → τ v ≡ σ v) → SameFor τ σ vs
same_each τ σ [] h = tt
same_each τ σ (v ∷ vs) h = (h v (first_item v vs), same_each τ σ vs (λ w m. h w (later_item v w vs m)))

same_at : (τ σ : Choice) (vs : List Var) (v : Var) → SameFor τ σ vs → Contains vs v → τ v ≡ σ v
same_at τ σ [] v h m = absurd (nothing_in v m)
same_at τ σ (w ∷ ws) v h m =
    elim (Contains-append_cases (w ∷ []) ws v m) as (λ _. τ v ≡ σ v) [
      | inl here ↦ elim (Contains-push_cases [] w v here) as (λ _. τ v ≡ σ v) [
        | inl never ↦ absurd (nothing_in v never)
        | inr e ↦ subst (λ u. τ u ≡ σ u) e h.0
      ]
      | inr later ↦ same_at τ σ ws v h.1 later
    ]

-- two choices that are the same for the variables of a tree turn it into one tree
same_instance : (τ σ : Choice) (t : Tree) → SameFor τ σ (tree_vars t) → instance τ t ≡ instance σ t
same_instance τ σ t h =
    let nothing = skipped None in
    fits-instance τ t (instance σ t) (same_fit nothing τ σ t (instance σ t) (subst (SameFor τ σ) (sym (met-all t)) h) (instance-fits σ t (instance σ t) refl))

pub substitutes : (b c : List Binding) (vs : List Var) → Extends b vs c → HaveOneSort (bound_vars b ++ vs) → (σ : Choice) → Agrees c σ → (t : Tree) → ((v : Var) → Contains (tree_vars t) v → Contains (bound_vars b ++ vs) v) → subst_tree c t ≡ instance σ t
substitutes b c vs x one σ a t inside = same_instance (bound_to c) σ t (same_each (bound_to c) σ (tree_vars t) (λ v m. each v (inside v m))) where
  each : (v : Var) → Contains (bound_vars b ++ vs) v → bound_to c v ≡ σ v
  each v m = elim (Contains-append_cases (bound_vars b) vs v m) as (λ _. bound_to c v ≡ σ v) [
    | inl before ↦
        let known : is_known (names b) v.name ≡ true = subst (λ ns. is_known ns v.name ≡ true) (sym (added_names b (bound_vars b) refl)) (known_in (bound_vars b) v before) in
        let still : is_known (names c) v.name ≡ true = subst (λ ns. is_known ns v.name ≡ true) (sym (extended_names b vs c x)) (known_front (names b) _ v.name known) in
        bound_as_chosen σ c v (λ w h e. one w v (extended_among b vs c w x h) m e) a still
    | inr new ↦ same_at (bound_to c) σ vs v (agreeing σ b vs c x one a) new
  ]
