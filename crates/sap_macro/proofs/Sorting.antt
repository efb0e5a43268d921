-- Sorts are set before uses are replaced, or behind it: that is one.
use Rattle.std.proofs.Common.{◌≡◌, ℕ, true, false, List, [], ◌∷◌, ◌++◌, ◌⊎◌, inl, inr, map, Option, Some, None, refl, sym, ap, ap₂, ◌∙◌, subst, ⊎_elim}
use Rattle.std.proofs.lemmas.Bool.{cases_Bool, false≢true}
use Rattle.std.proofs.lemmas.List.{append_assoc}
use Rattle.std.specs.Prelude.{if◌then◌else◌}
use Rattle.std.specs.Option.{option_map_or}
use Rattle.std.specs.Str.{bytes_eq}
use Rattle.sap_terms.specs.Choice.{Choice, instance, instances}
use Rattle.sap_terms.specs.Modulo.{instance_facts}
use Rattle.sap_terms.specs.Tree.{Tree, variable, public, fresh, apply, Trees, none, more, trees_of}
use Rattle.sap_terms.specs.declared.fact.Fact.{Fact}
use Rattle.sap_terms.specs.declared.var.Var.{Var}
use Rattle.sap_terms.specs.Variables.{is_known, tree_vars, trees_vars, facts_vars, new_vars}
use Rattle.sap_process.specs.Sites.{var_names}
use Rattle.sap_process.specs.Flaws.{binder_of}
use Rattle.sap_process.specs.Sorted.{by_binder}
use Rattle.sap_terms.proofs.PlainLaws.Known.{apart, clash, in_cases, in_head, not_in, one_name, own_name, two_names}
use Rattle.sap_macro.specs.Instances.{IsOverScope}
use Rattle.sap_macro.specs.UpToNames.{named, fact}
use Rattle.sap_macro.proofs.Scopes.{in_left, in_right, append_cases, over_left, over_right}

pub append_none : {A : Type 0} (xs : List A) → xs ++ [] ≡ xs
append_none [] = refl
append_none (x ∷ xs) = ap (λ z. x ∷ z) (append_none xs)

-- ---- a binder is the first of its name

-- one of these behind those has no say where the name is there
binder_before : (vs ws : List Var) (n : List ℕ) → is_known (var_names vs) n ≡ true → binder_of (vs ++ ws) n ≡ binder_of vs n
binder_before [] ws n h = absurd (false≢true h)
binder_before (v ∷ vs) ws n h =
    ⊎_elim (λ e. ap (λ b. if b then Some v else binder_of (vs ++ ws) n) e ∙ sym (ap (λ b. if b then Some v else binder_of vs n) e))
    (λ e. ap (λ b. if b then Some v else binder_of (vs ++ ws) n) e ∙ binder_before vs ws n (⊎_elim (λ s. absurd (two_names v.name n e s)) (λ k. k) (in_cases n v.name (var_names vs) h))
    ∙ sym (ap (λ b. if b then Some v else binder_of vs n) e))
    (cases_Bool (bytes_eq v.name n))

binder_behind : (vs ws : List Var) (n : List ℕ) → is_known (var_names vs) n ≡ false → binder_of (vs ++ ws) n ≡ binder_of ws n
binder_behind [] ws n h = refl
binder_behind (v ∷ vs) ws n h =
    let o = not_in n v.name (var_names vs) h in
    ap (λ b. if b then Some v else binder_of (vs ++ ws) n) o.0 ∙ binder_behind vs ws n o.1

-- the sort that a variable of this name gets, else its own
abbrev pub as_bound : Option Var → Var → Tree
as_bound o v = option_map_or (λ (b : Var). variable (record { name = v.name; sort = b.sort })) o (variable v)

known_still : (vs ws : List Var) (v : Var) → is_known (var_names vs) v.name ≡ true → by_binder (vs ++ ws) v ≡ by_binder vs v
known_still vs ws v h = ap (λ o. as_bound o v) (binder_before vs ws v.name h)

mutual
  pub still : (vs ws : List Var) (t : Tree) → IsOverScope (var_names vs) (tree_vars t) → instance (by_binder (vs ++ ws)) t ≡ instance (by_binder vs) t
  still vs ws (variable v) o = known_still vs ws v o.0
  still vs ws (public n) o = refl
  still vs ws (fresh k) o = refl
  still vs ws (apply f ts) o = ap (apply f) (all_still vs ws ts o)

  all_still : (vs ws : List Var) (ts : Trees) → IsOverScope (var_names vs) (trees_vars ts) → instances (by_binder (vs ++ ws)) ts ≡ instances (by_binder vs) ts
  all_still vs ws none o = refl
  all_still vs ws (more t ts) o =
      let one = still vs ws t (over_left (var_names vs) (tree_vars t) (trees_vars ts) o) in
      let rest = all_still vs ws ts (over_right (var_names vs) (tree_vars t) (trees_vars ts) o) in
      λ i. more (one i) (rest i)

pub names_append : (vs ws : List Var) → var_names (vs ++ ws) ≡ var_names vs ++ var_names ws
names_append [] ws = refl
names_append (v ∷ vs) ws = ap (λ ns. v.name ∷ ns) (names_append vs ws)

-- ---- one text under a choice and names: its own names are new, what is put for others is in scope

-- each variable of what is put in, in order
abbrev pub put_vars : Choice → List Var → List Var
put_vars r [] = []
put_vars r (v ∷ vs) = tree_vars (r v) ++ put_vars r vs

pub put_append : (r : Choice) (vs ws : List Var) → put_vars r (vs ++ ws) ≡ put_vars r vs ++ put_vars r ws
put_append r [] ws = refl
put_append r (v ∷ vs) ws = ap (λ z. tree_vars (r v) ++ z) (put_append r vs ws) ∙ joined_again (tree_vars (r v)) (put_vars r vs) (put_vars r ws)
  where
    joined_again : (xs ys zs : List Var) → xs ++ (ys ++ zs) ≡ (xs ++ ys) ++ zs
    joined_again [] ys zs = refl
    joined_again (x ∷ xs) ys zs = ap (λ z. x ∷ z) (joined_again xs ys zs)

mutual
  pub vars_put : (r : Choice) (t : Tree) → tree_vars (instance r t) ≡ put_vars r (tree_vars t)
  vars_put r (variable v) = nothing_more (tree_vars (r v))
    where
      nothing_more : (xs : List Var) → xs ≡ xs ++ []
      nothing_more [] = refl
      nothing_more (x ∷ xs) = ap (λ z. x ∷ z) (nothing_more xs)
  vars_put r (public n) = refl
  vars_put r (fresh k) = refl
  vars_put r (apply f ts) = all_vars_put r ts

  pub all_vars_put : (r : Choice) (ts : Trees) → trees_vars (instances r ts) ≡ put_vars r (trees_vars ts)
  all_vars_put r none = refl
  all_vars_put r (more t ts) = λ i. (ap₂ (λ (xs ys : List Var). xs ++ ys) (vars_put r t) (all_vars_put r ts) ∙ sym (put_append r (tree_vars t) (trees_vars ts))) i

abbrev pub renaming : (List ℕ → List ℕ) → Var → Var
renaming b v = named (b v.name) v.sort

module _ (r : Choice) (b : List ℕ → List ℕ) (B : List (List ℕ))
    (own : (v : Var) → is_known B v.name ≡ true → r v ≡ variable (named (b v.name) v.sort))
    (one : (x z : List ℕ) → is_known B x ≡ true → is_known B z ≡ true → b x ≡ b z → x ≡ z) where
  -- what is put for names in scope is over the other scope; own names that aren't in scope have new ones
  pub record Fit (scope other : List (List ℕ)) : Type 0 where
    pub over : (v : Var) → is_known scope v.name ≡ true → IsOverScope other (tree_vars (r v))
    pub new : (x : List ℕ) → is_known B x ≡ true → is_known scope x ≡ false → is_known other (b x) ≡ false

  pub over_wide : (other : List (List ℕ)) (y : List ℕ) (vs : List Var) → IsOverScope other vs → IsOverScope (other ++ y ∷ []) vs
  over_wide other y [] h = tt
  over_wide other y (v ∷ vs) h = (in_left other (y ∷ []) v.name h.0, over_wide other y vs h.1)

  not_last : (ns : List (List ℕ)) (y x : List ℕ) → is_known (ns ++ y ∷ []) x ≡ false → (is_known ns x ≡ false) × (bytes_eq y x ≡ false)
  not_last ns y x h = (
    ⊎_elim (λ e. clash (is_known (ns ++ y ∷ []) x) (in_left ns (y ∷ []) x e) h) (λ e. e) (cases_Bool (is_known ns x)),
    ⊎_elim (λ e. clash (is_known (ns ++ y ∷ []) x) (in_right ns (y ∷ []) x (subst (λ z. is_known (y ∷ []) z ≡ true) (one_name y x e) (in_head y []))) h) (λ e. e) (cases_Bool (bytes_eq y x)),
  )

  out_last : (ns : List (List ℕ)) (y x : List ℕ) → is_known ns x ≡ false → bytes_eq y x ≡ false → is_known (ns ++ y ∷ []) x ≡ false
  out_last ns y x h k =
      ⊎_elim (λ e. ⊎_elim (λ l. clash (is_known ns x) l h) (λ l. ⊎_elim (λ s. absurd (two_names y x k s)) (λ z. absurd (false≢true z)) (in_cases x y [] l)) (append_cases ns (y ∷ []) x e)) (λ e. e)
      (cases_Bool (is_known (ns ++ y ∷ []) x))

  -- an own name comes into scope
  pub fit_more : (scope other : List (List ℕ)) (y : List ℕ) → is_known B y ≡ true → is_known scope y ≡ false → Fit scope other → Fit (scope ++ y ∷ []) (other ++ b y ∷ [])
  fit_more scope other y i n f = record {
    over = λ v k.
        ⊎_elim (λ l. over_wide other (b y) (tree_vars (r v)) (f.over v l))
        (λ l. ⊎_elim
        (λ e. subst (λ t. IsOverScope (other ++ b y ∷ []) (tree_vars t)) (sym (own v (subst (λ z. is_known B z ≡ true) e i)))
        (in_right other (b y ∷ []) (b v.name) (subst (λ z. is_known (b y ∷ []) (b z) ≡ true) e (in_head (b y) [])), tt))
        (λ z. absurd (false≢true z)) (in_cases v.name y [] l))
        (append_cases scope (y ∷ []) v.name k);
    new = λ x j k.
        let apart_here = not_last scope y x k in
        out_last other (b y) (b x) (f.new x j apart_here.0) (apart (b y) (b x) (λ e. two_names y x apart_here.1 (one y x i j e)));
  }

  -- each of these is an own name, or in scope
  abbrev pub OwnOrKnown : List (List ℕ) → List Var → Type 0
  OwnOrKnown scope [] = Unit {0}
  OwnOrKnown scope (v ∷ vs) = ((is_known scope v.name ≡ true) ⊎ (is_known B v.name ≡ true)) × OwnOrKnown scope vs

  skipped : (known : List (List ℕ)) (vs ws : List Var) → IsOverScope known vs → new_vars known (vs ++ ws) ≡ new_vars known ws
  skipped known [] ws h = refl
  skipped known (v ∷ vs) ws h =
      ap (λ c. if c then new_vars known (vs ++ ws) else v ∷ new_vars (known ++ v.name ∷ []) (vs ++ ws)) h.0 ∙ skipped known vs ws h.1

  wide_own : (scope : List (List ℕ)) (y : List ℕ) (vs : List Var) → OwnOrKnown scope vs → OwnOrKnown (scope ++ y ∷ []) vs
  wide_own scope y [] h = tt
  wide_own scope y (v ∷ vs) h = (⊎_elim (λ k. inl (in_left scope (y ∷ []) v.name k)) (λ k. inr k) h.0, wide_own scope y vs h.1)

  -- what a pattern binds: the renamed ones of what its text binds
  pub same_new : (scope other : List (List ℕ)) (vs : List Var) → OwnOrKnown scope vs → Fit scope other → new_vars other (put_vars r vs) ≡ map (renaming b) (new_vars scope vs)
  same_new scope other [] h f = refl
  same_new scope other (v ∷ vs) h f =
      ⊎_elim
      (λ k. skipped other (tree_vars (r v)) (put_vars r vs) (f.over v k) ∙ same_new scope other vs h.1 f
      ∙ sym (ap (λ c. map (renaming b) (if c then new_vars scope vs else v ∷ new_vars (scope ++ v.name ∷ []) vs)) k))
      (λ k.
      let mine = ⊎_elim (λ l. clash (is_known scope v.name) l k) (λ l. l) h.0 in
      ap (λ t. new_vars other (tree_vars t ++ put_vars r vs)) (own v mine)
      ∙ ap (λ c. if c then new_vars other (put_vars r vs) else named (b v.name) v.sort ∷ new_vars (other ++ b v.name ∷ []) (put_vars r vs)) (f.new v.name mine k)
      ∙ ap (λ z. renaming b v ∷ z) (same_new (scope ++ v.name ∷ []) (other ++ b v.name ∷ []) vs (wide_own scope v.name vs h.1) (fit_more scope other v.name mine k f))
      ∙ sym (ap (λ c. map (renaming b) (if c then new_vars scope vs else v ∷ new_vars (scope ++ v.name ∷ []) vs)) k))
      (cases_Bool (is_known scope v.name))

  -- and the binder of a renamed name is the renamed binder
  pub same_binder : (vs : List Var) (v : Var) → OwnOrKnown [] vs → is_known B v.name ≡ true → as_bound (binder_of (map (renaming b) vs) (b v.name)) (renaming b v)
      ≡ instance r (as_bound (binder_of vs v.name) v)
  same_binder [] v h k = sym (own v k)
  same_binder (w ∷ vs) v h k =
      let mine = ⊎_elim (λ l. absurd (false≢true l)) (λ l. l) h.0 in
      ⊎_elim
      (λ e. ap (λ c. as_bound (if c then Some (renaming b w) else binder_of (map (renaming b) vs) (b v.name)) (renaming b v)) (subst (λ z. bytes_eq (b w.name) (b z) ≡ true) (one_name w.name v.name e) (own_name (b w.name)))
      ∙ sym (ap (λ c. instance r (as_bound (if c then Some w else binder_of vs v.name) v)) e ∙ own (named v.name w.sort) k))
      (λ e. ap (λ c. as_bound (if c then Some (renaming b w) else binder_of (map (renaming b) vs) (b v.name)) (renaming b v)) (apart (b w.name) (b v.name) (λ s. two_names w.name v.name e (one w.name v.name mine k s)))
      ∙ same_binder vs v h.1 k
      ∙ sym (ap (λ c. instance r (as_bound (if c then Some w else binder_of vs v.name) v)) e))
      (cases_Bool (bytes_eq w.name v.name))

  pub fit_behind : (scope other : List (List ℕ)) (vs : List Var) → OwnOrKnown scope vs → Fit scope other
      → Fit (scope ++ var_names (new_vars scope vs)) (other ++ var_names (map (renaming b) (new_vars scope vs)))
  fit_behind scope other [] h f = ends_there scope other f
    where
      ends_there : (xs ys : List (List ℕ)) → Fit xs ys → Fit (xs ++ []) (ys ++ [])
      ends_there xs ys g = subst (λ z. Fit z (ys ++ [])) (sym (append_none xs)) (subst (λ z. Fit xs z) (sym (append_none ys)) g)
  fit_behind scope other (v ∷ vs) h f =
      ⊎_elim
      (λ k. subst (λ c. Fit (scope ++ var_names (if c then new_vars scope vs else v ∷ new_vars (scope ++ v.name ∷ []) vs))
      (other ++ var_names (map (renaming b) (if c then new_vars scope vs else v ∷ new_vars (scope ++ v.name ∷ []) vs)))) (sym k) (fit_behind scope other vs h.1 f))
      (λ k.
      let mine = ⊎_elim (λ l. clash (is_known scope v.name) l k) (λ l. l) h.0 in
      let rest = fit_behind (scope ++ v.name ∷ []) (other ++ b v.name ∷ []) vs (wide_own scope v.name vs h.1) (fit_more scope other v.name mine k f) in
      let later = new_vars (scope ++ v.name ∷ []) vs in
      subst (λ c. Fit (scope ++ var_names (if c then new_vars scope vs else v ∷ new_vars (scope ++ v.name ∷ []) vs))
      (other ++ var_names (map (renaming b) (if c then new_vars scope vs else v ∷ new_vars (scope ++ v.name ∷ []) vs)))) (sym k)
      (subst (λ z. Fit z (other ++ b v.name ∷ var_names (map (renaming b) later))) (append_assoc scope (v.name ∷ []) (var_names later))
      (subst (λ z. Fit ((scope ++ v.name ∷ []) ++ var_names later) z) (append_assoc other (b v.name ∷ []) (var_names (map (renaming b) later))) rest)))
      (cases_Bool (is_known scope v.name))

  -- only own names are new
  pub new_own : (scope : List (List ℕ)) (vs : List Var) → OwnOrKnown scope vs → OwnOrKnown [] (new_vars scope vs)
  new_own scope [] h = tt
  new_own scope (v ∷ vs) h =
      ⊎_elim (λ k. subst (λ c. OwnOrKnown [] (if c then new_vars scope vs else v ∷ new_vars (scope ++ v.name ∷ []) vs)) (sym k) (new_own scope vs h.1))
      (λ k. subst (λ c. OwnOrKnown [] (if c then new_vars scope vs else v ∷ new_vars (scope ++ v.name ∷ []) vs)) (sym k)
      (⊎_elim (λ l. clash (is_known scope v.name) l k) (λ l. inr l) h.0, new_own (scope ++ v.name ∷ []) vs (wide_own scope v.name vs h.1)))
      (cases_Bool (is_known scope v.name))

  pub own_is : (ns : List Var) (v : Var) → OwnOrKnown [] ns → is_known (var_names ns) v.name ≡ true → is_known B v.name ≡ true
  own_is [] v h k = absurd (false≢true k)
  own_is (w ∷ ns) v h k =
      ⊎_elim (λ e. ⊎_elim (λ l. absurd (false≢true l)) (λ l. subst (λ z. is_known B z ≡ true) e l) h.0) (λ l. own_is ns v h.1 l) (in_cases v.name w.name (var_names ns) k)

  module _ (q : Choice) (own_too : (v : Var) → is_known B v.name ≡ true → q v ≡ variable (named (b v.name) v.sort)) where
    -- sorts by the one scope behind the choice, and by the other before it, are one on names in scope
    abbrev pub AreLinkedSorts : List Var → List Var → Type 0
    AreLinkedSorts S Z = (v : Var) → is_known (var_names Z) v.name ≡ true → instance (by_binder S) (r v) ≡ instance q (by_binder Z v)

    both_own : (o : Option Var) (v : Var) → is_known B v.name ≡ true → instance r (as_bound o v) ≡ instance q (as_bound o v)
    both_own None v k = own v k ∙ sym (own_too v k)
    both_own (Some w) v k = own (named v.name w.sort) k ∙ sym (own_too (named v.name w.sort) k)

    pub linked_behind : (S Z ns : List Var) → AreLinkedSorts S Z → Fit (var_names Z) (var_names S) → OwnOrKnown [] ns → AreLinkedSorts (S ++ map (renaming b) ns) (Z ++ ns)
    linked_behind S Z ns l f o v k =
        ⊎_elim
        (λ h. still S (map (renaming b) ns) (r v) (f.over v h) ∙ l v h ∙ sym (ap (instance q) (known_still Z ns v h)))
        (λ h.
        let there = ⊎_elim (λ e. clash (is_known (var_names Z) v.name) e h) (λ e. e) (append_cases (var_names Z) (var_names ns) v.name (subst (λ z. is_known z v.name ≡ true) (names_append Z ns) k)) in
        let mine = own_is ns v o there in
        ap (instance (by_binder (S ++ map (renaming b) ns))) (own v mine)
        ∙ ap (λ z. as_bound z (renaming b v)) (binder_behind S (map (renaming b) ns) (b v.name) (f.new v.name mine h))
        ∙ same_binder ns v o mine
        ∙ both_own (binder_of ns v.name) v mine
        ∙ sym (ap (λ z. instance q (as_bound z v)) (binder_behind Z ns v.name h)))
        (cases_Bool (is_known (var_names Z) v.name))

    module _ (S Z : List Var) (l : AreLinkedSorts S Z) where
      mutual
        pub agree : (t : Tree) → IsOverScope (var_names Z) (tree_vars t) → instance (by_binder S) (instance r t) ≡ instance q (instance (by_binder Z) t)
        agree (variable v) o = l v o.0
        agree (public n) o = refl
        agree (fresh k) o = refl
        agree (apply f ts) o = ap (apply f) (all_agree ts o)

        all_agree : (ts : Trees) → IsOverScope (var_names Z) (trees_vars ts) → instances (by_binder S) (instances r ts) ≡ instances q (instances (by_binder Z) ts)
        all_agree none o = refl
        all_agree (more t ts) o =
            let first = agree t (over_left (var_names Z) (tree_vars t) (trees_vars ts) o) in
            let rest = all_agree ts (over_right (var_names Z) (tree_vars t) (trees_vars ts) o) in
            λ i. more (first i) (rest i)

      pub each_agrees : (ts : List Tree) → IsOverScope (var_names Z) (trees_vars (trees_of ts)) → map (instance (by_binder S)) (map (instance r) ts) ≡ map (instance q) (map (instance (by_binder Z)) ts)
      each_agrees [] o = refl
      each_agrees (t ∷ ts) o =
          let first = agree t (over_left (var_names Z) (tree_vars t) (trees_vars (trees_of ts)) o) in
          let rest = each_agrees ts (over_right (var_names Z) (tree_vars t) (trees_vars (trees_of ts)) o) in
          λ i. first i ∷ rest i

      pub facts_agree : (fs : List Fact) → IsOverScope (var_names Z) (facts_vars fs) → instance_facts (by_binder S) (instance_facts r fs) ≡ instance_facts q (instance_facts (by_binder Z) fs)
      facts_agree [] o = refl
      facts_agree (f ∷ fs) o =
          let first = each_agrees f.args (over_left (var_names Z) (trees_vars (trees_of f.args)) (facts_vars fs) o) in
          let rest = facts_agree fs (over_right (var_names Z) (trees_vars (trees_of f.args)) (facts_vars fs) o) in
          λ i. fact f.name f.persistent (first i) ∷ rest i
