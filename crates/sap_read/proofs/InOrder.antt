-- Where each name is defined once, and used behind its definition, the definitions are in order.
use Rattle.std.proofs.Common.{◌≡◌, ℕ, List, [], ◌∷◌, ◌++◌, Bool, true, false, not, ◌||◌, ◌⊎◌, inl, inr, Option, Some, None, refl, sym, ap, subst, ◌∙◌, ⊎_elim}
use Rattle.std.specs.List.{find}
use Rattle.std.specs.Str.{bytes_eq}
use Rattle.std.proofs.lemmas.Slice.Eq.{bytes_eq-Decides}
use Rattle.std.proofs.lemmas.List.Folds.{list_any-append}
use Rattle.sap_terms.specs.Variables.{is_known}
use Rattle.sap_macro.specs.Indexed.{defined}
use Rattle.sap_macro.specs.Order.{AreInOrder, UsesOnly}
use Rattle.sap_macro.specs.Written.{Written, nil, call, parallel, replicated, act, test, lookup}
use Rattle.sap_read.specs.FileProcess.{calls, defined_as, definitions_of, main_of}
use Rattle.sap_read.specs.Item.{Body}
use Rattle.sap_read.specs.Causes.{first_of, listed, labels, is_among, unknown_from, first_repeated}

either_true : (a b : Bool) → (a || b) ≡ false → b ≡ false
either_true false b h = h
either_true true b h = absurd (cc)

-- nothing is first of two exactly where both are nothing
both_none : {A : Type 0} → (o p : Option A) → first_of (o ∷ p ∷ []) ≡ None → (o ≡ None) × (p ≡ None)
both_none None None h = (refl, refl)
both_none None (Some x) h = absurd (cc)
both_none (Some x) p h = absurd (cc)

or_none : {A : Type 0} (p : A → Bool) → (xs ys : List A) → find p (xs ++ ys) ≡ None → (find p xs ≡ None) × (find p ys ≡ None)
or_none p [] ys h = (refl, h)
or_none p (x ∷ xs) ys h = by (p x) refl (or_none p xs ys) where
  by : (t : Bool) → p x ≡ t → (find p (xs ++ ys) ≡ None → (find p xs ≡ None) × (find p ys ≡ None)) → (find p (x ∷ xs) ≡ None) × (find p ys ≡ None)
  by true e more = absurd (let k : find p ((x ∷ xs) ++ ys) ≡ Some x = rw e refl in cc)
  by false e more =
      let rest : find p (xs ++ ys) ≡ None = rw e at h in
      (rw e (more rest).0, (more rest).1)

-- these names are the same, in one order or another
abbrev AreSame : List (List ℕ) → List (List ℕ) → Type 0
AreSame ks ns = (x : List ℕ) → is_among ks x ≡ is_known ns x

-- a process without unknown names uses known ones alone
uses_only : (ks ns : List (List ℕ)) → AreSame ks ns → (w : Written) → find (λ x. not (is_among ks x)) (calls w) ≡ None → UsesOnly ns w
uses_only ks ns same nil h = tt
uses_only ks ns same (call x ts) h = sym (same x) ∙ by (is_among ks x) refl where
  by : (t : Bool) → is_among ks x ≡ t → is_among ks x ≡ true
  by true e = e
  by false e = absurd (let k : find (λ x. not (is_among ks x)) (x ∷ []) ≡ Some x = rw e refl in cc)
uses_only ks ns same (parallel p q) h =
    let both = or_none (λ x. not (is_among ks x)) (calls p) (calls q) h in (uses_only ks ns same p both.0, uses_only ks ns same q both.1)
uses_only ks ns same (replicated p) h = uses_only ks ns same p h
uses_only ks ns same (act a p) h = uses_only ks ns same p h
uses_only ks ns same (test t u p q) h =
    let both = or_none (λ x. not (is_among ks x)) (calls p) (calls q) h in (uses_only ks ns same p both.0, uses_only ks ns same q both.1)
uses_only ks ns same (lookup t x p q) h =
    let both = or_none (λ x. not (is_among ks x)) (calls p) (calls q) h in (uses_only ks ns same p both.0, uses_only ks ns same q both.1)

-- a name that stands first is not repeated
once : (x : List ℕ) (xs : List (List ℕ)) → first_repeated (x ∷ xs) ≡ None → (is_among xs x ≡ false) × (first_repeated xs ≡ None)
once x xs h = by (is_among xs x) refl where
  by : (t : Bool) → is_among xs x ≡ t → (is_among xs x ≡ false) × (first_repeated xs ≡ None)
  by true e = absurd (let k : first_repeated (x ∷ xs) ≡ Some x = rw e refl in cc)
  by false e = (e, rw e at h)

or_swaps : (s t : Bool) → (s || (t || false)) ≡ (t || s)
or_swaps true true = refl
or_swaps true false = refl
or_swaps false true = refl
or_swaps false false = refl

false_or : (s : Bool) → (s || false) ≡ s
false_or true = refl
false_or false = refl

-- none of these is known
abbrev AreNew : List (List ℕ) → List (List ℕ) → Type 0
AreNew ns xs = (x : List ℕ) → is_among xs x ≡ true → is_known ns x ≡ false

itself : (x : List ℕ) (xs : List (List ℕ)) → is_among (x ∷ xs) x ≡ true
itself x xs = rw ((bytes_eq-Decides x x).1 refl) refl

more_new : (ns xs : List (List ℕ)) (x : List ℕ) → is_among xs x ≡ false → AreNew ns (x ∷ xs) → AreNew (x ∷ ns) xs
more_new ns xs x other new y h = by (bytes_eq x y) refl where
  by : (t : Bool) → bytes_eq x y ≡ t → is_known (x ∷ ns) y ≡ false
  by true e = absurd (let same : x ≡ y = (bytes_eq-Decides x y).0 e in let no : is_among xs y ≡ false = subst (λ z. is_among xs z ≡ false) same other in cc)
  by false e = rw e (new y (rw e h))

pub in_order : (bs : List Body) (ks ns : List (List ℕ)) → AreSame ks ns → unknown_from ks bs ≡ None → first_repeated (labels bs) ≡ None → AreNew ns (labels bs) → AreInOrder ns (definitions_of bs)
in_order [] ks ns same known distinct new = tt
in_order (b ∷ bs) ks ns same known distinct new = by b.label refl (in_order bs) where
  parts : (find (λ x. not (is_among ks x)) (calls b.content) ≡ None) × (unknown_from (ks ++ listed b.label) bs ≡ None)
  parts = both_none (find (λ x. not (is_among ks x)) (calls b.content)) (unknown_from (ks ++ listed b.label) bs) known

  grown : (l : Option (List ℕ)) (x : List ℕ) → is_among (ks ++ listed l) x ≡ (is_among ks x || is_among (listed l) x)
  grown l x = list_any-append (λ y. bytes_eq y x) ks (listed l)

  by : (l : Option (List ℕ)) → b.label ≡ l
      → ((js ms : List (List ℕ)) → AreSame js ms → unknown_from js bs ≡ None → first_repeated (labels bs) ≡ None → AreNew ms (labels bs) → AreInOrder ms (definitions_of bs))
      → AreInOrder ns (defined_as l b ++ definitions_of bs)
  by None e later =
      later (ks ++ listed None) ns (λ x. grown None x ∙ false_or (is_among ks x) ∙ same x) (rw e at parts.1) (rw e at distinct) (rw e at new)
  by (Some y) e later =
      let fresh : first_repeated (y ∷ labels bs) ≡ None = rw e at distinct in
      let unused : AreNew ns (y ∷ labels bs) = rw e at new in
      let rest = once y (labels bs) fresh in (
        unused y (itself y (labels bs)),
        (
          uses_only ks ns same b.content parts.0,
          later (ks ++ listed (Some y)) (y ∷ ns) (λ x. grown (Some y) x ∙ or_swaps (is_among ks x) (bytes_eq y x) ∙ ap (λ t. bytes_eq y x || t) (same x)) (rw e at parts.1) rest.1
              (more_new ns (labels bs) y rest.0 unused),
        ),
      )

-- nothing is known before the first
pub all_in_order : (bs : List Body) → unknown_from [] bs ≡ None → first_repeated (labels bs) ≡ None → AreInOrder [] (definitions_of bs)
all_in_order bs known distinct = in_order bs [] [] (λ x. refl) known distinct (λ x h. refl)

-- ---- the file's process

more_names : (ks ns : List (List ℕ)) → ((x : List ℕ) → is_known ks x ≡ true → is_known ns x ≡ true) → (w : Written) → UsesOnly ks w → UsesOnly ns w
more_names ks ns more nil h = tt
more_names ks ns more (call x ts) h = more x h
more_names ks ns more (parallel p q) h = (more_names ks ns more p h.0, more_names ks ns more q h.1)
more_names ks ns more (replicated p) h = more_names ks ns more p h
more_names ks ns more (act a p) h = more_names ks ns more p h
more_names ks ns more (test t u p q) h = (more_names ks ns more p h.0, more_names ks ns more q h.1)
more_names ks ns more (lookup t x p q) h = (more_names ks ns more p h.0, more_names ks ns more q h.1)

same_names : (ks : List (List ℕ)) → AreSame ks ks
same_names [] x = refl
same_names (k ∷ ks) x = ap (λ t. bytes_eq k x || t) (same_names ks x)

or_last : (s t : Bool) → t ≡ true → (s || t) ≡ true
or_last true t h = refl
or_last false t h = h

-- a name among these, or the one behind them
first_or_last : (ks : List (List ℕ)) (y x : List ℕ) → is_known (ks ++ y ∷ []) x ≡ true → (is_known ks x ≡ true) ⊎ (y ≡ x)
first_or_last [] y x h = inr ((bytes_eq-Decides y x).0 (sym (false_or (bytes_eq y x)) ∙ h))
first_or_last (k ∷ ks) y x h = by (bytes_eq k x) refl h (first_or_last ks y x) where
  by : (t : Bool) → bytes_eq k x ≡ t → (t || is_known (ks ++ y ∷ []) x) ≡ true → (is_known (ks ++ y ∷ []) x ≡ true → (is_known ks x ≡ true) ⊎ (y ≡ x))
      → (is_known (k ∷ ks) x ≡ true) ⊎ (y ≡ x)
  by true e h later = inl (ap (λ t. t || is_known ks x) e)
  by false e h later = ⊎_elim (λ r. inl (or_last (bytes_eq k x) (is_known ks x) r)) (λ s. inr s) (later h)

-- it uses names alone that are defined, where no name is unknown
pub main_known : (bs : List Body) (ks ns : List (List ℕ)) (p : Written) → unknown_from ks bs ≡ None → ((x : List ℕ) → is_known ks x ≡ true → is_known ns x ≡ true)
    → ((x : List ℕ) → is_known (defined (definitions_of bs)) x ≡ true → is_known ns x ≡ true) → main_of bs ≡ Some p → UsesOnly ns p
main_known [] ks ns p known more all is = absurd (cc (is))
main_known (b ∷ bs) ks ns p known more all is = by b.label refl (main_known bs) where
  parts : (find (λ x. not (is_among ks x)) (calls b.content) ≡ None) × (unknown_from (ks ++ listed b.label) bs ≡ None)
  parts = both_none (find (λ x. not (is_among ks x)) (calls b.content)) (unknown_from (ks ++ listed b.label) bs) known

  by : (l : Option (List ℕ)) → b.label ≡ l
      → ((js ms : List (List ℕ)) (q : Written) → unknown_from js bs ≡ None → ((x : List ℕ) → is_known js x ≡ true → is_known ms x ≡ true)
      → ((x : List ℕ) → is_known (defined (definitions_of bs)) x ≡ true → is_known ms x ≡ true) → main_of bs ≡ Some q → UsesOnly ms q)
      → UsesOnly ns p
  by None e later =
      let own : Some b.content ≡ Some p = rw e at is in
      let content : b.content ≡ p = cc in
      subst (UsesOnly ns) content (more_names ks ns more b.content (uses_only ks ks (same_names ks) b.content parts.0))
  by (Some y) e later =
      let there : (x : List ℕ) → is_known (defined (defined_as (Some y) b ++ definitions_of bs)) x ≡ true → is_known ns x ≡ true =
      subst (λ (l : Option (List ℕ)). (x : List ℕ) → is_known (defined (defined_as l b ++ definitions_of bs)) x ≡ true → is_known ns x ≡ true) e all in
      let last : is_known ns y ≡ true = there y (ap (λ t. t || is_known (defined (definitions_of bs)) y) ((bytes_eq-Decides y y).1 refl)) in
      later (ks ++ listed (Some y)) ns p (rw e at parts.1)
      (λ x k. ⊎_elim (more x) (λ s. subst (λ z. is_known ns z ≡ true) s last) (first_or_last ks y x k))
      (λ x k. there x (or_last (bytes_eq y x) (is_known (defined (definitions_of bs)) x) k)) (rw e at is)

pub main_defined : (bs : List Body) (p : Written) → unknown_from [] bs ≡ None → main_of bs ≡ Some p → UsesOnly (defined (definitions_of bs)) p
main_defined bs p known is = main_known bs [] (defined (definitions_of bs)) p known (λ x k. absurd (cc (k))) (λ x k. k) is
