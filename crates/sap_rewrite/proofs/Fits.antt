-- Normal forms under a limit.
use Rattle.std.proofs.Common.{◌≡◌, ℕ, zero, suc, ◌+◌, ◌<◌, ◌≤◌, List, [], ◌∷◌, ◌++◌, Bool, true, false, ◌&&◌, nat_le, Some, drop, add-one, refl, ap, subst, ◌∙◌, arith}
use Rattle.std.specs.Prelude.{slice_get, min, Result, Ok, Err, IfOk, OnOk, OnErr, IsErrOf}
use Rattle.std.specs.Bool.{OnFalse}
use Rattle.std.proofs.lemmas.Bool.Decides.{nat_tests}
use Rattle.sap_terms.specs.Tree.{Tree, variable, public, fresh, apply, Trees, none, more, node_count, trees_count, trees_of}
use Rattle.sap_terms.specs.View.{tree}
use Rattle.sap_terms.specs.declared.term.Term.{Term}
use Rattle.sap_terms.specs.declared.term.Term.TheVariants.{Var, Public, Fresh, App}
use Rattle.sap_terms.specs.Equations.{Equations}
use Rattle.sap_terms.proofs.PlainLaws.Tests.{and_left, and_right, and_true}
use Rattle.sap_rewrite.specs.code.Reduce.{nf}
use Rattle.sap_rewrite.specs.declared.within.Counted.{Counted}
use Rattle.sap_rewrite.specs.code.Fit.{form_fits, each_fits, all_fit}
use Rattle.sap_rewrite.specs.Large.{SomeSubterm, itself, below, SomeSubtermWithin, here, later, HasLargeForm}
use Rattle.sap_rewrite.proofs.NormalForms.{has_normal_form, one_normal_form}
use Rattle.sap_rewrite.proofs.ListLaws.{nf-variable, nf-public, nf-fresh}

pub trees_count-push : (ts : List Tree) (t : Tree) → trees_count (trees_of (ts ++ t ∷ [])) ≡ trees_count (trees_of ts) + node_count t
trees_count-push [] t = omega arith
trees_count-push (u ∷ us) t = omega (arith, trees_count-push us t)

drop_got : {X : Type 0} (xs : List X) (k : ℕ) (x : X) → slice_get xs k ≡ Some x → drop k xs ≡ x ∷ drop (k + 1) xs
drop_got {X} xs k x h = rw add-one (at xs k h) where
  at : (xs : List X) (k : ℕ) → slice_get xs k ≡ Some x → drop k xs ≡ x ∷ drop (suc k) xs
  at [] k h = cc
  at (y ∷ ys) zero h = let e : y ≡ x = cc in ap (λ z. z ∷ ys) e
  at (y ∷ ys) (suc k) h = at ys k h

-- from one place on, the tree there and those after it
pub all_fit-got : (e : Equations) (most : ℕ) (ts : List Tree) (k : ℕ) (t : Tree) → slice_get ts k ≡ Some t → all_fit e most (trees_of (drop k ts)) ≡ (each_fits e most t && all_fit e most (trees_of (drop (k + 1) ts)))
all_fit-got e most ts k t h = ap (λ us. all_fit e most (trees_of us)) (drop_got ts k t h)

fits_le : (m n : ℕ) → nat_le m n ≡ true → m ≤ n
fits_le m n h = grind (arith, nat_tests)

fits_lt : (m n : ℕ) → nat_le m n ≡ false → n < m
fits_lt m n h = grind (arith, nat_tests)

le_fits : (m n : ℕ) → m ≤ n → nat_le m n ≡ true
le_fits m n h = grind (arith, nat_tests)

lt_fits : (m n : ℕ) → n < m → nat_le m n ≡ false
lt_fits m n h = grind (arith, nat_tests)

and_false_right : (a b : Bool) → b ≡ false → (a && b) ≡ false
and_false_right true b h = h
and_false_right false b h = refl

whole_fits : (e : Equations) (most : ℕ) (t : Tree) → each_fits e most t ≡ true → form_fits e most t ≡ true
whole_fits e most (variable v) h = h
whole_fits e most (public n) h = h
whole_fits e most (fresh k) h = h
whole_fits e most (apply f ts) h = and_right _ _ h

not_large : (e : Equations) (most : ℕ) (t : Tree) → each_fits e most t ≡ true → HasLargeForm e most t → ⊥
not_large e most t h l =
    let within : node_count (nf e t) ≤ most = fits_le _ _ (whole_fits e most t h) in
    let beyond : most < node_count (nf e t) = subst (λ n. most < node_count n) (one_normal_form e t l.form l.is_form) l.large in
    omega arith

-- what no term has whose subterms all fit, no subterm of such a term has
mutual
  none_has : (P : Tree → Type 0) (e : Equations) (most : ℕ) → ((t : Tree) → each_fits e most t ≡ true → P t → ⊥) → {t : Tree} → SomeSubterm P t → each_fits e most t ≡ true → ⊥
  none_has P e most n (itself {t} l) h = n t h l
  none_has P e most n (below s) h = none_has_within P e most n s (and_left _ _ h)

  none_has_within : (P : Tree → Type 0) (e : Equations) (most : ℕ) → ((t : Tree) → each_fits e most t ≡ true → P t → ⊥) → {ts : Trees} → SomeSubtermWithin P ts → all_fit e most ts ≡ true → ⊥
  none_has_within P e most n (here s) h = none_has P e most n s (and_left _ _ h)
  none_has_within P e most n (later s) h = none_has_within P e most n s (and_right _ _ h)

-- where all fit, none is large
pub none_large : (e : Equations) (most : ℕ) (t : Tree) → each_fits e most t ≡ true → SomeSubterm (HasLargeForm e most) t → ⊥
none_large e most t h s = none_has (HasLargeForm e most) e most (not_large e most) s h

large_form : (e : Equations) (most : ℕ) (t : Tree) → form_fits e most t ≡ false → HasLargeForm e most t
large_form e most t h = record { form = nf e t; is_form = has_normal_form e t; large = fits_lt _ _ h }

and_false : {P : Type 0} (a b : Bool) → (a && b) ≡ false → (a ≡ false → P) → (b ≡ false → P) → P
and_false true b h k l = l h
and_false false b h k l = k refl

mutual
  -- where not all fit, some is large
  pub some_large : (e : Equations) (most : ℕ) (t : Tree) → each_fits e most t ≡ false → SomeSubterm (HasLargeForm e most) t
  some_large e most (variable v) h = itself (large_form e most (variable v) h)
  some_large e most (public n) h = itself (large_form e most (public n) h)
  some_large e most (fresh k) h = itself (large_form e most (fresh k) h)
  some_large e most (apply f ts) h = and_false _ _ h (λ h. below (some_large_within e most ts h)) (λ h. itself (large_form e most (apply f ts) h))

  some_large_within : (e : Equations) (most : ℕ) (ts : Trees) → all_fit e most ts ≡ false → SomeSubtermWithin (HasLargeForm e most) ts
  some_large_within e most none h = cc
  some_large_within e most (more t ts) h = and_false _ _ h (λ h. here (some_large e most t h)) (λ h. later (some_large_within e most ts h))

-- the limit at a symbol whose arguments' normal forms fit
pub whole_within : (e : Equations) (most most_u64 n : ℕ) (t : Tree) (f : List ℕ) (ts : Trees) → t ≡ apply f ts → all_fit e most ts ≡ true → n ≡ min (node_count (nf e (apply f ts))) most_u64 → most < most_u64 → n ≤ most → each_fits e most t ≡ true
whole_within e most m n t f ts is fit count room h =
    rw is (and_true _ _ fit (le_fits _ _ (omega arith)))

pub whole_large : (e : Equations) (most most_u64 n : ℕ) (t : Tree) (f : List ℕ) (ts : Trees) → t ≡ apply f ts → n ≡ min (node_count (nf e (apply f ts))) most_u64 → most < n → each_fits e most t ≡ false
whole_large e most m n t f ts is count h =
    rw is (and_false_right (all_fit e most ts) _ (lt_fits _ _ (omega arith)))

-- a term without a symbol is its own form, has one node, and fits where its form does
pub leaf_form : (e : Equations) (t : Term) → ((f : List ℕ) (us : List Tree) → t ≡ App f us → ⊥) → nf e (tree t) ≡ tree t
leaf_form e (Var v) n = nf-variable e v
leaf_form e (Public m) n = nf-public e m
leaf_form e (Fresh k) n = nf-fresh e k
leaf_form e (App f us) n = absurd (n f us refl)

pub leaf_count : (e : Equations) (t : Term) → ((f : List ℕ) (us : List Tree) → t ≡ App f us → ⊥) → node_count (nf e (tree t)) ≡ 1
leaf_count e (Var v) n = ap node_count (nf-variable e v)
leaf_count e (Public m) n = ap node_count (nf-public e m)
leaf_count e (Fresh k) n = ap node_count (nf-fresh e k)
leaf_count e (App f us) n = absurd (n f us refl)

leaf_test : (e : Equations) (most : ℕ) (t : Term) → ((f : List ℕ) (us : List Tree) → t ≡ App f us → ⊥) → each_fits e most (tree t) ≡ nat_le (node_count (nf e (tree t))) most
leaf_test e most (Var v) n = refl
leaf_test e most (Public m) n = refl
leaf_test e most (Fresh k) n = refl
leaf_test e most (App f us) n = absurd (n f us refl)

pub leaf_fits : (e : Equations) (most : ℕ) (t : Term) → ((f : List ℕ) (us : List Tree) → t ≡ App f us → ⊥) → 1 ≤ most → each_fits e most (tree t) ≡ true
leaf_fits e most t n h = leaf_test e most t n ∙ le_fits _ _ (omega (arith, leaf_count e t n))

pub leaf_large : (e : Equations) (most : ℕ) (t : Term) → ((f : List ℕ) (us : List Tree) → t ≡ App f us → ⊥) → most < 1 → each_fits e most (tree t) ≡ false
leaf_large e most t n h = leaf_test e most t n ∙ lt_fits _ _ (omega (arith, leaf_count e t n))

-- what a call's answer says where it is Ok, and where it is one error
pub on_ok : {T E P Q : Type 0} (r : Result T E) → (P → Q) → OnOk r P → OnOk r Q
on_ok (Ok x) f h = f h
on_ok (Err e) f h = tt

pub on_error : {T E P : Type 0} (r : Result T E) (x : E) → IsErrOf r x → OnErr r P → P
on_error (Ok y) x i h = cc
on_error (Err e) x i h = h

-- what is said where an answer is false
pub where_false : {P : Type 0} (b : Bool) → OnFalse b P → b ≡ false → P
where_false true h e = cc
where_false false h e = h

-- what holds of the term that is counted, holds of a call's answer where that is this term
pub as_term : {E : Type 0} (r : Result Counted E) (x : Counted) (u : Tree) → IfOk r (λ y. y ≡ x) → tree x.term ≡ u → IfOk r (λ y. tree y.term ≡ u)
as_term (Ok y) x u h e = ap (λ (z : Counted). tree z.term) h ∙ e
as_term (Err b) x u h e = tt

pub as_count : {E : Type 0} (r : Result Counted E) (x : Counted) (n : ℕ) → IfOk r (λ y. y ≡ x) → x.nodes ≡ n → IfOk r (λ y. y.nodes ≡ n)
as_count (Ok y) x n h e = ap (λ (z : Counted). z.nodes) h ∙ e
as_count (Err b) x n h e = tt
