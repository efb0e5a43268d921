-- What is kept of names behind definitions in order.
use Rattle.std.proofs.Common.{◌≡◌, ℕ, zero, suc, ◌+◌, Bool, true, false, List, [], ◌∷◌, Some, take, refl, sym, ap, subst, ◌∙◌}
use Rattle.std.specs.Prelude.{◌||◌, if◌then◌else◌, slice_get}
use Rattle.std.specs.Str.{bytes_eq}
use Rattle.sap_terms.specs.Variables.{is_known}
use Rattle.sap_terms.proofs.PlainLaws.Known.{one_name, own_name, clash, apart, in_head, in_tail, not_in, out_of}
use Rattle.sap_macro.specs.Indexed.{defined}
use Rattle.sap_macro.specs.Order.{AreInOrder, UsesOnly}
use Rattle.sap_macro.specs.Walked.{Cost, steps}
use Rattle.sap_macro.specs.Written.{Written, nil, call, parallel, replicated, act, test, lookup, Definition}
use Rattle.sap_beyond.specs.code.Shapes.{Shape, leaf, one, two, kept_after, shaped, stands, with_kept}
use Rattle.sap_beyond.specs.code.Steps.{steps_of}

-- a known name isn't defined again
other_name : (known : List (List ℕ)) (d f : List ℕ) → is_known known d ≡ false → is_known known f ≡ true → bytes_eq d f ≡ false
other_name known d f none some = apart d f (λ same. clash (is_known known f) some (subst (λ g. is_known known g ≡ false) same none))

pub never_again : (ds : List Definition) (known : List (List ℕ)) (f : List ℕ) → AreInOrder known ds → is_known known f ≡ true → is_known (defined ds) f ≡ false
never_again [] known f order h = refl
never_again (d ∷ ds) known f order h =
    out_of f d.name (defined ds) (other_name known d.name f order.0 h) (never_again ds (d.name ∷ known) f order.1.1 (in_tail f d.name known h))

module _ {A : Type 0} (come : (List ℕ → A) → Written → A)
    (agree : (c b : List ℕ → A) (names : List (List ℕ)) (w : Written) → UsesOnly names w → ((f : List ℕ) → is_known names f ≡ true → c f ≡ b f) → come c w ≡ come b w) where
  unkept : (ds : List Definition) (c : List ℕ → A) (f : List ℕ) → is_known (defined ds) f ≡ false → kept_after come c ds f ≡ c f
  unkept [] c f h = refl
  unkept (d ∷ ds) c f h =
      let others = not_in f d.name (defined ds) h in
      unkept ds (with_kept come c d) f others.1 ∙ ap (λ z. if z then come c d.body else c f) others.0

  kept_first : (ds : List Definition) (c : List ℕ → A) (known : List (List ℕ)) (d : Definition) → AreInOrder known (d ∷ ds)
      → kept_after come c (d ∷ ds) d.name ≡ come (kept_after come c (d ∷ ds)) d.body
  kept_first ds c known d order =
      unkept ds (with_kept come c d) d.name (never_again ds (d.name ∷ known) d.name order.1.1 (in_head d.name known))
      ∙ ap (λ z. if z then come c d.body else c d.name) (own_name d.name)
      ∙ agree c (kept_after come c (d ∷ ds)) known d.body order.1.0
      (λ f h. sym (unkept ds (with_kept come c d) f (never_again ds (d.name ∷ known) f order.1.1 (in_tail f d.name known h))
      ∙ ap (λ z. if z then come c d.body else c f) (other_name known d.name f order.0 h)))

  pub kept_is : (ds : List Definition) (c : List ℕ → A) (known : List (List ℕ)) (k : ℕ) (d : Definition) → AreInOrder known ds → slice_get ds k ≡ Some d
      → kept_after come c ds d.name ≡ come (kept_after come c ds) d.body
  kept_is [] c known k d order e = absurd (cc (e))
  kept_is (b ∷ ds) c known zero d order e =
      let same : b ≡ d = cc (e) in
      subst (λ (a : Definition). kept_after come c (b ∷ ds) a.name ≡ come (kept_after come c (b ∷ ds)) a.body) same (kept_first ds c known b order)
  kept_is (b ∷ ds) c known (suc k) d order e = kept_is ds (with_kept come c b) (b.name ∷ known) k d order.1.1 e

shapes_agree : (c b : List ℕ → Shape) (names : List (List ℕ)) (w : Written) → UsesOnly names w → ((f : List ℕ) → is_known names f ≡ true → c f ≡ b f) → shaped c w ≡ shaped b w
shapes_agree c b names nil u h = refl
shapes_agree c b names (call f ts) u h = h f u
shapes_agree c b names (parallel p q) u h = λ i. two (shapes_agree c b names p u.0 h i) (shapes_agree c b names q u.1 h i)
shapes_agree c b names (replicated p) u h = ap one (shapes_agree c b names p u h)
shapes_agree c b names (act a p) u h = ap one (shapes_agree c b names p u h)
shapes_agree c b names (test t v p q) u h = λ i. two (shapes_agree c b names p u.0 h i) (shapes_agree c b names q u.1 h i)
shapes_agree c b names (lookup t x p q) u h = λ i. two (shapes_agree c b names p u.0 h i) (shapes_agree c b names q u.1 h i)

steps_agree : (c b : Cost) (names : List (List ℕ)) (w : Written) → UsesOnly names w → ((f : List ℕ) → is_known names f ≡ true → c f ≡ b f) → steps c w ≡ steps b w
steps_agree c b names nil u h = refl
steps_agree c b names (call f ts) u h = ap (λ n. n + 1) (h f u)
steps_agree c b names (parallel p q) u h = λ i. steps_agree c b names p u.0 h i + steps_agree c b names q u.1 h i + 1
steps_agree c b names (replicated p) u h = ap (λ n. n + 1) (steps_agree c b names p u h)
steps_agree c b names (act a p) u h = ap (λ n. n + 1) (steps_agree c b names p u h)
steps_agree c b names (test t v p q) u h = λ i. steps_agree c b names p u.0 h i + steps_agree c b names q u.1 h i + 1
steps_agree c b names (lookup t x p q) u h = λ i. steps_agree c b names p u.0 h i + steps_agree c b names q u.1 h i + 1

pub body_shape : (ds : List Definition) (k : ℕ) (d : Definition) → AreInOrder [] ds → slice_get ds k ≡ Some d → stands ds d.name ≡ shaped (stands ds) d.body
body_shape ds k d order e = kept_is shaped shapes_agree ds (λ f. leaf) [] k d order e

pub body_steps : (ds : List Definition) (k : ℕ) (d : Definition) → AreInOrder [] ds → slice_get ds k ≡ Some d → steps_of ds d.name ≡ steps (steps_of ds) d.body
body_steps ds k d order e = kept_is steps steps_agree ds (λ f. 0) [] k d order e

-- a body uses names that are known
uses_more : (known names : List (List ℕ)) → ((f : List ℕ) → is_known known f ≡ true → is_known names f ≡ true) → (w : Written) → UsesOnly known w → UsesOnly names w
uses_more known names hold nil u = tt
uses_more known names hold (call f ts) u = hold f u
uses_more known names hold (parallel p q) u = (uses_more known names hold p u.0, uses_more known names hold q u.1)
uses_more known names hold (replicated p) u = uses_more known names hold p u
uses_more known names hold (act a p) u = uses_more known names hold p u
uses_more known names hold (test t v p q) u = (uses_more known names hold p u.0, uses_more known names hold q u.1)
uses_more known names hold (lookup t x p q) u = (uses_more known names hold p u.0, uses_more known names hold q u.1)

either : (d f : List ℕ) (known names : List (List ℕ)) → is_known names d ≡ true → ((g : List ℕ) → is_known known g ≡ true → is_known names g ≡ true)
    → is_known (d ∷ known) f ≡ true → is_known names f ≡ true
either d f known names own hold h = by (bytes_eq d f) refl h
  where
    by : (t : Bool) → bytes_eq d f ≡ t → (bytes_eq d f || is_known known f) ≡ true → is_known names f ≡ true
    by true e g = subst (λ x. is_known names x ≡ true) (one_name d f e) own
    by false e g = hold f (rw e at g)

-- those of the definitions before it
pub body_uses : (ds : List Definition) (known names : List (List ℕ)) (k : ℕ) (d : Definition) → AreInOrder known ds → slice_get ds k ≡ Some d
    → ((f : List ℕ) → is_known known f ≡ true → is_known names f ≡ true) → ((f : List ℕ) → is_known (defined (take k ds)) f ≡ true → is_known names f ≡ true) → UsesOnly names d.body
body_uses [] known names k d order e old new = absurd (cc (e))
body_uses (b ∷ ds) known names zero d order e old new =
    let same : b ≡ d = cc (e) in
    subst (λ (a : Definition). UsesOnly names a.body) same (uses_more known names old b.body order.1.0)
body_uses (b ∷ ds) known names (suc k) d order e old new =
    body_uses ds (b.name ∷ known) names k d order.1.1 e
    (λ f h. either b.name f known names (new b.name (in_head b.name (defined (take k ds)))) old h) (λ f h. new f (in_tail f b.name (defined (take k ds)) h))
