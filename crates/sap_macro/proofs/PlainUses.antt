-- Once names without parameters are replaced, names alone are used that have parameters.
use Rattle.std.proofs.Common.{◌≡◌, ℕ, true, List, [], ◌∷◌, ◌⊎◌, inl, inr, refl, sym, ap, subst, ⊎_elim}
use Rattle.std.proofs.lemmas.Bool.{false≢true}
use Rattle.std.specs.Str.{bytes_eq}
use Rattle.sap_terms.specs.Tree.{Tree}
use Rattle.sap_terms.specs.Variables.{is_known}
use Rattle.sap_macro.specs.Expansion.{Plain, plain, plain_after, plain_bodies, where_none, with_plain, with_uses}
use Rattle.sap_macro.specs.Indexed.{defined}
use Rattle.sap_macro.specs.Order.{AreInOrder, UsesOnly, where_some, with_parameters}
use Rattle.sap_macro.specs.Written.{Written, nil, call, parallel, replicated, act, test, lookup, Definition}
use Rattle.sap_terms.proofs.PlainLaws.Known.{one_name, two_names, in_tail, in_cases}
use Rattle.sap_macro.proofs.Resolving.{more_known, uses_known}
use Rattle.sap_macro.proofs.Scopes.{at_head}
use Rattle.sap_macro.proofs.Uses.{either_way, later_param}

-- names of processes become what uses these names alone
abbrev AreReplaced : List (List ℕ) → List (List ℕ) → Plain → Type 0
AreReplaced known names p = (f : List ℕ) (ts : List Tree) → is_known known f ≡ true → UsesOnly names (p f ts)

some_more : (xs : List (List ℕ)) (n : List ℕ) (names : List (List ℕ)) (w : Written) → UsesOnly names w → UsesOnly (where_some xs n names) w
some_more [] n names w h = h
some_more (x ∷ xs) n names w h = more_known n names w h

stands : (xs : List (List ℕ)) (w : Written) (f : List ℕ) (ts : List Tree) (n : List ℕ) (names : List (List ℕ)) → UsesOnly names w → n ≡ f
    → UsesOnly (where_some xs n names) (where_none xs w (call f ts))
stands [] w f ts n names h same = h
stands (x ∷ xs) w f ts n names h same = at_head f n names same

plain_more : (d : Definition) (known names : List (List ℕ)) (p : Plain) → UsesOnly known d.body → AreReplaced known names p
    → AreReplaced (d.name ∷ known) (where_some d.params d.name names) (with_plain p d)
plain_more d known names p h e f ts k =
    either_way (UsesOnly (where_some d.params d.name names)) (bytes_eq d.name f) (where_none d.params (with_uses p d.body) (call f ts)) (p f ts)
    (λ s. stands d.params (with_uses p d.body) f ts d.name names (uses_known known names d.body p h e) (one_name d.name f s))
    (λ s. some_more d.params d.name names (p f ts) (e f ts (⊎_elim (λ same. absurd (two_names d.name f s same)) (λ l. l) (in_cases f d.name known k))))

after_plain : (ds : List Definition) (known names : List (List ℕ)) (p : Plain) → AreInOrder known ds → AreReplaced known names p
    → (f : List ℕ) (ts : List Tree) → (is_known known f ≡ true) ⊎ (is_known (defined ds) f ≡ true) → UsesOnly (with_parameters names ds) (plain_after p ds f ts)
after_plain [] known names p h e f ts k = ⊎_elim (λ l. e f ts l) (λ l. absurd (false≢true l)) k
after_plain (d ∷ ds) known names p h e f ts k =
    after_plain ds (d.name ∷ known) (where_some d.params d.name names) (with_plain p d) h.1.1 (plain_more d known names p h.1.0 e) f ts
    (⊎_elim (λ l. inl (in_tail f d.name known l)) (λ l. ⊎_elim (λ same. inl (at_head f d.name known same)) (λ r. inr r) (in_cases f d.name (defined ds) l)) k)

pub plain_uses_have_parameters : (ds : List Definition) (p : Written) → AreInOrder [] ds → UsesOnly (defined ds) p → UsesOnly (with_parameters [] ds) (plain ds p)
plain_uses_have_parameters ds p order h =
    uses_known (defined ds) (with_parameters [] ds) p (plain_after call ds) h
    (λ f ts k. after_plain ds [] [] call order (λ g us l. absurd (false≢true l)) f ts (inr k))

-- ---- definitions in order are in order with plain bodies

either_uses : (names params : List (List ℕ)) (p q : Written) → UsesOnly names p → UsesOnly names q → UsesOnly names (where_none params p q)
either_uses names [] p q h k = h
either_uses names (x ∷ xs) p q h k = k

known_more : (d : Definition) (known : List (List ℕ)) (p : Plain) → UsesOnly known d.body → AreReplaced known known p → AreReplaced (d.name ∷ known) (d.name ∷ known) (with_plain p d)
known_more d known p h e f ts k =
    either_way (UsesOnly (d.name ∷ known)) (bytes_eq d.name f) (where_none d.params (with_uses p d.body) (call f ts)) (p f ts)
    (λ s. either_uses (d.name ∷ known) d.params (with_uses p d.body) (call f ts) (more_known d.name known (with_uses p d.body) (uses_known known known d.body p h e)) k)
    (λ s. more_known d.name known (p f ts) (e f ts (later_param d.name known f k s)))

order_stays : (known : List (List ℕ)) (p : Plain) (ds : List Definition) → AreReplaced known known p → AreInOrder known ds → AreInOrder known (plain_bodies p ds)
order_stays known p [] e h = tt
order_stays known p (d ∷ ds) e h =
    (h.0, (uses_known known known d.body p h.1.0 e, order_stays (d.name ∷ known) (with_plain p d) ds (known_more d known p h.1.0 e) h.1.1))

pub plain_bodies_are_in_order : (names : List (List ℕ)) (ds : List Definition) → AreInOrder names ds → AreInOrder names (plain_bodies call ds)
plain_bodies_are_in_order names ds h = order_stays names call ds (λ f ts k. k) h

-- ---- and what is used is defined

uses_wider : (xs ys : List (List ℕ)) → ((f : List ℕ) → is_known xs f ≡ true → is_known ys f ≡ true) → (p : Written) → UsesOnly xs p → UsesOnly ys p
uses_wider xs ys i nil h = tt
uses_wider xs ys i (call f ts) h = i f h
uses_wider xs ys i (parallel p q) h = (uses_wider xs ys i p h.0, uses_wider xs ys i q h.1)
uses_wider xs ys i (replicated p) h = uses_wider xs ys i p h
uses_wider xs ys i (act a p) h = uses_wider xs ys i p h
uses_wider xs ys i (test t u p q) h = (uses_wider xs ys i p h.0, uses_wider xs ys i q h.1)
uses_wider xs ys i (lookup t x p q) h = (uses_wider xs ys i p h.0, uses_wider xs ys i q h.1)

some_cases : (xs : List (List ℕ)) (n : List ℕ) (names : List (List ℕ)) (f : List ℕ) → is_known (where_some xs n names) f ≡ true → (is_known names f ≡ true) ⊎ (n ≡ f)
some_cases [] n names f h = inl h
some_cases (x ∷ xs) n names f h = ⊎_elim (λ same. inr same) (λ l. inl l) (in_cases f n names h)

with_parameters_defined : (names : List (List ℕ)) (ds : List Definition) (f : List ℕ) → is_known (with_parameters names ds) f ≡ true
    → (is_known names f ≡ true) ⊎ (is_known (defined ds) f ≡ true)
with_parameters_defined names [] f h = inl h
with_parameters_defined names (d ∷ ds) f h =
    ⊎_elim (λ l. ⊎_elim (λ k. inl k) (λ same. inr (at_head f d.name (defined ds) same)) (some_cases d.params d.name names f l)) (λ l. inr (in_tail f d.name (defined ds) l))
    (with_parameters_defined (where_some d.params d.name names) ds f h)

same_names : (p : Plain) (ds : List Definition) → defined (plain_bodies p ds) ≡ defined ds
same_names p [] = refl
same_names p (d ∷ ds) = ap (λ (ns : List (List ℕ)). d.name ∷ ns) (same_names (with_plain p d) ds)

pub plain_uses_are_defined : (ds : List Definition) (p : Written) → AreInOrder [] ds → UsesOnly (defined ds) p → UsesOnly (defined (plain_bodies call ds)) (plain ds p)
plain_uses_are_defined ds p order h =
    subst (λ ns. UsesOnly ns (plain ds p)) (sym (same_names call ds))
    (uses_wider (with_parameters [] ds) (defined ds) (λ f k. ⊎_elim (λ l. absurd (false≢true l)) (λ l. l) (with_parameters_defined [] ds f k)) (plain ds p)
    (plain_uses_have_parameters ds p order h))
