-- Definitions in order: which of them a name stands for, and which names a body uses.
use Rattle.std.proofs.Common.{◌≡◌, ◌<◌, ℕ, zero, suc, Bool, true, false, List, [], ◌∷◌, map, take, Some, None, refl, ap, subst, ◌∙◌, ⊎_elim, arith}
use Rattle.std.specs.Prelude.{if◌then◌else◌, option_map, slice_get}
use Rattle.std.specs.Str.{bytes_eq}
use Rattle.std.proofs.lemmas.Option.{slice_get-map}
use Rattle.sap_terms.specs.Variables.{is_known}
use Rattle.sap_terms.proofs.PlainLaws.Known.{in_cases, in_head, in_tail, not_in, own_name}
use Rattle.sap_macro.specs.Indexed.{defined}
use Rattle.sap_macro.specs.Order.{AreInOrder, UsesOnly}
use Rattle.sap_macro.specs.Written.{Definition, Written, nil, call, parallel, replicated, act, test, lookup}
use Rattle.sap_origin.specs.Definitions.{LocatedDefinition, plain_definition}
use Rattle.sap_origin.specs.Meant.{definition_of}

pub uses_more : (known names : List (List ℕ)) → ((f : List ℕ) → is_known known f ≡ true → is_known names f ≡ true) → (w : Written) → UsesOnly known w → UsesOnly names w
uses_more known names hold nil u = tt
uses_more known names hold (call f ts) u = hold f u
uses_more known names hold (parallel p q) u = (uses_more known names hold p u.0, uses_more known names hold q u.1)
uses_more known names hold (replicated p) u = uses_more known names hold p u
uses_more known names hold (act a p) u = uses_more known names hold p u
uses_more known names hold (test t v p q) u = (uses_more known names hold p u.0, uses_more known names hold q u.1)
uses_more known names hold (lookup t x p q) u = (uses_more known names hold p u.0, uses_more known names hold q u.1)

-- a name that is known is none of a definition behind
new_behind : (known : List (List ℕ)) (es : List Definition) (k : ℕ) (d : Definition) → AreInOrder known es → slice_get es k ≡ Some d → is_known known d.name ≡ false
new_behind known [] k d order e = absurd (cc (e))
new_behind known (c ∷ es) zero d order e = let is : c ≡ d = cc (e) in subst (λ (a : Definition). is_known known a.name ≡ false) is order.0
new_behind known (c ∷ es) (suc k) d order e = (not_in d.name c.name known (new_behind (c.name ∷ known) es k d order.1.1 e)).1

-- a definition behind has another name
other_behind : (known : List (List ℕ)) (x : List ℕ) (es : List Definition) (k : ℕ) (d : Definition) → AreInOrder (x ∷ known) es → slice_get es k ≡ Some d → bytes_eq x d.name ≡ false
other_behind known x es k d order e = (not_in d.name x known (new_behind (x ∷ known) es k d order e)).0

-- the definition of a name of the first ones is one of these
pub before_bound : (known : List (List ℕ)) (es : List Definition) (n k : ℕ) (d : Definition) → AreInOrder known es → slice_get es k ≡ Some d → is_known (defined (take n es)) d.name ≡ true
    → k < n
before_bound known [] n k d order e h = absurd (cc (e))
before_bound known (c ∷ es) zero k d order e h = absurd (cc (h))
before_bound known (c ∷ es) (suc n) zero d order e h = omega arith
before_bound known (c ∷ es) (suc n) (suc k) d order e h =
    let other = other_behind known c.name es k d order.1.1 e in
    let there : is_known (defined (take n es)) d.name ≡ true = rw other at h in
    let less = before_bound (c.name ∷ known) es n k d order.1.1 e there in
    omega arith

-- its body uses the ones before it alone
pub body_uses : (known : List (List ℕ)) (es : List Definition) (k : ℕ) (d : Definition) (names : List (List ℕ)) → AreInOrder known es → slice_get es k ≡ Some d
    → ((f : List ℕ) → is_known known f ≡ true → is_known names f ≡ true) → ((f : List ℕ) → is_known (defined (take k es)) f ≡ true → is_known names f ≡ true) → UsesOnly names d.body
body_uses known [] k d names order e old new = absurd (cc (e))
body_uses known (c ∷ es) zero d names order e old new =
    let is : c ≡ d = cc (e) in
    subst (λ (a : Definition). UsesOnly names a.body) is (uses_more known names old c.body order.1.0)
body_uses known (c ∷ es) (suc k) d names order e old new =
    body_uses (c.name ∷ known) es k d names order.1.1 e
    (λ f h. ⊎_elim (λ (is : c.name ≡ f). subst (λ (g : List ℕ). is_known names g ≡ true) is (new c.name (in_head c.name (defined (take k es))))) (old f) (in_cases f c.name known h))
    (λ f h. new f (in_tail f c.name (defined (take k es)) h))

-- the first ones are some of them
pub known_in_all : (es : List Definition) (k : ℕ) (f : List ℕ) → is_known (defined (take k es)) f ≡ true → is_known (defined es) f ≡ true
known_in_all [] zero f h = h
known_in_all [] (suc k) f h = h
known_in_all (c ∷ es) zero f h = absurd (cc (h))
known_in_all (c ∷ es) (suc k) f h =
    ⊎_elim (λ (is : c.name ≡ f). subst (λ (g : List ℕ). is_known (defined (c ∷ es)) g ≡ true) is (in_head c.name (defined es)))
    (λ there. in_tail f c.name (defined es) (known_in_all es k f there)) (in_cases f c.name (defined (take k es)) h)

plain_at : (ds : List LocatedDefinition) (k : ℕ) (d : LocatedDefinition) → slice_get ds k ≡ Some d → slice_get (map plain_definition ds) k ≡ Some (plain_definition d)
plain_at ds k d e = slice_get-map plain_definition ds k ∙ ap (option_map plain_definition) e

-- a name stands for its definition
pub stands_for : (known : List (List ℕ)) (ds : List LocatedDefinition) (k : ℕ) (d : LocatedDefinition) → AreInOrder known (map plain_definition ds) → slice_get ds k ≡ Some d
    → definition_of ds d.name ≡ Some d
stands_for known [] k d order e = absurd (cc (e))
stands_for known (c ∷ ds) zero d order e =
    let is : c ≡ d = cc (e) in
    subst (λ (a : LocatedDefinition). definition_of (c ∷ ds) a.name ≡ Some a) is (ap (λ (t : Bool). if t then Some c else definition_of ds c.name) (own_name c.name))
stands_for known (c ∷ ds) (suc k) d order e =
    let other = other_behind known c.name (map plain_definition ds) k (plain_definition d) order.1.1 (plain_at ds k d e) in
    ap (λ (t : Bool). if t then Some c else definition_of ds d.name) other ∙ stands_for (c.name ∷ known) ds k d order.1.1 e

-- a name that is none of theirs stands for nothing
pub stands_nowhere : (ds : List LocatedDefinition) (f : List ℕ) → is_known (defined (map plain_definition ds)) f ≡ false → definition_of ds f ≡ None
stands_nowhere [] f h = refl
stands_nowhere (c ∷ ds) f h =
    let others = not_in f c.name (defined (map plain_definition ds)) h in
    ap (λ (t : Bool). if t then Some c else definition_of ds f) others.0 ∙ stands_nowhere ds f others.1
