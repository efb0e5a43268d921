-- Definitions in order, and which of them a name stands for.
use Rattle.std.proofs.Common.{◌≡◌, ◌<◌, ℕ, zero, suc, Bool, true, false, List, [], ◌∷◌, take, Some, None, refl, subst, arith}
use Rattle.std.specs.Prelude.{◌||◌, if◌then◌else◌, slice_get}
use Rattle.std.specs.Str.{bytes_eq}
use Rattle.std.proofs.lemmas.Slice.Eq.{bytes_eq-Decides}
use Rattle.sap_terms.specs.Variables.{is_known}
use Rattle.sap_macro.specs.Indexed.{defined}
use Rattle.sap_macro.specs.Order.{AreInOrder, UsesOnly}
use Rattle.sap_macro.specs.Sources.{definition_of, definitions, located}
use Rattle.sap_macro.specs.Written as plain
use Rattle.sap_macro.specs.Written.{Written, nil, call, parallel, replicated, act, test, lookup}
use Rattle.sap_macro.specs.declared.definition.Definition.{Definition}
use Rattle.sap_origin.specs.Definitions.{located_definitions}
use Rattle.sap_origin.specs.Meant as meant

same_name : (x : List ℕ) → bytes_eq x x ≡ true
same_name x = (bytes_eq-Decides x x).1 refl

pub uses_more : (known names : List (List ℕ)) → ((f : List ℕ) → is_known known f ≡ true → is_known names f ≡ true) → (w : Written) → UsesOnly known w → UsesOnly names w
uses_more known names hold nil u = tt
uses_more known names hold (call f ts) u = hold f u
uses_more known names hold (parallel p q) u = (uses_more known names hold p u.0, uses_more known names hold q u.1)
uses_more known names hold (replicated p) u = uses_more known names hold p u
uses_more known names hold (act a p) u = uses_more known names hold p u
uses_more known names hold (test t v p q) u = (uses_more known names hold p u.0, uses_more known names hold q u.1)
uses_more known names hold (lookup t x p q) u = (uses_more known names hold p u.0, uses_more known names hold q u.1)

-- a name that is known is none of a definition behind
new_behind : (known : List (List ℕ)) (es : List plain.Definition) (k : ℕ) (d : plain.Definition) → AreInOrder known es → slice_get es k ≡ Some d → is_known known d.name ≡ false
new_behind known [] k d order e = absurd (cc (e))
new_behind known (c ∷ es) zero d order e = let is : c ≡ d = cc (e) in subst (λ (a : plain.Definition). is_known known a.name ≡ false) is order.0
new_behind known (c ∷ es) (suc k) d order e = by (bytes_eq c.name d.name) (new_behind (c.name ∷ known) es k d order.1.1 (later e))
  where
    later : slice_get (c ∷ es) (suc k) ≡ Some d → slice_get es k ≡ Some d
    later h = h

    by : (t : Bool) → (t || is_known known d.name) ≡ false → is_known known d.name ≡ false
    by true h = absurd (cc (h))
    by false h = h

-- a definition behind has another name
pub other_behind : (known : List (List ℕ)) (x : List ℕ) (es : List plain.Definition) (k : ℕ) (d : plain.Definition) → AreInOrder (x ∷ known) es → slice_get es k ≡ Some d → bytes_eq x d.name ≡ false
other_behind known x es k d order e = by (bytes_eq x d.name) (new_behind (x ∷ known) es k d order e)
  where
    by : (t : Bool) → (t || is_known known d.name) ≡ false → t ≡ false
    by true h = absurd (cc (h))
    by false h = refl

-- the definition of a name of the first ones is one of these
pub before_bound : (known : List (List ℕ)) (es : List plain.Definition) (n k : ℕ) (d : plain.Definition) → AreInOrder known es → slice_get es k ≡ Some d
    → is_known (defined (take n es)) d.name ≡ true → k < n
before_bound known [] n k d order e h = absurd (cc (e))
before_bound known (c ∷ es) zero k d order e h = absurd (cc (h))
before_bound known (c ∷ es) (suc n) zero d order e h = omega arith
before_bound known (c ∷ es) (suc n) (suc k) d order e h =
    let other = other_behind known c.name es k d order.1.1 e in
    let there : is_known (defined (take n es)) d.name ≡ true = rw other at h in
    let less = before_bound (c.name ∷ known) es n k d order.1.1 e there in
    omega arith

-- its body uses the ones before it alone
pub body_uses : (known : List (List ℕ)) (es : List plain.Definition) (k : ℕ) (d : plain.Definition) (names : List (List ℕ)) → AreInOrder known es → slice_get es k ≡ Some d
    → ((f : List ℕ) → is_known known f ≡ true → is_known names f ≡ true) → ((f : List ℕ) → is_known (defined (take k es)) f ≡ true → is_known names f ≡ true) → UsesOnly names d.body
body_uses known [] k d names order e old new = absurd (cc (e))
body_uses known (c ∷ es) zero d names order e old new =
    let is : c ≡ d = cc (e) in
    subst (λ (a : plain.Definition). UsesOnly names a.body) is (uses_more known names old c.body order.1.0)
body_uses known (c ∷ es) (suc k) d names order e old new =
    body_uses (c.name ∷ known) es k d names order.1.1 e (λ f h. either f (bytes_eq c.name f) refl h) (λ f h. new f (more f (bytes_eq c.name f) h))
  where
    more : (f : List ℕ) (t : Bool) → is_known (defined (take k es)) f ≡ true → (t || is_known (defined (take k es)) f) ≡ true
    more f true h = refl
    more f false h = h

    either : (f : List ℕ) (t : Bool) → bytes_eq c.name f ≡ t → (bytes_eq c.name f || is_known known f) ≡ true → is_known names f ≡ true
    either f true b h = new f (rw b refl)
    either f false b h = old f (rw b at h)

-- the same definition with the words of its places
pub stands_at : (known : List (List ℕ)) (ds : List Definition) (ns : List ℕ) (k : ℕ) (d : Definition) (n : ℕ) → AreInOrder known (definitions ds) → slice_get ds k ≡ Some d → slice_get ns k ≡ Some n
    → meant.definition_of (located_definitions ds ns) d.name ≡ Some (record { name = d.name; params = d.params; body = located d.body.value; behind = n })
stands_at known [] ns k d n order e h = absurd (cc (e))
stands_at known (c ∷ ds) [] k d n order e h = absurd (cc (h))
stands_at known (c ∷ ds) (m ∷ ns) zero d n order e h =
    let is : c ≡ d = cc (e) in
    let number : m ≡ n = cc (h) in
    subst (λ (a : Definition). meant.definition_of (located_definitions (c ∷ ds) (m ∷ ns)) a.name ≡ Some (record { name = a.name; params = a.params; body = located a.body.value; behind = n })) is
    (rw (same_name c.name, number) refl)
stands_at known (c ∷ ds) (m ∷ ns) (suc k) d n order e h =
    let other = other_behind known c.name (definitions ds) k (definition_of d) order.1.1 (at_plain ds k d e) in
    rw other (stands_at (c.name ∷ known) ds ns k d n order.1.1 e h)
  where
    at_plain : (es : List Definition) (j : ℕ) (a : Definition) → slice_get es j ≡ Some a → slice_get (definitions es) j ≡ Some (definition_of a)
    at_plain [] j a g = absurd (cc (g))
    at_plain (b ∷ es) zero a g = let is : b ≡ a = cc (g) in rw is refl
    at_plain (b ∷ es) (suc j) a g = at_plain es j a g

-- a name that is none of theirs stands for nothing
pub stands_nowhere : (ds : List Definition) (ns : List ℕ) (f : List ℕ) → is_known (defined (definitions ds)) f ≡ false → meant.definition_of (located_definitions ds ns) f ≡ None
stands_nowhere [] ns f h = refl
stands_nowhere (c ∷ ds) [] f h = refl
stands_nowhere (c ∷ ds) (m ∷ ns) f h = by (bytes_eq c.name f) refl h (λ g. stands_nowhere ds ns f g)
  where
    by : (t : Bool) → bytes_eq c.name f ≡ t → (bytes_eq c.name f || is_known (defined (definitions ds)) f) ≡ false
        → (is_known (defined (definitions ds)) f ≡ false → meant.definition_of (located_definitions ds ns) f ≡ None)
        → (if bytes_eq c.name f then Some (record { name = c.name; params = c.params; body = located c.body.value; behind = m }) else meant.definition_of (located_definitions ds ns) f) ≡ None
    by true e g later = let no_more : true ≡ false = rw e at g in absurd (cc (no_more))
    by false e g later = rw e (later (rw e at g))
