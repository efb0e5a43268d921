-- The name of a definition leads to what its body leads to, where each name leads to what it does behind all definitions.
use Rattle.std.proofs.Common.{◌≡◌, ℕ, zero, suc, true, false, List, [], ◌∷◌, ◌++◌, map, Some, refl, sym, ap, ◌∙◌, subst}
use Rattle.std.specs.Prelude.{if◌then◌else◌, slice_get}
use Rattle.sap_terms.specs.Choice.{Choice, instance}
use Rattle.sap_terms.specs.Tree.{Tree}
use Rattle.sap_terms.specs.Variables.{is_known}
use Rattle.sap_macro.specs.Expansion.{put, unchanged}
use Rattle.sap_macro.specs.Indexed.{defined}
use Rattle.sap_macro.specs.Located.{Located, nil_at, call_at, parallel_at, replicated_at, act_at, test_at, lookup_at, without_numbers}
use Rattle.sap_macro.specs.Order.{AreInOrder, UsesOnly}
use Rattle.sap_macro.specs.Written.{Definition}
use Rattle.sap_origin.specs.Definitions.{LocatedDefinition, plain_definition}
use Rattle.sap_origin.specs.Reached.{Standing, entered}
use Rattle.sap_use_words.specs.ExpandedUses.{Led, led_after, led_by, none_led, uses_in, with_led}
use Rattle.sap_use_words.specs.WrittenUses.{LocatedUse, use_at}
use Rattle.sap_terms.proofs.PlainLaws.Known.{own_name, clash, apart, in_head, in_tail, not_in, out_of}

-- ---- a name that these don't define stands for what it did before them

led_stays : (ds : List LocatedDefinition) (m : Led) (f : List ℕ) (s : Standing) (r : Choice) (k : ℕ) (ts : List Tree) → is_known (defined (map plain_definition ds)) f ≡ false
    → led_after m ds s r k f ts ≡ m s r k f ts
led_stays [] m f s r k ts h = refl
led_stays (d ∷ ds) m f s r k ts h =
    let other = not_in f d.name (defined (map plain_definition ds)) h in
    led_stays ds (with_led m d) f s r k ts other.1 ∙ ap (λ b. if b then led_by m d d.params s r k ts else m s r k f ts) other.0

-- names that are defined before aren't defined again
apart_from : (es : List Definition) (known : List (List ℕ)) → AreInOrder known es → (f : List ℕ) → is_known known f ≡ true → is_known (defined es) f ≡ false
apart_from [] known h f k = refl
apart_from (e ∷ es) known h f k =
    out_of f e.name (defined es) (apart e.name f (λ s. clash (is_known known f) k (sym (ap (is_known known) s) ∙ h.0)))
    (apart_from es (e.name ∷ known) h.1.1 f (in_tail f e.name known k))

-- ---- what uses names alone that stand for the same is the same

led_agree : (known : List (List ℕ)) (w : Located) (m n : Led) (s : Standing) (r : Choice) → UsesOnly known (without_numbers w)
    → ((f : List ℕ) (z : Standing) (q : Choice) (k : ℕ) (ts : List Tree) → is_known known f ≡ true → m z q k f ts ≡ n z q k f ts) → uses_in m s r w ≡ uses_in n s r w
led_agree known (nil_at k) m n s r h e = refl
led_agree known (call_at k f ts) m n s r h e = e f s r k ts h
led_agree known (parallel_at k p q) m n s r h e = λ i. led_agree known p m n s r h.0 e i ++ led_agree known q m n s r h.1 e i
led_agree known (replicated_at k p) m n s r h e = led_agree known p m n s r h e
led_agree known (act_at k a p) m n s r h e = led_agree known p m n s r h e
led_agree known (test_at k t u p q) m n s r h e = λ i. led_agree known p m n s r h.0 e i ++ led_agree known q m n s r h.1 e i
led_agree known (lookup_at k t x p q) m n s r h e = λ i. led_agree known p m n s r h.0 e i ++ led_agree known q m n s r h.1 e i

by_agree : (known : List (List ℕ)) (d : LocatedDefinition) (xs : List (List ℕ)) (m n : Led) (s : Standing) (r : Choice) (k : ℕ) (ts : List Tree) → UsesOnly known (without_numbers d.body)
    → ((f : List ℕ) (z : Standing) (q : Choice) (k : ℕ) (ts : List Tree) → is_known known f ≡ true → m z q k f ts ≡ n z q k f ts) → led_by m d xs s r k ts ≡ led_by n d xs s r k ts
by_agree known d [] m n s r k ts h e = led_agree known d.body m n (entered s k d) r h e
by_agree known d (x ∷ xs) m n s r k ts h e =
    ap (λ (us : List LocatedUse). use_at s k d.name (map (instance r) ts) ∷ us) (led_agree known d.body m n (entered s k d) (put d.params (map (instance r) ts) unchanged) h e)

-- ---- the first of some definitions, and each

led_here : (known : List (List ℕ)) (m : Led) (d : LocatedDefinition) (ds : List LocatedDefinition) → AreInOrder known (map plain_definition (d ∷ ds)) → (s : Standing) (r : Choice) (k : ℕ)
    (ts : List Tree) → led_after m (d ∷ ds) s r k d.name ts ≡ led_by (led_after m (d ∷ ds)) d d.params s r k ts
led_here known m d ds h s r k ts =
    led_stays ds (with_led m d) d.name s r k ts (apart_from (map plain_definition ds) (d.name ∷ known) h.1.1 d.name (in_head d.name known))
    ∙ ap (λ b. if b then led_by m d d.params s r k ts else m s r k d.name ts) (own_name d.name)
    ∙ by_agree known d d.params m (led_after m (d ∷ ds)) s r k ts h.1.0
    (λ f z q j us y. sym (led_stays (d ∷ ds) m f z q j us (apart_from (map plain_definition (d ∷ ds)) known h f y)))

led_at : (ds : List LocatedDefinition) (known : List (List ℕ)) (m : Led) → AreInOrder known (map plain_definition ds) → (j : ℕ) (e : LocatedDefinition) → slice_get ds j ≡ Some e
    → (s : Standing) (r : Choice) (k : ℕ) (ts : List Tree) → led_after m ds s r k e.name ts ≡ led_by (led_after m ds) e e.params s r k ts
led_at [] known m h j e is s r k ts = absurd (cc (is))
led_at (d ∷ ds) known m h zero e is s r k ts =
    let same : d ≡ e = cc (is) in
    subst (λ (z : LocatedDefinition). led_after m (d ∷ ds) s r k z.name ts ≡ led_by (led_after m (d ∷ ds)) z z.params s r k ts) same (led_here known m d ds h s r k ts)
led_at (d ∷ ds) known m h (suc j) e is s r k ts = led_at ds (d.name ∷ known) (with_led m d) h.1.1 j e is s r k ts

-- behind all of them
pub led_defined : (ds : List LocatedDefinition) → AreInOrder [] (map plain_definition ds) → (j : ℕ) (e : LocatedDefinition) → slice_get ds j ≡ Some e
    → (s : Standing) (r : Choice) (k : ℕ) (ts : List Tree) → led_after none_led ds s r k e.name ts ≡ led_by (led_after none_led ds) e e.params s r k ts
led_defined ds h j e is = led_at ds [] none_led h j e is

pub led_unknown : (ds : List LocatedDefinition) (f : List ℕ) → is_known (defined (map plain_definition ds)) f ≡ false
    → (s : Standing) (r : Choice) (k : ℕ) (ts : List Tree) → led_after none_led ds s r k f ts ≡ []
led_unknown ds f h s r k ts = led_stays ds none_led f s r k ts h
