-- The first use with a large argument has the name that the cause has.
use Rattle.std.proofs.Common.{◌≡◌, ℕ, true, false, List, [], ◌∷◌, ◌++◌, ◌⊎◌, inl, inr, Option, None, Some, map, refl, sym, ap, ◌∙◌, subst, ⊎_elim}
use Rattle.std.proofs.lemmas.Bool.{cases_Bool, false≢true}
use Rattle.std.specs.Option.{option_map, option_or}
use Rattle.std.specs.Prelude.{if◌then◌else◌}
use Rattle.std.specs.Str.{bytes_eq}
use Rattle.sap_terms.specs.Choice.{Choice, instance}
use Rattle.sap_terms.specs.Tree.{Tree}
use Rattle.sap_terms.specs.Variables.{is_known}
use Rattle.sap_macro.specs.Expansion.{Plain, plain_after, plain_bodies, put, unchanged, where_none, with_plain, with_uses}
use Rattle.sap_macro.specs.Located.{Located, nil_at, call_at, parallel_at, replicated_at, act_at, test_at, lookup_at, without_numbers}
use Rattle.sap_macro.specs.Order.{AreInOrder, UsesOnly}
use Rattle.sap_macro.specs.Written.{Written, nil, call, parallel, replicated, act, test, lookup, Definition}
use Rattle.sap_origin.specs.Definitions.{LocatedDefinition, plain_definition}
use Rattle.sap_origin.specs.Origins.{start}
use Rattle.sap_origin.specs.Reached.{Standing, entered}
use Rattle.sap_uses.specs.UseCauses.{Large, first_large, has_large, large_after, large_at, large_in, none_large, with_large}
use Rattle.sap_use_words.specs.ExpandedUses.{Led, first_with_large, large_use, led_after, led_by, none_led, uses_in, with_led}
use Rattle.sap_use_words.specs.WrittenUses.{LocatedUse, use_at}
use Rattle.sap_terms.proofs.PlainLaws.Known.{one_name, own_name, clash, in_tail, in_cases, not_in}

-- ---- which names are used behind names without parameters

more_known : (x : List ℕ) (known : List (List ℕ)) (w : Written) → UsesOnly known w → UsesOnly (x ∷ known) w
more_known x known nil h = tt
more_known x known (call f ts) h = in_tail f x known h
more_known x known (parallel p q) h = (more_known x known p h.0, more_known x known q h.1)
more_known x known (replicated p) h = more_known x known p h
more_known x known (act a p) h = more_known x known p h
more_known x known (test t u p q) h = (more_known x known p h.0, more_known x known q h.1)
more_known x known (lookup t y p q) h = (more_known x known p h.0, more_known x known q h.1)

-- a name stands for what uses known names alone
abbrev AreClosedUses : List (List ℕ) → Plain → Type 0
AreClosedUses known p = (f : List ℕ) (ts : List Tree) → is_known known f ≡ true → UsesOnly known (p f ts)

uses_known : (known : List (List ℕ)) (w : Written) (p : Plain) → UsesOnly known w → AreClosedUses known p → UsesOnly known (with_uses p w)
uses_known known nil p h e = tt
uses_known known (call f ts) p h e = e f ts h
uses_known known (parallel a b) p h e = (uses_known known a p h.0 e, uses_known known b p h.1 e)
uses_known known (replicated a) p h e = uses_known known a p h e
uses_known known (act x a) p h e = uses_known known a p h e
uses_known known (test t u a b) p h e = (uses_known known a p h.0 e, uses_known known b p h.1 e)
uses_known known (lookup t x a b) p h e = (uses_known known a p h.0 e, uses_known known b p h.1 e)

where_none_known : (known : List (List ℕ)) (xs : List (List ℕ)) (p q : Written) → UsesOnly known p → UsesOnly known q → UsesOnly known (where_none xs p q)
where_none_known known [] p q h k = h
where_none_known known (x ∷ xs) p q h k = k

closed_more : (known : List (List ℕ)) (p : Plain) (d : Definition) → UsesOnly known d.body → AreClosedUses known p → AreClosedUses (d.name ∷ known) (with_plain p d)
closed_more known p d h e f ts k =
    ⊎_elim
    (λ s. subst (λ b. UsesOnly (d.name ∷ known) (if b then where_none d.params (with_uses p d.body) (call f ts) else p f ts)) (sym s)
    (where_none_known (d.name ∷ known) d.params (with_uses p d.body) (call f ts) (more_known d.name known (with_uses p d.body) (uses_known known d.body p h e)) k))
    (λ s. subst (λ b. UsesOnly (d.name ∷ known) (if b then where_none d.params (with_uses p d.body) (call f ts) else p f ts)) (sym s)
    (more_known d.name known (p f ts) (e f ts (not_first s (in_cases f d.name known k)))))
    (cases_Bool (bytes_eq d.name f)) where
      not_first : bytes_eq d.name f ≡ false → (d.name ≡ f) ⊎ (is_known known f ≡ true) → is_known known f ≡ true
      not_first s (inl same) = clash (bytes_eq d.name f) (subst (λ z. bytes_eq d.name z ≡ true) same (own_name d.name)) s
      not_first s (inr there) = there

-- other names stay names
abbrev AreOpen : List (List ℕ) → Plain → Type 0
AreOpen known p = (f : List ℕ) (ts : List Tree) → is_known known f ≡ false → p f ts ≡ call f ts

large_agree : (known : List (List ℕ)) (w : Written) (m n : Large) (r : Choice) → UsesOnly known w → ((f : List ℕ) (ts : List Tree) → is_known known f ≡ true → m f ts ≡ n f ts)
    → large_in m r w ≡ large_in n r w
large_agree known nil m n r h e = refl
large_agree known (call f ts) m n r h e = e f (map (instance r) ts) h
large_agree known (parallel p q) m n r h e = λ i. option_or (large_agree known p m n r h.0 e i) (large_agree known q m n r h.1 e i)
large_agree known (replicated p) m n r h e = large_agree known p m n r h e
large_agree known (act a p) m n r h e = large_agree known p m n r h e
large_agree known (test t u p q) m n r h e = λ i. option_or (large_agree known p m n r h.0 e i) (large_agree known q m n r h.1 e i)
large_agree known (lookup t x p q) m n r h e = λ i. option_or (large_agree known p m n r h.0 e i) (large_agree known q m n r h.1 e i)

-- ---- the first of two lists

pub large_append : (us vs : List LocatedUse) → first_with_large (us ++ vs) ≡ option_or (first_with_large us) (first_with_large vs)
large_append [] vs = refl
large_append (u ∷ us) vs =
    elim (has_large u.args) as (λ b. (if b then Some u else first_with_large (us ++ vs)) ≡ option_or (if b then Some u else first_with_large us) (first_with_large vs)) [
      | true ↦ refl
      | false ↦ large_append us vs
    ]

abbrev name_of : Option LocatedUse → Option (List ℕ)
name_of o = option_map (λ (u : LocatedUse). u.name) o

name_or : (a b : Option LocatedUse) → name_of (option_or a b) ≡ option_or (name_of a) (name_of b)
name_or None b = refl
name_or (Some u) b = refl

name_append : (us vs : List LocatedUse) → option_or (name_of (first_with_large us)) (name_of (first_with_large vs)) ≡ name_of (first_with_large (us ++ vs))
name_append us vs = sym (name_or (first_with_large us) (first_with_large vs)) ∙ sym (ap name_of (large_append us vs))

-- ---- the same name is found at each use

abbrev AreNamed : Plain → Large → Led → Type 0
AreNamed p m u = (f : List ℕ) (ts : List Tree) (r : Choice) (s : Standing) (k : ℕ) → large_in m r (p f ts) ≡ name_of (first_with_large (u s r k f ts))

named_in : (p : Plain) (m : Large) (u : Led) → AreNamed p m u → (w : Located) (r : Choice) (s : Standing) → large_in m r (with_uses p (without_numbers w)) ≡ name_of (first_with_large (uses_in u s r w))
named_in p m u h (nil_at k) r s = refl
named_in p m u h (call_at k f ts) r s = h f ts r s k
named_in p m u h (parallel_at k a b) r s = (λ i. option_or (named_in p m u h a r s i) (named_in p m u h b r s i)) ∙ name_append (uses_in u s r a) (uses_in u s r b)
named_in p m u h (replicated_at k a) r s = named_in p m u h a r s
named_in p m u h (act_at k x a) r s = named_in p m u h a r s
named_in p m u h (test_at k t v a b) r s = (λ i. option_or (named_in p m u h a r s i) (named_in p m u h b r s i)) ∙ name_append (uses_in u s r a) (uses_in u s r b)
named_in p m u h (lookup_at k t x a b) r s = (λ i. option_or (named_in p m u h a r s i) (named_in p m u h b r s i)) ∙ name_append (uses_in u s r a) (uses_in u s r b)

abbrev with_body : Plain → LocatedDefinition → Definition
with_body p d = record (plain_definition d) { body = with_uses p (without_numbers d.body) }

module _ (known : List (List ℕ)) (p : Plain) (m : Large) (u : Led) (d : LocatedDefinition) (fresh : is_known known d.name ≡ false) (only : UsesOnly known (without_numbers d.body))
    (closed : AreClosedUses known p) (free : AreOpen known p) (h : AreNamed p m u) where
  abbrev later : Large
  later = with_large m (with_body p d)

  abbrev body : Written
  body = with_uses p (without_numbers d.body)

  -- known names lead where they led
  same_known : (f : List ℕ) (ts : List Tree) → is_known known f ≡ true → later f ts ≡ m f ts
  same_known f ts k =
      ⊎_elim (λ e. clash (is_known known f) k (sym (ap (is_known known) (one_name d.name f e)) ∙ fresh))
      (λ e. ap (λ b. if b then large_at m (with_body p d) ts else m f ts) e) (cases_Bool (bytes_eq d.name f))

  -- the definition itself
  own_named : (xs : List (List ℕ)) (f : List ℕ) (ts : List Tree) (r : Choice) (s : Standing) (k : ℕ) → bytes_eq d.name f ≡ true
      → large_in later r (where_none xs body (call f ts)) ≡ name_of (first_with_large (led_by u d xs s r k ts))
  own_named [] f ts r s k e =
      large_agree known body later m r (uses_known known (without_numbers d.body) p only closed) same_known ∙ named_in p m u h d.body r (entered s k d)
  own_named (x ∷ xs) f ts r s k e =
      let us = map (instance r) ts in
      ap (λ b. if b then large_at m (with_body p d) us else m f us) e
      ∙ elim (has_large us) as (λ b. (if b then Some d.name else large_in m (put d.params us unchanged) body)
      ≡ name_of (if b then Some (use_at s k d.name us) else first_with_large (uses_in u (entered s k d) (put d.params us unchanged) d.body))) [
        | true ↦ refl
        | false ↦ named_in p m u h d.body (put d.params us unchanged) (entered s k d)
      ]

  -- another name
  other_named : (f : List ℕ) (ts : List Tree) (r : Choice) (s : Standing) (k : ℕ) → bytes_eq d.name f ≡ false → large_in later r (p f ts) ≡ name_of (first_with_large (u s r k f ts))
  other_named f ts r s k e =
      ⊎_elim (λ y. large_agree known (p f ts) later m r (closed f ts y) same_known ∙ h f ts r s k)
      (λ y. let us = map (instance r) ts in
      ap (large_in later r) (free f ts y)
      ∙ ap (λ b. if b then large_at m (with_body p d) us else m f us) e
      ∙ sym (ap (large_in m r) (free f ts y)) ∙ h f ts r s k)
      (cases_Bool (is_known known f))

  one_named : AreNamed (with_plain p (plain_definition d)) later (with_led u d)
  one_named f ts r s k =
      ⊎_elim
      (λ e. ap (λ b. large_in later r (if b then where_none d.params body (call f ts) else p f ts)) e ∙ own_named d.params f ts r s k e
      ∙ sym (ap (λ b. name_of (first_with_large (if b then led_by u d d.params s r k ts else u s r k f ts))) e))
      (λ e. ap (λ b. large_in later r (if b then where_none d.params body (call f ts) else p f ts)) e ∙ other_named f ts r s k e
      ∙ sym (ap (λ b. name_of (first_with_large (if b then led_by u d d.params s r k ts else u s r k f ts))) e))
      (cases_Bool (bytes_eq d.name f))

  still_open : AreOpen (d.name ∷ known) (with_plain p (plain_definition d))
  still_open f ts k =
      let apart_from = not_in f d.name known k in
      ap (λ b. if b then where_none d.params body (call f ts) else p f ts) apart_from.0 ∙ free f ts apart_from.1

all_named : (ds : List LocatedDefinition) (known : List (List ℕ)) (p : Plain) (m : Large) (u : Led) → AreInOrder known (map plain_definition ds) → AreClosedUses known p → AreOpen known p
    → AreNamed p m u → AreNamed (plain_after p (map plain_definition ds)) (large_after m (plain_bodies p (map plain_definition ds))) (led_after u ds)
all_named [] known p m u o closed free h = h
all_named (d ∷ ds) known p m u o closed free h =
    all_named ds (d.name ∷ known) (with_plain p (plain_definition d)) (with_large m (with_body p d)) (with_led u d) o.1.1
    (closed_more known p (plain_definition d) o.1.0 closed) (still_open known p m u d o.0 o.1.0 closed free h) (one_named known p m u d o.0 o.1.0 closed free h)

pub large_name : (ds : List LocatedDefinition) (n : ℕ) (p : Located) → AreInOrder [] (map plain_definition ds)
    → option_map (λ (u : LocatedUse). u.name) (large_use ds n p) ≡ first_large (map plain_definition ds) (without_numbers p)
large_name ds n p order =
    sym (named_in (plain_after call (map plain_definition ds)) (large_after none_large (plain_bodies call (map plain_definition ds))) (led_after none_led ds)
    (all_named ds [] call none_large none_led order (λ f ts k. absurd (false≢true k)) (λ f ts k. refl) (λ f ts r s k. refl)) p unchanged (start n))
