-- The walk finds what stands first in the expansion.
use Rattle.std.proofs.Common.{◌≡◌, ℕ, true, false, List, [], ◌∷◌, ◌⊎◌, inl, inr, Some, map, refl, sym, ap, ◌∙◌, subst, ⊎_elim}
use Rattle.std.proofs.lemmas.Bool.{cases_Bool, false≢true}
use Rattle.std.specs.Option.{option_or}
use Rattle.std.specs.Prelude.{if◌then◌else◌}
use Rattle.std.specs.Str.{bytes_eq}
use Rattle.sap_terms.specs.Choice.{Choice, instance}
use Rattle.sap_terms.specs.Tree.{Tree}
use Rattle.sap_terms.specs.Variables.{is_known}
use Rattle.sap_macro.specs.Expansion.{Plain, plain_after, plain_bodies, put, unchanged, where_none, with_plain, with_uses}
use Rattle.sap_macro.specs.Order.{AreInOrder, UsesOnly}
use Rattle.sap_macro.specs.Written.{Written, nil, call, parallel, replicated, act, test, lookup, Definition}
use Rattle.sap_uses.specs.UseCauses.{Large, first_large, large_after, large_at, large_in, none_large, with_large}
use Rattle.sap_uses.specs.Sizes.{size_in}
use Rattle.sap_uses.specs.code.Walks.{Heavy, Sizes, heavy, heavy_after, heavy_at, heavy_in, none_heavy, put_sizes, sizes_of, with_heavy}
use Rattle.sap_uses.proofs.Fitting.{Fits, large_fits, put_fits}
use Rattle.sap_terms.proofs.PlainLaws.Known.{one_name, own_name, clash, in_tail, in_cases, not_in}

-- ---- which names are used behind names without parameters

more_known : (x : List ℕ) (known : List (List ℕ)) (w : Written) → UsesOnly known w → UsesOnly (x ∷ known) w
more_known x known nil h = tt
more_known x known (call f ts) h = in_tail f x known h
more_known x known (parallel p q) h = (more_known x known p h.0, more_known x known q h.1)
more_known x known (replicated p) h = more_known x known p h
more_known x known (act a p) h = more_known x known p h
more_known x known (test t u p q) h = (more_known x known p h.0, more_known x known q h.1)
more_known x known (lookup t y p q) h = (more_known x known p h.0, more_known x known q h.1)

-- a name stands for what uses known names alone
abbrev AreClosedUses : List (List ℕ) → Plain → Type 0
AreClosedUses known p = (f : List ℕ) (ts : List Tree) → is_known known f ≡ true → UsesOnly known (p f ts)

uses_known : (known : List (List ℕ)) (w : Written) (p : Plain) → UsesOnly known w → AreClosedUses known p → UsesOnly known (with_uses p w)
uses_known known nil p h e = tt
uses_known known (call f ts) p h e = e f ts h
uses_known known (parallel a b) p h e = (uses_known known a p h.0 e, uses_known known b p h.1 e)
uses_known known (replicated a) p h e = uses_known known a p h e
uses_known known (act x a) p h e = uses_known known a p h e
uses_known known (test t u a b) p h e = (uses_known known a p h.0 e, uses_known known b p h.1 e)
uses_known known (lookup t x a b) p h e = (uses_known known a p h.0 e, uses_known known b p h.1 e)

where_none_known : (known : List (List ℕ)) (xs : List (List ℕ)) (p q : Written) → UsesOnly known p → UsesOnly known q → UsesOnly known (where_none xs p q)
where_none_known known [] p q h k = h
where_none_known known (x ∷ xs) p q h k = k

closed_more : (known : List (List ℕ)) (p : Plain) (d : Definition) → UsesOnly known d.body → AreClosedUses known p → AreClosedUses (d.name ∷ known) (with_plain p d)
closed_more known p d h e f ts k =
    ⊎_elim
    (λ s. subst (λ b. UsesOnly (d.name ∷ known) (if b then where_none d.params (with_uses p d.body) (call f ts) else p f ts)) (sym s)
    (where_none_known (d.name ∷ known) d.params (with_uses p d.body) (call f ts) (more_known d.name known (with_uses p d.body) (uses_known known d.body p h e)) k))
    (λ s. subst (λ b. UsesOnly (d.name ∷ known) (if b then where_none d.params (with_uses p d.body) (call f ts) else p f ts)) (sym s)
    (more_known d.name known (p f ts) (e f ts (not_first s (in_cases f d.name known k)))))
    (cases_Bool (bytes_eq d.name f)) where
      not_first : bytes_eq d.name f ≡ false → (d.name ≡ f) ⊎ (is_known known f ≡ true) → is_known known f ≡ true
      not_first s (inl same) = clash (bytes_eq d.name f) (subst (λ z. bytes_eq d.name z ≡ true) same (own_name d.name)) s
      not_first s (inr there) = there

-- other names stay names
abbrev AreOpen : List (List ℕ) → Plain → Type 0
AreOpen known p = (f : List ℕ) (ts : List Tree) → is_known known f ≡ false → p f ts ≡ call f ts

large_agree : (known : List (List ℕ)) (w : Written) (m n : Large) (r : Choice) → UsesOnly known w → ((f : List ℕ) (ts : List Tree) → is_known known f ≡ true → m f ts ≡ n f ts)
    → large_in m r w ≡ large_in n r w
large_agree known nil m n r h e = refl
large_agree known (call f ts) m n r h e = e f (map (instance r) ts) h
large_agree known (parallel p q) m n r h e = λ i. option_or (large_agree known p m n r h.0 e i) (large_agree known q m n r h.1 e i)
large_agree known (replicated p) m n r h e = large_agree known p m n r h e
large_agree known (act a p) m n r h e = large_agree known p m n r h e
large_agree known (test t u p q) m n r h e = λ i. option_or (large_agree known p m n r h.0 e i) (large_agree known q m n r h.1 e i)
large_agree known (lookup t x p q) m n r h e = λ i. option_or (large_agree known p m n r h.0 e i) (large_agree known q m n r h.1 e i)

-- ---- sizes in place of terms

-- at each use the same is found
abbrev AreFound : Plain → Large → Heavy → Type 0
AreFound p m u = (f : List ℕ) (ts : List Tree) (r : Choice) (z : Sizes) → Fits r z → large_in m r (p f ts) ≡ u z f ts

found_in : (p : Plain) (m : Large) (u : Heavy) → AreFound p m u → (w : Written) (r : Choice) (z : Sizes) → Fits r z → large_in m r (with_uses p w) ≡ heavy_in u z w
found_in p m u h nil r z fits = refl
found_in p m u h (call f ts) r z fits = h f ts r z fits
found_in p m u h (parallel a b) r z fits = λ i. option_or (found_in p m u h a r z fits i) (found_in p m u h b r z fits i)
found_in p m u h (replicated a) r z fits = found_in p m u h a r z fits
found_in p m u h (act x a) r z fits = found_in p m u h a r z fits
found_in p m u h (test t v a b) r z fits = λ i. option_or (found_in p m u h a r z fits i) (found_in p m u h b r z fits i)
found_in p m u h (lookup t x a b) r z fits = λ i. option_or (found_in p m u h a r z fits i) (found_in p m u h b r z fits i)

abbrev with_body : Plain → Definition → Definition
with_body p d = record d { body = with_uses p d.body }

module _ (known : List (List ℕ)) (p : Plain) (m : Large) (u : Heavy) (d : Definition) (fresh : is_known known d.name ≡ false) (only : UsesOnly known d.body)
    (closed : AreClosedUses known p) (free : AreOpen known p) (h : AreFound p m u) where
  abbrev later : Large
  later = with_large m (with_body p d)

  -- known names lead where they led
  same_known : (f : List ℕ) (ts : List Tree) → is_known known f ≡ true → later f ts ≡ m f ts
  same_known f ts k =
      ⊎_elim (λ e. clash (is_known known f) k (sym (ap (is_known known) (one_name d.name f e)) ∙ fresh))
      (λ e. ap (λ b. if b then large_at m (with_body p d) ts else m f ts) e) (cases_Bool (bytes_eq d.name f))

  -- the definition itself
  own_found : (xs : List (List ℕ)) (f : List ℕ) (ts : List Tree) (r : Choice) (z : Sizes) → Fits r z → bytes_eq d.name f ≡ true
      → large_in later r (where_none xs (with_uses p d.body) (call f ts)) ≡ heavy_at u d xs z ts
  own_found [] f ts r z fits e =
      large_agree known (with_uses p d.body) later m r (uses_known known d.body p only closed) same_known ∙ found_in p m u h d.body r z fits
  own_found (x ∷ xs) f ts r z fits e =
      let us = map (instance r) ts in
      ap (λ b. if b then large_at m (with_body p d) us else m f us) e
      ∙ (λ i. if large_fits r z fits ts i then Some d.name else found_in p m u h d.body (put d.params us unchanged) (put_sizes d.params (sizes_of z ts)) (put_fits r z fits d.params ts) i)

  -- another name
  other_found : (f : List ℕ) (ts : List Tree) (r : Choice) (z : Sizes) → Fits r z → bytes_eq d.name f ≡ false → large_in later r (p f ts) ≡ u z f ts
  other_found f ts r z fits e =
      ⊎_elim (λ k. large_agree known (p f ts) later m r (closed f ts k) same_known ∙ h f ts r z fits)
      (λ k. let us = map (instance r) ts in
      ap (large_in later r) (free f ts k)
      ∙ ap (λ b. if b then large_at m (with_body p d) us else m f us) e
      ∙ sym (ap (large_in m r) (free f ts k)) ∙ h f ts r z fits)
      (cases_Bool (is_known known f))

  one_found : AreFound (with_plain p d) later (with_heavy u d)
  one_found f ts r z fits =
      ⊎_elim
      (λ e. ap (λ b. large_in later r (if b then where_none d.params (with_uses p d.body) (call f ts) else p f ts)) e ∙ own_found d.params f ts r z fits e
      ∙ sym (ap (λ b. if b then heavy_at u d d.params z ts else u z f ts) e))
      (λ e. ap (λ b. large_in later r (if b then where_none d.params (with_uses p d.body) (call f ts) else p f ts)) e ∙ other_found f ts r z fits e
      ∙ sym (ap (λ b. if b then heavy_at u d d.params z ts else u z f ts) e))
      (cases_Bool (bytes_eq d.name f))

  still_open : AreOpen (d.name ∷ known) (with_plain p d)
  still_open f ts k =
      let apart_from = not_in f d.name known k in
      ap (λ b. if b then where_none d.params (with_uses p d.body) (call f ts) else p f ts) apart_from.0 ∙ free f ts apart_from.1

all_found : (ds : List Definition) (known : List (List ℕ)) (p : Plain) (m : Large) (u : Heavy) → AreInOrder known ds → AreClosedUses known p → AreOpen known p → AreFound p m u
    → AreFound (plain_after p ds) (large_after m (plain_bodies p ds)) (heavy_after u ds)
all_found [] known p m u o closed free h = h
all_found (d ∷ ds) known p m u o closed free h =
    all_found ds (d.name ∷ known) (with_plain p d) (with_large m (with_body p d)) (with_heavy u d) o.1.1 (closed_more known p d o.1.0 closed)
    (still_open known p m u d o.0 o.1.0 closed free h) (one_found known p m u d o.0 o.1.0 closed free h)

pub heavy_first : (ds : List Definition) (w : Written) (sizes : List (List ℕ × ℕ)) → sizes ≡ [] → AreInOrder [] ds → heavy ds (size_in sizes) w ≡ first_large ds w
unfolding heavy
heavy_first ds w sizes none o =
    ap (λ s. heavy_in (heavy_after none_heavy ds) (size_in s) w) none
    ∙ sym (found_in (plain_after call ds) (large_after none_large (plain_bodies call ds)) (heavy_after none_heavy ds)
    (all_found ds [] call none_large none_heavy o (λ f ts k. absurd (false≢true k)) (λ f ts k. refl) (λ f ts r z fits. refl)) w unchanged (λ x. 1) (λ v. refl))
