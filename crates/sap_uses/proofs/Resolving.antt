-- The name of a definition stands for its body, where each name stands for what it does behind all definitions.
use Rattle.std.proofs.Common.{◌≡◌, ℕ, zero, suc, ◌+◌, true, false, List, [], ◌∷◌, Some, refl, sym, ap, ◌∙◌, subst}
use Rattle.std.specs.Option.{option_or}
use Rattle.std.specs.Prelude.{if◌then◌else◌, slice_get}
use Rattle.sap_terms.specs.Tree.{Tree}
use Rattle.sap_terms.specs.Variables.{is_known}
use Rattle.sap_macro.specs.Order.{AreInOrder, UsesOnly}
use Rattle.sap_macro.specs.Written.{Written, nil, call, parallel, replicated, act, test, lookup, Definition}
use Rattle.sap_macro.specs.Indexed.{defined, IsDefined}
use Rattle.sap_macro.specs.Walked.{Cost, steps, with_cost, cost_after}
use Rattle.sap_uses.specs.code.Walks.{Sizes, Heavy, heavy_in, heavy_at, with_heavy, none_heavy, heavy_after, has_heavy, put_sizes, sizes_of, IsResolved, IsResolvedBy, IsUnknown}
use Rattle.sap_terms.proofs.PlainLaws.Known.{own_name, clash, apart, in_head, in_tail, not_in, out_of}

-- ---- a name that these don't define stands for what it did before them

heavy_stays : (ds : List Definition) (m : Heavy) (f : List ℕ) (z : Sizes) (ts : List Tree) → is_known (defined ds) f ≡ false → heavy_after m ds z f ts ≡ m z f ts
heavy_stays [] m f z ts h = refl
heavy_stays (d ∷ ds) m f z ts h =
    let other = not_in f d.name (defined ds) h in
    heavy_stays ds (with_heavy m d) f z ts other.1 ∙ ap (λ b. if b then heavy_at m d d.params z ts else m z f ts) other.0

cost_stays : (ds : List Definition) (c : Cost) (f : List ℕ) → is_known (defined ds) f ≡ false → cost_after c ds f ≡ c f
cost_stays [] c f h = refl
cost_stays (d ∷ ds) c f h =
    let other = not_in f d.name (defined ds) h in
    cost_stays ds (with_cost c d) f other.1 ∙ ap (λ b. if b then steps c d.body else c f) other.0

-- names that are defined before aren't defined again
pub apart_from : (ds : List Definition) (known : List (List ℕ)) → AreInOrder known ds → (f : List ℕ) → is_known known f ≡ true → is_known (defined ds) f ≡ false
apart_from [] known h f k = refl
apart_from (d ∷ ds) known h f k =
    out_of f d.name (defined ds) (apart d.name f (λ e. clash (is_known known f) k (sym (ap (is_known known) e) ∙ h.0)))
    (apart_from ds (d.name ∷ known) h.1.1 f (in_tail f d.name known k))

-- ---- what uses names alone that stand for the same is the same

heavy_agree : (known : List (List ℕ)) (w : Written) (m n : Heavy) (z : Sizes) → UsesOnly known w
    → ((f : List ℕ) (y : Sizes) (ts : List Tree) → is_known known f ≡ true → m y f ts ≡ n y f ts) → heavy_in m z w ≡ heavy_in n z w
heavy_agree known nil m n z h e = refl
heavy_agree known (call f ts) m n z h e = e f z ts h
heavy_agree known (parallel p q) m n z h e = λ i. option_or (heavy_agree known p m n z h.0 e i) (heavy_agree known q m n z h.1 e i)
heavy_agree known (replicated p) m n z h e = heavy_agree known p m n z h e
heavy_agree known (act a p) m n z h e = heavy_agree known p m n z h e
heavy_agree known (test t u p q) m n z h e = λ i. option_or (heavy_agree known p m n z h.0 e i) (heavy_agree known q m n z h.1 e i)
heavy_agree known (lookup t x p q) m n z h e = λ i. option_or (heavy_agree known p m n z h.0 e i) (heavy_agree known q m n z h.1 e i)

at_agree : (known : List (List ℕ)) (d : Definition) (xs : List (List ℕ)) (m n : Heavy) (z : Sizes) (ts : List Tree) → UsesOnly known d.body
    → ((f : List ℕ) (y : Sizes) (us : List Tree) → is_known known f ≡ true → m y f us ≡ n y f us) → heavy_at m d xs z ts ≡ heavy_at n d xs z ts
at_agree known d [] m n z ts h e = heavy_agree known d.body m n z h e
at_agree known d (x ∷ xs) m n z ts h e =
    ap (λ o. if has_heavy z ts then Some d.name else o) (heavy_agree known d.body m n (put_sizes d.params (sizes_of z ts)) h e)

steps_agree : (known : List (List ℕ)) (w : Written) (c d : Cost) → UsesOnly known w → ((f : List ℕ) → is_known known f ≡ true → c f ≡ d f) → steps c w ≡ steps d w
steps_agree known nil c d h e = refl
steps_agree known (call f ts) c d h e = ap (λ n. n + 1) (e f h)
steps_agree known (parallel p q) c d h e = λ i. steps_agree known p c d h.0 e i + steps_agree known q c d h.1 e i + 1
steps_agree known (replicated p) c d h e = ap (λ n. n + 1) (steps_agree known p c d h e)
steps_agree known (act a p) c d h e = ap (λ n. n + 1) (steps_agree known p c d h e)
steps_agree known (test t u p q) c d h e = λ i. steps_agree known p c d h.0 e i + steps_agree known q c d h.1 e i + 1
steps_agree known (lookup t x p q) c d h e = λ i. steps_agree known p c d h.0 e i + steps_agree known q c d h.1 e i + 1

-- ---- the first of some definitions, and each

module _ (known : List (List ℕ)) (m : Heavy) (c : Cost) (d : Definition) (ds : List Definition) (h : AreInOrder known (d ∷ ds)) where
  abbrev heavy_there : Heavy
  heavy_there = heavy_after m (d ∷ ds)

  abbrev cost_there : Cost
  cost_there = cost_after c (d ∷ ds)

  none : is_known (defined ds) d.name ≡ false
  none = apart_from ds (d.name ∷ known) h.1.1 d.name (in_head d.name known)

  here : IsResolvedBy heavy_there cost_there d
  here = record {
    found = λ z ts.
        heavy_stays ds (with_heavy m d) d.name z ts none
        ∙ ap (λ b. if b then heavy_at m d d.params z ts else m z d.name ts) (own_name d.name)
        ∙ at_agree known d d.params m heavy_there z ts h.1.0 (λ f y us k. sym (heavy_stays (d ∷ ds) m f y us (apart_from (d ∷ ds) known h f k)));
    cost =
        cost_stays ds (with_cost c d) d.name none
        ∙ ap (λ b. if b then steps c d.body else c d.name) (own_name d.name)
        ∙ steps_agree known d.body c cost_there h.1.0 (λ f k. sym (cost_stays (d ∷ ds) c f (apart_from (d ∷ ds) known h f k)));
  }

resolved_at : (ds : List Definition) (known : List (List ℕ)) (m : Heavy) (c : Cost) → AreInOrder known ds → (k : ℕ) (e : Definition) → slice_get ds k ≡ Some e
    → IsResolvedBy (heavy_after m ds) (cost_after c ds) e
resolved_at [] known m c h k e is = absurd (cc)
resolved_at (d ∷ ds) known m c h zero e is =
    let same : d ≡ e = cc in
    subst (λ z. IsResolvedBy (heavy_after m (d ∷ ds)) (cost_after c (d ∷ ds)) z) same (here known m c d ds h)
resolved_at (d ∷ ds) known m c h (suc k) e is = resolved_at ds (d.name ∷ known) (with_heavy m d) (with_cost c d) h.1.1 k e is

pub resolved : (ds : List Definition) (f : List ℕ) (d : Definition) → AreInOrder [] ds → IsDefined ds f d → IsResolved ds d
resolved ds f d h is = resolved_at ds [] none_heavy (λ f. 0) h is.at d is.stands

pub unknown : (ds : List Definition) (f : List ℕ) → is_known (defined ds) f ≡ false → IsUnknown ds f
unknown ds f h = record { found = λ z ts. heavy_stays ds none_heavy f z ts h }
