-- Sizes that fit terms.
use Rattle.std.proofs.Common.{◌≡◌, ◌<◌, ℕ, zero, suc, ◌+◌, ◌-◌, min, ◌||◌, List, [], ◌∷◌, Some, Option, length, drop, map, refl, sym, ap, ◌∙◌, ⊎_elim, arith}
use Rattle.std.proofs.lemmas.Bool.{cases_Bool, le-ltb, lt-ltb, ltb-false, ltb-true}
use Rattle.std.specs.Option.{unwrap_or}
use Rattle.std.specs.Prelude.{if◌then◌else◌, nat_lt, slice_get}
use Rattle.std.specs.Str.{bytes_eq}
use Rattle.sap_terms.specs.Choice.{Choice, instance, instances}
use Rattle.sap_terms.specs.NameMap.{Puts, value_at}
use Rattle.sap_terms.specs.Tree.{Tree, variable, public, fresh, apply, node_count, Trees, none, more, trees_count}
use Rattle.sap_terms.specs.declared.var.Var.{Var}
use Rattle.sap_terms.proofs.PlainLaws.Lists.{drop_got}
use Rattle.sap_macro.specs.Expansion.{put, unchanged}
use Rattle.sap_uses.specs.UseCauses.{has_large}
use Rattle.sap_uses.specs.Sizes.{cut, size_in}
use Rattle.sap_uses.specs.code.Walks.{Sizes, has_heavy, put_sizes, sizes_of, weight, weights}

-- ---- the sizes of arguments by parameters

none_put : (ys : List (List ℕ)) (ts : List Tree) (z : Sizes) (k : ℕ) (x : List ℕ) → k ≡ min (length ys) (length ts) → put_sizes (drop k ys) (sizes_of z (drop k ts)) x ≡ 1
none_put [] ts z zero x e = refl
none_put [] ts z (suc k) x e = absurd (omega (arith, e))
none_put (y ∷ ys) [] z zero x e = refl
none_put (y ∷ ys) [] z (suc k) x e = absurd (omega (arith, e))
none_put (y ∷ ys) (t ∷ ts) z zero x e = absurd (omega (arith, e))
none_put (y ∷ ys) (t ∷ ts) z (suc k) x e = none_put ys ts z k x (omega (arith, e))

pub first_sizes : (ys : List (List ℕ)) (ts : List Tree) (z : Sizes) (k : ℕ) (m : List (List ℕ × ℕ)) → m ≡ [] → k ≡ min (length ys) (length ts)
    → size_in m ≡ put_sizes (drop k ys) (sizes_of z (drop k ts))
first_sizes ys ts z k m empty e = ap size_in empty ∙ (λ i x. sym (none_put ys ts z k x e) i)

pub next_sizes : (ys : List (List ℕ)) (ts : List Tree) (z : Sizes) (k : ℕ) (name at : List ℕ) (t : Tree) (n : ℕ) (m later : List (List ℕ × ℕ)) → 0 < k → slice_get ys (k - 1) ≡ Some at
    → name ≡ at → slice_get ts (k - 1) ≡ Some t → size_in m ≡ put_sizes (drop k ys) (sizes_of z (drop k ts)) → Puts m later name (Some n) → n ≡ cut (weight z t)
    → size_in later ≡ put_sizes (drop (k - 1) ys) (sizes_of z (drop (k - 1) ts))
next_sizes ys ts z k name at t n m later some is same got h puts size =
    let whole : k - 1 + 1 ≡ k = omega (arith, some) in
    let names : drop (k - 1) ys ≡ at ∷ drop k ys = drop_got ys (k - 1) at is ∙ ap (λ j. at ∷ drop j ys) whole in
    let terms : drop (k - 1) ts ≡ t ∷ drop k ts = drop_got ts (k - 1) t got ∙ ap (λ j. t ∷ drop j ts) whole in
    (λ i x. by x i) ∙ sym (λ i. put_sizes (names i) (sizes_of z (terms i))) where
      by : (x : List ℕ) → size_in later x ≡ (if bytes_eq at x then cut (weight z t) else put_sizes (drop k ys) (sizes_of z (drop k ts)) x)
      by x =
          ap (λ (o : Option ℕ). unwrap_or o 1) (puts x) ∙ ap (λ y. unwrap_or (if bytes_eq y x then Some n else value_at m x) 1) same
          ∙ ⊎_elim
          (λ e. ap (λ b. unwrap_or (if b then Some n else value_at m x) 1) e ∙ size ∙ sym (ap (λ b. if b then cut (weight z t) else put_sizes (drop k ys) (sizes_of z (drop k ts)) x) e))
          (λ e. ap (λ b. unwrap_or (if b then Some n else value_at m x) 1) e ∙ ap (λ (y : Sizes). y x) h
          ∙ sym (ap (λ b. if b then cut (weight z t) else put_sizes (drop k ys) (sizes_of z (drop k ts)) x) e))
          (cases_Bool (bytes_eq at x))

-- ---- sizes of instances

-- each variable stands for a term of the size of its name, up to the greatest number
abbrev pub Fits : Choice → Sizes → Type 0
Fits r z = (v : Var) → cut (node_count (r v)) ≡ cut (z v.name)

more_cut : (a b : ℕ) → cut a ≡ cut b → cut (a + 1) ≡ cut (b + 1)
more_cut a b e = omega (arith, e)

both_cut : (a b c d : ℕ) → cut a ≡ cut b → cut c ≡ cut d → cut (a + c) ≡ cut (b + d)
both_cut a b c d e f = omega (arith, e, f)

cut_twice : (a : ℕ) → cut (cut a) ≡ cut a
cut_twice a = omega arith

mutual
  pub weight_fits : (r : Choice) (z : Sizes) → Fits r z → (t : Tree) → cut (node_count (instance r t)) ≡ cut (weight z t)
  weight_fits r z h (variable v) = h v
  weight_fits r z h (public n) = refl
  weight_fits r z h (fresh k) = refl
  weight_fits r z h (apply f ts) = more_cut (trees_count (instances r ts)) (weights z ts) (weights_fit r z h ts)

  weights_fit : (r : Choice) (z : Sizes) → Fits r z → (ts : Trees) → cut (trees_count (instances r ts)) ≡ cut (weights z ts)
  weights_fit r z h none = refl
  weights_fit r z h (more t ts) =
      both_cut (node_count (instance r t)) (weight z t) (trees_count (instances r ts)) (weights z ts) (weight_fits r z h t) (weights_fit r z h ts)

large_cut : (a b : ℕ) → cut a ≡ cut b → nat_lt 256 a ≡ nat_lt 256 (cut b)
large_cut a b e =
    ⊎_elim
    (λ h. let more = ltb-true 256 a h in h ∙ sym (lt-ltb 256 (cut b) (omega (arith, e, more))))
    (λ h. let most = ltb-false 256 a h in h ∙ sym (le-ltb 256 (cut b) (omega (arith, e, most))))
    (cases_Bool (nat_lt 256 a))

pub large_fits : (r : Choice) (z : Sizes) → Fits r z → (ts : List Tree) → has_large (map (instance r) ts) ≡ has_heavy z ts
large_fits r z h [] = refl
large_fits r z h (t ∷ ts) = λ i. large_cut (node_count (instance r t)) (weight z t) (weight_fits r z h t) i || large_fits r z h ts i

put_nothing : (ys : List (List ℕ)) (v : Var) → node_count (put ys [] unchanged v) ≡ 1
put_nothing [] v = refl
put_nothing (y ∷ ys) v =
    ⊎_elim (λ e. ap (λ b. node_count (if b then public [] else put ys [] unchanged v)) e)
    (λ e. ap (λ b. node_count (if b then public [] else put ys [] unchanged v)) e ∙ put_nothing ys v) (cases_Bool (bytes_eq y v.name))

pub put_fits : (r : Choice) (z : Sizes) → Fits r z → (ys : List (List ℕ)) (ts : List Tree) → Fits (put ys (map (instance r) ts) unchanged) (put_sizes ys (sizes_of z ts))
put_fits r z h [] ts v = refl
put_fits r z h (y ∷ ys) [] v = ap cut (put_nothing (y ∷ ys) v)
put_fits r z h (y ∷ ys) (t ∷ ts) v =
    let rest = put ys (map (instance r) ts) unchanged v in
    let sizes = put_sizes ys (sizes_of z ts) v.name in
    ⊎_elim
    (λ e. ap (λ b. cut (node_count (if b then instance r t else rest))) e ∙ weight_fits r z h t ∙ sym (cut_twice (weight z t))
    ∙ sym (ap (λ b. cut (if b then cut (weight z t) else sizes)) e))
    (λ e. ap (λ b. cut (node_count (if b then instance r t else rest))) e ∙ put_fits r z h ys ts v ∙ sym (ap (λ b. cut (if b then cut (weight z t) else sizes)) e))
    (cases_Bool (bytes_eq y v.name))
