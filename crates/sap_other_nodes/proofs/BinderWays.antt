-- The way along a path to what binds a name: there is one at most, and there is one where the name is in scope.
use Rattle.std.proofs.Common.{◌≡◌, ℕ, suc, ◌+◌, ◌-◌, ◌^◌, List, [], ◌∷◌, ◌++◌, true, false, Option, Some, None, inl, inr, arith, length, refl, sym, ap, subst, ◌∙◌}
use Rattle.std.specs.Prelude.{◌⊎◌, Contains, min, option_map, slice_get}
use Rattle.std.proofs.lemmas.Option.{get_or_from_slice_get, slice_get_within}
use Rattle.sap_terms.specs.Variables.{is_known}
use Rattle.sap_terms.specs.declared.var.Var.{Var}
use Rattle.sap_terms.proofs.PlainLaws.Known.{clash}
use Rattle.sap_terms.proofs.PlainLaws.Numbers.{same_number}
use Rattle.sap_process.specs.Places.{child, place, place_at, place_from, places}
use Rattle.sap_process.specs.Proc.{Proc}
use Rattle.sap_process.specs.Sites.{Above, Site, above_of, scope_below, sites_in, var_names}
use Rattle.sap_nodes.specs.FullScope.{front_nodes}
use Rattle.sap_other_nodes.specs.OtherBinders.{IsBinderNode, IsBoundOn, bound_below, bound_here}
use Rattle.sap_other_nodes.specs.code.Binders.{IsAlong, IsBoundHere, process_down}
use Rattle.sap_other_nodes.specs.declared.other_binder.OtherNode.{OtherNode}
use Rattle.sap_other_nodes.proofs.HeadBinders.{head_cases}

some_one : {A : Type 0} (x y : A) → ◌≡◌ {A = Option A} (Some x) (Some y) → x ≡ y
some_one x y e = cc

some_none : {A : Type 0} {B : Type 0} (x : A) → ◌≡◌ {A = Option A} (Some x) None → B
some_none x e = absurd (cc (e))

-- ---- one at most

pub one_node : (p : Proc) (e : ℕ) (n : List ℕ) (j k : ℕ) → IsBinderNode p e n j → IsBinderNode p e n k → j ≡ k
one_node p e n j k a b =
    let same : a.index ≡ b.index =
    same_number a.index b.index (λ l. b.first a.index a.node l a.stands a.named) (λ l. a.first b.index b.node l b.stands b.named) in
    a.at ∙ ap (λ i. length (front_nodes p) + i) same ∙ sym b.at

-- a way begins with a binder, or goes on
pub turned : (p : Proc) (e : ℕ) (way n : List ℕ) (d k : ℕ) → IsBoundOn p (e ∷ way) n d k
    → (IsBinderNode p e n k × (d ≡ 0))
    ⊎ (((j : ℕ) → IsBinderNode p e n j → ⊥) × (q : Proc) × (child p e ≡ Some q) × (c : ℕ) × (d ≡ suc c) × IsBoundOn q way n c k)
turned p e way n _ k (bound_here b) = inl (b, refl)
turned p e way n _ k (bound_below {q = q} {d = d} none is b) = inr (none, q, is, d, refl, b)

pub no_way : (p : Proc) (n : List ℕ) (d k : ℕ) → IsBoundOn p [] n d k → ⊥
no_way p n d k h = elim h [ ]

abbrev OneBound : List ℕ → Type 0
OneBound way = (p : Proc) (n : List ℕ) (d e j k : ℕ) → IsBoundOn p way n d j → IsBoundOn p way n e k → (d ≡ e) × (j ≡ k)

-- what a way begins with
abbrev Turned : Proc → ℕ → List ℕ → List ℕ → ℕ → ℕ → Type 0
Turned p i way n d j =
    (IsBinderNode p i n j × (d ≡ 0))
    ⊎ (((m : ℕ) → IsBinderNode p i n m → ⊥) × (q : Proc) × (child p i ≡ Some q) × (c : ℕ) × (d ≡ suc c) × IsBoundOn q way n c j)

one_turn : (i : ℕ) (way : List ℕ) → OneBound way → (p : Proc) (n : List ℕ) (d e j k : ℕ) → Turned p i way n d j → Turned p i way n e k → (d ≡ e) × (j ≡ k)
one_turn i way ih p n d e j k (inl x) (inl y) = (x.1 ∙ sym y.1, one_node p i n j k x.0 y.0)
one_turn i way ih p n d e j k (inl x) (inr y) = absurd (y.0 j x.0)
one_turn i way ih p n d e j k (inr x) (inl y) = absurd (x.0 k y.0)
one_turn i way ih p n d e j k (inr x) (inr y) =
    let same : x.1 ≡ y.1 = some_one x.1 y.1 (sym x.2 ∙ y.2) in
    let rest = ih y.1 n x.3 y.3 j k (subst (λ (q : Proc). IsBoundOn q way n x.3 j) same x.5) y.5 in
    (x.4 ∙ ap (λ c. suc c) rest.0 ∙ sym y.4, rest.1)

pub one_bound : (way : List ℕ) → OneBound way
one_bound [] = λ p n d e j k a b. absurd (no_way p n d j a)
one_bound (i ∷ way) = λ p n d e j k a b. one_turn i way (one_bound way) p n d e j k (turned p i way n d j a) (turned p i way n e k b)

-- ---- what the code tells along a way

pub at_end : (p : Proc) (n : List ℕ) (depth : ℕ) (o : Option OtherNode) → IsBoundHere p 1 n depth o → IsAlong p (1 ∷ []) n depth o
at_end p n depth None h = λ d j b. by d j (turned p 1 [] n d j b) where
  by : (d j : ℕ) → (IsBinderNode p 1 n j × (d ≡ 0))
      ⊎ (((m : ℕ) → IsBinderNode p 1 n m → ⊥) × (q : Proc) × (child p 1 ≡ Some q) × (c : ℕ) × (d ≡ suc c) × IsBoundOn q [] n c j) → ⊥
  by d j (inl x) = h j x.0
  by d j (inr x) = no_way x.1 n x.3 j x.5
at_end p n depth (Some f) h = (0, h.0, bound_here h.1, (let e = h.2 in omega (arith, e)), h.3)

pub found_here : (p : Proc) (e : ℕ) (way n : List ℕ) (depth : ℕ) (f : OtherNode) → IsBoundHere p e n depth (Some f) → IsAlong p (e ∷ way) n depth (Some f)
found_here p e way n depth f h = (0, h.0, bound_here h.1, (let k = h.2 in omega (arith, k)), h.3)

pub no_child : (p : Proc) (e : ℕ) (way n : List ℕ) (depth : ℕ) → IsBoundHere p e n depth None → child p e ≡ None → IsAlong p (e ∷ way) n depth None
no_child p e way n depth h none = λ d j b. by d j (turned p e way n d j b) where
  by : (d j : ℕ) → (IsBinderNode p e n j × (d ≡ 0))
      ⊎ (((m : ℕ) → IsBinderNode p e n m → ⊥) × (q : Proc) × (child p e ≡ Some q) × (c : ℕ) × (d ≡ suc c) × IsBoundOn q way n c j) → ⊥
  by d j (inl x) = h j x.0
  by d j (inr x) = some_none x.1 (sym x.2 ∙ none)

pub found_below : (p q : Proc) (e : ℕ) (way n : List ℕ) (depth : ℕ) (o : Option OtherNode) → IsBoundHere p e n depth None → child p e ≡ Some q → IsAlong q way n (depth + 1) o
    → IsAlong p (e ∷ way) n depth o
found_below p q e way n depth None h is below = λ d j b. by d j (turned p e way n d j b) where
  by : (d j : ℕ) → (IsBinderNode p e n j × (d ≡ 0))
      ⊎ (((m : ℕ) → IsBinderNode p e n m → ⊥) × (r : Proc) × (child p e ≡ Some r) × (c : ℕ) × (d ≡ suc c) × IsBoundOn r way n c j) → ⊥
  by d j (inl x) = h j x.0
  by d j (inr x) = below x.3 j (subst (λ (r : Proc). IsBoundOn r way n x.3 j) (some_one x.1 q (sym x.2 ∙ is)) x.5)
found_below p q e way n depth (Some f) h is below = (suc below.0, below.1, bound_below h is below.2, (let k = below.3 in omega (arith, k)), below.4)

-- ---- the process at a path

abbrev bodies : Option Site → Option Proc
bodies None = None
bodies (Some s) = Some s.body

body_from : (a : Option Site) (path : List ℕ) → bodies (place_from scope_below a path) ≡ process_down (bodies a) path
body_from None path = refl
body_from (Some a) [] = refl
body_from (Some a) (e ∷ path) = body_from (option_map (place (a.path ++ e ∷ []) (scope_below a.above a.body e)) (child a.body e)) path ∙ ap (λ (o : Option Proc). process_down o path) (same (child a.body e)) where
  same : (o : Option Proc) → bodies (option_map (place (a.path ++ e ∷ []) (scope_below a.above a.body e)) o) ≡ o
  same None = refl
  same (Some q) = refl

-- the law of places
abbrev pub PathLaw : Type 0
PathLaw = (p : Proc) (s : Above) (x : Site) → Contains (places scope_below s p) x → place_at scope_below s p x.path ≡ Some x

pub site_there : PathLaw → (scope : List Var) (p : Proc) (k : ℕ) (s : Site) → slice_get (sites_in scope p) k ≡ Some s → place_at scope_below (above_of scope 0) p s.path ≡ Some s
site_there law scope p k s there =
    law p (above_of scope 0) s (k, slice_get_within (sites_in scope p) k s there, get_or_from_slice_get (sites_in scope p) k s s there)

pub body_there : PathLaw → (scope : List Var) (p : Proc) (k : ℕ) (s : Site) → slice_get (sites_in scope p) k ≡ Some s → process_down (Some p) s.path ≡ Some s.body
body_there law scope p k s there = sym (body_from (Some (place [] (above_of scope 0) p)) s.path) ∙ ap bodies (site_there law scope p k s there)

-- ---- where a name is in scope, it was before, or a head on the way binds it

nowhere_from : (path : List ℕ) (s : Site) → ◌≡◌ {A = Option Site} (place_from scope_below None path) (Some s) → ⊥
nowhere_from path s e = cc (e)

-- known at the end, it is bound on the way
abbrev IsKnownWay : List ℕ → Type 0
IsKnownWay path = (pre : List ℕ) (a : Above) (p : Proc) (n : List ℕ) (s : Site) → place_from scope_below (Some (place pre a p)) path ≡ Some s
    → is_known (var_names a.scope) n ≡ false → is_known (var_names (scope_below s.above s.body 1).scope) n ≡ true
    → (d : ℕ) × (j : ℕ) × IsBoundOn p (path ++ 1 ∷ []) n d j

-- what a head does for a name that isn't in scope above
abbrev Head : List ℕ → Above → Proc → ℕ → Type 0
Head n a p e = ((j : ℕ) × IsBinderNode p e n j) ⊎ (((j : ℕ) → IsBinderNode p e n j → ⊥) × (is_known (var_names (scope_below a p e).scope) n ≡ false))

known_here : (a : Above) (p : Proc) (n : List ℕ) → Head n a p 1 → is_known (var_names (scope_below a p 1).scope) n ≡ true → (d : ℕ) × (j : ℕ) × IsBoundOn p (1 ∷ []) n d j
known_here a p n (inl h) k = (0, h.0, bound_here h.1)
known_here a p n (inr h) k = clash (is_known (var_names (scope_below a p 1).scope) n) k h.1

known_under : (e : ℕ) (path : List ℕ) → IsKnownWay path → (pre : List ℕ) (a : Above) (p : Proc) (n : List ℕ) (s : Site) → ((j : ℕ) → IsBinderNode p e n j → ⊥)
    → is_known (var_names (scope_below a p e).scope) n ≡ false → is_known (var_names (scope_below s.above s.body 1).scope) n ≡ true → (o : Option Proc) → child p e ≡ o
    → place_from scope_below (option_map (place (pre ++ e ∷ []) (scope_below a p e)) o) path ≡ Some s → (d : ℕ) × (j : ℕ) × IsBoundOn p (e ∷ (path ++ 1 ∷ [])) n d j
known_under e path ih pre a p n s none below known None c there = absurd (nowhere_from path s there)
known_under e path ih pre a p n s none below known (Some q) c there =
    let rest = ih (pre ++ e ∷ []) (scope_below a p e) q n s there below known in
    (suc rest.0, rest.1, bound_below none c rest.2)

known_on : (e : ℕ) (path : List ℕ) → IsKnownWay path → (pre : List ℕ) (a : Above) (p : Proc) (n : List ℕ) (s : Site) → Head n a p e
    → place_from scope_below (Some (place pre a p)) (e ∷ path) ≡ Some s → is_known (var_names (scope_below s.above s.body 1).scope) n ≡ true
    → (d : ℕ) × (j : ℕ) × IsBoundOn p (e ∷ (path ++ 1 ∷ [])) n d j
known_on e path ih pre a p n s (inl h) is known = (0, h.0, bound_here h.1)
known_on e path ih pre a p n s (inr h) is known = known_under e path ih pre a p n s h.0 h.1 known (child p e) refl is

pub way_known : (path : List ℕ) → IsKnownWay path
way_known [] = λ pre a p n s is unknown known.
    known_here a p n (head_cases n a p 1 unknown)
    (subst (λ (x : Site). is_known (var_names (scope_below x.above x.body 1).scope) n ≡ true) (sym (some_one (place pre a p) s is)) known)
way_known (e ∷ path) = λ pre a p n s is unknown known. known_on e path (way_known path) pre a p n s (head_cases n a p e unknown) is known

-- ---- from the root on

pub from_start : (p : Proc) (way n : List ℕ) (f : OtherNode) → IsAlong p way n 0 (Some f) → (j : ℕ) × IsBoundOn p way n f.depth j × (f.node ≡ min j (2 ^ 64 - 1))
from_start p way n f h = (h.1, subst (λ (d : ℕ). IsBoundOn p way n d h.1) (same f.depth h.0 h.3) h.2, h.4) where
  same : (a b : ℕ) → a ≡ 0 + b → b ≡ a
  same a b e = omega (arith, e)
