-- Ready processes are plain.
use Rattle.std.proofs.Common.{◌≡◌, ℕ, zero, suc, Bool, true, false, List, [], ◌∷◌, ◌++◌, Option, Some, None, map, if◌then◌else◌, refl, sym, ap, subst, ◌∙◌, inl, inr, arith, slice_get}
use Rattle.std.specs.Prelude.{All, Contains}
use Rattle.std.specs.Option.{option_map_or}
use Rattle.std.specs.Str.{bytes_eq}
use Rattle.std.proofs.lemmas.List.{map-append}
use Rattle.std.proofs.lemmas.Slice.Eq.{bytes_eq-Decides}
use Rattle.std.proofs.lemmas.List.Elements.{Contains-append_left, Contains-append_right, Contains-append_cases}
use Rattle.sap_terms.specs.Choice.{Choice, instance, instances}
use Rattle.sap_terms.specs.Destructors.{HasDestructor, AnyHasDestructor}
use Rattle.sap_terms.specs.Equations.{equations}
use Rattle.sap_terms.specs.Ground.{IsGround}
use Rattle.sap_terms.specs.Laws.{DestructorsHeadLeftSides}
use Rattle.sap_terms.specs.Modulo.{instance_fact, instance_facts}
use Rattle.sap_terms.specs.Normal.{IsNormal, EachSubtermWithin}
use Rattle.sap_terms.specs.Signature.{Sig}
use Rattle.sap_terms.specs.Tree.{Tree, variable, public, fresh, apply, Trees, none, more, trees_of}
use Rattle.sap_terms.specs.Variables.{tree_vars, trees_vars, facts_vars, new_vars}
use Rattle.sap_terms.specs.declared.fact.Fact.{Fact}
use Rattle.sap_terms.specs.declared.var.Var.{Var}
use Rattle.sap_rewrite.specs.Match.{HaveOneSort}
use Rattle.sap_rewrite.specs.Pattern.{IsPattern, HeadsDestructor}
use Rattle.sap_process.specs.Action as action
use Rattle.sap_process.specs.Action.{Action}
use Rattle.sap_process.specs.Flaws.{IsWellFormed, HasPatternDestructor, binder_of}
use Rattle.sap_process.specs.declared.flaw.Flaw.TheVariants.{PatternDestructor}
use Rattle.sap_process.specs.Instance.{action_instance}
use Rattle.sap_process.specs.Heads.{patterns, action_patterns}
use Rattle.sap_process.specs.Places.{places_from}
use Rattle.sap_process.specs.Proc as whole
use Rattle.sap_process.specs.Proc.{Proc, act}
use Rattle.sap_process.specs.Ready.{IsReady}
use Rattle.sap_process.specs.Sites.{Above, Site, above_of, scope_below, sites, var_names, bound_by, message_var}
use Rattle.sap_process.specs.Sorted.{with_sorts, by_binder, binding_fresh}
use Rattle.sap_lines.proofs.Fits.{all_each}
use Rattle.sap_lines.proofs.Opened.{named_among}
use Rattle.sap_lines.proofs.Plain.{HasOneSort, IsPlain}
use Rattle.sap_terms.proofs.PlainLaws.Choices.{tree_same, trees_same}
use Rattle.sap_terms.proofs.PlainLaws.Items.{first_item, got_contained, later_item}
use Rattle.sap_terms.proofs.PlainLaws.Names.{first_named}

-- a term without destructors is a pattern
module _ (heads : DestructorsHeadLeftSides) (g : Sig) where
  mutual
    pattern_of : (t : Tree) → (HasDestructor g t → ⊥) → IsPattern (equations g) t
    pattern_of (variable v) h = λ never. absurd never
    pattern_of (public a) h = λ never. absurd never
    pattern_of (fresh k) h = λ never. absurd never
    pattern_of (apply f ts) h = ((λ d. absurd (h (inl ((heads g f).1 d)))), patterns_of ts (λ d. h (inr d)))

    patterns_of : (ts : Trees) → (AnyHasDestructor g ts → ⊥) → EachSubtermWithin (λ t. HeadsDestructor (equations g) t → IsGround t × IsNormal (equations g) t) ts
    patterns_of none h = tt
    patterns_of (more t ts) h = (pattern_of t (λ d. h (inl d)), patterns_of ts (λ d. h (inr d)))

  -- at each action the patterns are patterns
  abbrev EachPattern : Proc → Type 0
  EachPattern whole.nil = Unit {0}
  EachPattern (whole.parallel p q) = EachPattern p × EachPattern q
  EachPattern (whole.replicated p) = EachPattern p
  EachPattern (act a p) = All (IsPattern (equations g)) (action_patterns a) × EachPattern p
  EachPattern (whole.test t u p q) = EachPattern p × EachPattern q
  EachPattern (whole.lookup t x p q) = EachPattern p × EachPattern q

  -- where no place has a destructor in a pattern
  Clean : List Site → Type 0
  Clean ss = (s : Site) → Contains ss s → HasPatternDestructor g s → ⊥

  clean_left : (xs ys : List Site) → Clean (xs ++ ys) → Clean xs
  unfolding Clean
  clean_left xs ys h s m = h s (Contains-append_left xs ys s m)

  clean_right : (xs ys : List Site) → Clean (xs ++ ys) → Clean ys
  unfolding Clean
  clean_right xs ys h s m = h s (Contains-append_right xs ys s m)

  clean_later : (x : Site) (xs : List Site) → Clean (x ∷ xs) → Clean xs
  unfolding Clean
  clean_later x xs h s m = h s (later_item x xs s m)

  clean_first : (x : Site) (xs : List Site) → Clean (x ∷ xs) → All (IsPattern (equations g)) (patterns x.body)
  unfolding Clean
  clean_first x xs h = all_each (IsPattern (equations g)) (patterns x.body) (λ t m. pattern_of t (λ d. h x (first_item x xs) (record { term = t; stands = m; destructor = d })))

  each_pattern : (path : List ℕ) (u : Above) (p : Proc) → Clean (places_from scope_below path u p) → EachPattern p
  each_pattern path u whole.nil h = tt
  each_pattern path u (whole.parallel p q) h =
      let first = places_from scope_below (path ++ 1 ∷ []) (scope_below u (whole.parallel p q) 1) p in
      let second = places_from scope_below (path ++ 2 ∷ []) (scope_below u (whole.parallel p q) 2) q in
      let rest = clean_later (record { path = path; above = u; body = whole.parallel p q }) (first ++ second) h in
      (each_pattern (path ++ 1 ∷ []) (scope_below u (whole.parallel p q) 1) p (clean_left first second rest), each_pattern (path ++ 2 ∷ []) (scope_below u (whole.parallel p q) 2) q (clean_right first second rest))
  each_pattern path u (whole.replicated p) h =
      let first = places_from scope_below (path ++ 1 ∷ []) (scope_below u (whole.replicated p) 1) p in
      each_pattern (path ++ 1 ∷ []) (scope_below u (whole.replicated p) 1) p (clean_later (record { path = path; above = u; body = whole.replicated p }) first h)
  each_pattern path u (act a p) h =
      let first = places_from scope_below (path ++ 1 ∷ []) (scope_below u (act a p) 1) p in
      let here : Site = record { path = path; above = u; body = act a p } in
      (clean_first here first h, each_pattern (path ++ 1 ∷ []) (scope_below u (act a p) 1) p (clean_later here first h))
  each_pattern path u (whole.test t w p q) h =
      let first = places_from scope_below (path ++ 1 ∷ []) (scope_below u (whole.test t w p q) 1) p in
      let second = places_from scope_below (path ++ 2 ∷ []) (scope_below u (whole.test t w p q) 2) q in
      let rest = clean_later (record { path = path; above = u; body = whole.test t w p q }) (first ++ second) h in
      (each_pattern (path ++ 1 ∷ []) (scope_below u (whole.test t w p q) 1) p (clean_left first second rest), each_pattern (path ++ 2 ∷ []) (scope_below u (whole.test t w p q) 2) q (clean_right first second rest))
  each_pattern path u (whole.lookup t x p q) h =
      let first = places_from scope_below (path ++ 1 ∷ []) (scope_below u (whole.lookup t x p q) 1) p in
      let second = places_from scope_below (path ++ 2 ∷ []) (scope_below u (whole.lookup t x p q) 2) q in
      let rest = clean_later (record { path = path; above = u; body = whole.lookup t x p q }) (first ++ second) h in
      (each_pattern (path ++ 1 ∷ []) (scope_below u (whole.lookup t x p q) 1) p (clean_left first second rest), each_pattern (path ++ 2 ∷ []) (scope_below u (whole.lookup t x p q) 2) q (clean_right first second rest))

  well_clean : (p : Proc) → IsWellFormed g p → Clean (sites p)
  unfolding Clean
  well_clean p fine s m d = let at = got_contained (sites p) s m in fine PatternDestructor at.0 (record { site = s; stands = at.1; flaw = d })

-- where sorts are set, no name of an embedded rule has two

-- the terms of facts that an instance leaves as they are
args_kept : (σ : Choice) (ts : List Tree) → map (instance σ) ts ≡ ts → instances σ (trees_of ts) ≡ trees_of ts
args_kept σ [] e = refl
args_kept σ (t ∷ ts) e =
    let first : instance σ t ≡ t = cc in
    let later : map (instance σ) ts ≡ ts = cc in
    λ i. more (first i) (args_kept σ ts later i)

mutual
  unchanged : (t : Tree) → instance (λ v. variable v) t ≡ t
  unchanged (variable v) = refl
  unchanged (public a) = refl
  unchanged (fresh k) = refl
  unchanged (apply f ts) = ap (apply f) (all_unchanged ts)

  all_unchanged : (ts : Trees) → instances (λ v. variable v) ts ≡ ts
  all_unchanged none = refl
  all_unchanged (more t ts) = λ i. more (unchanged t i) (all_unchanged ts i)

facts_kept : (σ : Choice) (fs : List Fact) → instance_facts σ fs ≡ fs → (v : Var) → Contains (facts_vars fs) v → σ v ≡ variable v
facts_kept σ [] e v m = absurd (omega (arith, m.1))
facts_kept σ (f ∷ fs) e v m =
    let first : instance_fact σ f ≡ f = cc in
    let later : instance_facts σ fs ≡ fs = cc in
    let args : map (instance σ) f.args ≡ f.args = ap (λ (h : Fact). h.args) first in
    elim (Contains-append_cases (trees_vars (trees_of f.args)) (facts_vars fs) v m) [
      | inl k ↦ trees_same σ (λ w. variable w) (trees_of f.args) (args_kept σ f.args args ∙ sym (all_unchanged (trees_of f.args))) v k
      | inr k ↦ facts_kept σ fs later v k
    ]

-- a variable of the scope that has the name
has_binder : (scope : List Var) (w : Var) (n : List ℕ) → Contains scope w → w.name ≡ n → (b : Var) × (binder_of scope n ≡ Some b)
has_binder scope w n m e = find_at scope (got_contained scope w m).0 (got_contained scope w m).1
  where
    first : (x : Var) (xs : List Var) → x ≡ w → (b : Var) × ((if bytes_eq x.name n then Some x else binder_of xs n) ≡ Some b)
    first x xs is = let passes : bytes_eq x.name n ≡ true = (bytes_eq-Decides x.name n).1 (ap (λ (y : Var). y.name) is ∙ e) in (x, ap (λ c. if c then Some x else binder_of xs n) passes)

    or_later : (x : Var) (xs : List Var) (c : Bool) → (b : Var) × (binder_of xs n ≡ Some b) → (b : Var) × ((if c then Some x else binder_of xs n) ≡ Some b)
    or_later x xs true r = (x, refl)
    or_later x xs false r = r

    find_at : (xs : List Var) (k : ℕ) → slice_get xs k ≡ Some w → (b : Var) × (binder_of xs n ≡ Some b)
    find_at [] k at = cc
    find_at (x ∷ xs) zero at = let is : x ≡ w = cc in first x xs is
    find_at (x ∷ xs) (suc k) at = or_later x xs (bytes_eq x.name n) (find_at xs k at)

-- each variable of a rule has a binder
bound_in : (scope vs : List Var) (v : Var) → Contains vs v → (b : Var) × (binder_of (scope ++ new_vars (var_names scope) vs) v.name ≡ Some b)
bound_in scope vs v m = elim (first_named (var_names scope) vs v m) [
  | inl h ↦ (let w = named_among scope v.name h in has_binder (scope ++ new_vars (var_names scope) vs) w.0 v.name (Contains-append_left scope (new_vars (var_names scope) vs) w.0 w.1) w.2)
  | inr w ↦ has_binder (scope ++ new_vars (var_names scope) vs) w.0 v.name (Contains-append_right scope (new_vars (var_names scope) vs) w.0 w.1) w.3
]

-- the sort of a variable that keeps its sort by its binder
sort_is : (scope : List Var) (v b : Var) → binder_of scope v.name ≡ Some b → by_binder scope v ≡ variable v → v.sort ≡ b.sort
sort_is scope v b found e = at (binder_of scope v.name) found e where
  at : (o : Option Var) → o ≡ Some b → option_map_or (λ (x : Var). variable (record { name = v.name; sort = x.sort })) o (variable v) ≡ variable v → v.sort ≡ b.sort
  at None f e = cc
  at (Some x) f e =
      let is : x ≡ b = cc in
      let var : record { name = v.name; sort = x.sort } ≡ v = cc in
      sym (ap (λ (w : Var). w.sort) var) ∙ ap (λ (w : Var). w.sort) is

same_var : (v w : Var) → v.name ≡ w.name → v.sort ≡ w.sort → v ≡ w
same_var v w e f = λ i. record { name = e i; sort = f i }

-- no name of a pattern has two
pub pattern_sort : (scope : List Var) (n : Tree) → instance (by_binder (scope ++ new_vars (var_names scope) (tree_vars n))) n ≡ n → HaveOneSort (tree_vars n)
pattern_sort scope n kept v w m k same =
    let vs = tree_vars n in
    let all = scope ++ new_vars (var_names scope) vs in
    let agree = tree_same (by_binder all) (λ u. variable u) n (kept ∙ sym (unchanged n)) in
    let b = bound_in scope vs v m in
    let first = sort_is all v b.0 b.1 (agree v m) in
    let found : binder_of all w.name ≡ Some b.0 = subst (λ n. binder_of all n ≡ Some b.0) same b.1 in
    let second = sort_is all w b.0 found (agree w k) in
    same_var v w same (first ∙ sym second)

pub one_sort : (scope : List Var) (l e r : List Fact) → instance_facts (by_binder (scope ++ bound_by scope (action.embedded l e r))) (l ++ (e ++ r)) ≡ l ++ (e ++ r) → HaveOneSort (facts_vars (l ++ (e ++ r)))
one_sort scope l e r kept v w m k same =
    let vs = facts_vars (l ++ (e ++ r)) in
    let all = scope ++ new_vars (var_names scope) vs in
    let b = bound_in scope vs v m in
    let first = sort_is all v b.0 b.1 (facts_kept (by_binder all) (l ++ (e ++ r)) kept v m) in
    let found : binder_of all w.name ≡ Some b.0 = subst (λ n. binder_of all n ≡ Some b.0) same b.1 in
    let second = sort_is all w b.0 found (facts_kept (by_binder all) (l ++ (e ++ r)) kept w k) in
    same_var v w same (first ∙ sym second)

-- no name of an embedded rule has two sorts
abbrev EachSort : Proc → Type 0
EachSort whole.nil = Unit {0}
EachSort (whole.parallel p q) = EachSort p × EachSort q
EachSort (whole.replicated p) = EachSort p
EachSort (act a p) = HasOneSort a × EachSort p
EachSort (whole.test t u p q) = EachSort p × EachSort q
EachSort (whole.lookup t x p q) = EachSort p × EachSort q

action_sort : (scope : List Var) (a : Action) → binding_fresh (action_instance (by_binder (scope ++ bound_by scope a)) a) ≡ a → HasOneSort a
action_sort scope (action.embedded l e r) h =
    let σ : Choice = by_binder (scope ++ bound_by scope (action.embedded l e r)) in
    let ls : instance_facts σ l ≡ l = cc in
    let mids : instance_facts σ e ≡ e = cc in
    let rs : instance_facts σ r ≡ r = cc in
    one_sort scope l e r (map-append (instance_fact σ) l (e ++ r) ∙ ap (λ fs. instance_facts σ l ++ fs) (map-append (instance_fact σ) e r) ∙ (λ i. ls i ++ (mids i ++ rs i)))
action_sort scope (action.new x) h = tt
action_sort scope (action.out t) h = tt
action_sort scope (action.send t u) h = tt
action_sort scope (action.input t) h = tt
action_sort scope (action.receive t u) h = tt
action_sort scope (action.event f) h = tt
action_sort scope (action.insert t u) h = tt
action_sort scope (action.delete t) h = tt
action_sort scope (action.lock t n) h = tt
action_sort scope (action.unlock t n) h = tt

each_sort : (scope : List Var) (p : Proc) → with_sorts scope p ≡ p → EachSort p
each_sort scope whole.nil e = tt
each_sort scope (whole.parallel p q) e =
    let first : with_sorts scope p ≡ p = cc in
    let second : with_sorts scope q ≡ q = cc in
    (each_sort scope p first, each_sort scope q second)
each_sort scope (whole.replicated p) e = let first : with_sorts scope p ≡ p = cc in each_sort scope p first
each_sort scope (act a p) e =
    let first : binding_fresh (action_instance (by_binder (scope ++ bound_by scope a)) a) ≡ a = cc in
    let later : with_sorts (scope ++ bound_by scope a) p ≡ p = cc in
    (action_sort scope a first, each_sort (scope ++ bound_by scope a) p later)
each_sort scope (whole.test t u p q) e =
    let first : with_sorts scope p ≡ p = cc in
    let second : with_sorts scope q ≡ q = cc in
    (each_sort scope p first, each_sort scope q second)
each_sort scope (whole.lookup t x p q) e =
    let first : with_sorts (scope ++ message_var x ∷ []) p ≡ p = cc in
    let second : with_sorts scope q ≡ q = cc in
    (each_sort (scope ++ message_var x ∷ []) p first, each_sort scope q second)

module _ (heads : DestructorsHeadLeftSides) (g : Sig) where
  both_plain : (p : Proc) → EachPattern heads g p → EachSort p → IsPlain g p
  both_plain whole.nil h k = tt
  both_plain (whole.parallel p q) h k = (both_plain p h.0 k.0, both_plain q h.1 k.1)
  both_plain (whole.replicated p) h k = both_plain p h k
  both_plain (act a p) h k = (h.0, k.0, both_plain p h.1 k.1)
  both_plain (whole.test t u p q) h k = (both_plain p h.0 k.0, both_plain q h.1 k.1)
  both_plain (whole.lookup t x p q) h k = (both_plain p h.0 k.0, both_plain q h.1 k.1)

  pub ready_plain : (p : Proc) → IsReady g p → IsPlain g p
  ready_plain p h = both_plain p (each_pattern heads g [] (above_of [] 0) p (well_clean heads g p h.well_formed)) (each_sort [] p h.sorted)
