-- One step on the way along a path.
use Rattle.std.specs.Prelude.{◌≡◌, ◌<◌, ◌≤◌, ℕ, suc, ◌+◌, ◌-◌, List, [], ◌∷◌, ◌++◌, drop, length, slice_get, take, Option, Some, None}
use Rattle.sap_terms.specs.Tree.{Tree}
use Rattle.sap_terms.specs.declared.var.Var.{Var}
use Rattle.sap_process.specs.Action.{Action}
use Rattle.sap_macro.specs.Indexed.{defined}
use Rattle.sap_macro.specs.Located.{Located, parallel_at, replicated_at, act_at, test_at, lookup_at}
use Rattle.sap_macro.specs.Order.{UsesOnly}
use Rattle.sap_macro.specs.Sources.{located, written}
use Rattle.sap_macro.specs.Written.{Definition}
use Rattle.sap_macro.specs.declared.definition.Definition as code
use Rattle.sap_origin.specs.Definitions.{LocatedDefinition}
use Rattle.sap_origin.specs.Origins.{start}
use Rattle.sap_origin.specs.Reached.{IsEnd, IsReplaced, ReachesBy, Standing}
use Rattle.sap_origin.specs.Trails.{AreUses, IsTrailBy}
use Rattle.sap_origin.specs.UsesAlong.{UseAt, uses_along}
use Rattle.sap_origin.specs.declared.trail.Here.{Here}
use Rattle.sap_origin.specs.declared.trail.Replaced.{Replaced}
use Rattle.sap_origin.specs.declared.trail.Step.{Step}
use Rattle.sap_origin.specs.declared.trail.Step.TheVariants.{There, Nowhere, On}
use Rattle.sap_origin.specs.declared.trail.Use.{Use}

-- what stands directly below at a digit
pub data IsBelow : Located → ℕ → Located → Type 0 where
  is_left : {k : ℕ} {p q : Located} → IsBelow (parallel_at k p q) 1 p
  is_right : {k : ℕ} {p q : Located} → IsBelow (parallel_at k p q) 2 q
  is_copy : {k : ℕ} {p : Located} → IsBelow (replicated_at k p) 1 p
  is_behind : {k : ℕ} {a : Action} {p : Located} → IsBelow (act_at k a p) 1 p
  is_then : {k : ℕ} {t u : Tree} {p q : Located} → IsBelow (test_at k t u p q) 1 p
  is_else : {k : ℕ} {t u : Tree} {p q : Located} → IsBelow (test_at k t u p q) 2 q
  is_found : {k : ℕ} {t : Tree} {x : Var} {p q : Located} → IsBelow (lookup_at k t x p q) 1 p
  is_missing : {k : ℕ} {t : Tree} {x : Var} {p q : Located} → IsBelow (lookup_at k t x p q) 2 q

-- these uses, and behind them this one, if there is one
abbrev pub noted : List Use → Option Use → List Use
noted us None = us
noted us (Some u) = us ++ u ∷ []

-- this definition, by its number, has the name, and replaces it
pub record IsReplacing (v : Replaced) (ds : List code.Definition) (f : List ℕ) (k : ℕ) : Type 0 where
  pub definition : code.Definition
  pub stands : slice_get ds k ≡ Some definition
  pub name_is : definition.name ≡ f
  pub replaced : IsReplaced v definition.params

-- it is in a process that uses the first definitions alone, before the bound
pub record IsWithin (es : List Definition) (path : List ℕ) (h : Here) : Type 0 where
  pub uses : UsesOnly (defined (take h.bound es)) (written h.source.now)
  pub bounded : h.bound ≤ length es
  pub at_most : h.at ≤ length path

-- the way that is left, at most
abbrev pub way_left : List ℕ → Here → ℕ
way_left path h = h.bound + (length path - h.at)

-- one comes along the path through these uses, and then through the others
pub record Coming (ds : List LocatedDefinition) (v : Replaced) (s : Standing) (p : Located) (path : List ℕ) (z : Standing)
    (q : Located) (us : List Use) (others : List UseAt) : Type 0 where
  pub reaches : ReachesBy ds v s p path z q
  pub front : List UseAt
  pub uses_are : uses_along reaches ≡ front ++ others
  pub are : AreUses ds front us

-- one comes to the same places from here and there, through these uses
pub record AreSame (ds : List LocatedDefinition) (v : Replaced) (s : Standing) (p : Located) (path : List ℕ) (us : List Use)
    (t : Standing) (q : Located) (rest : List ℕ) : Type 0 where
  pub to : (z : Standing) (w : Located) → ReachesBy ds v s p path z w → ReachesBy ds v t q rest z w
  pub from : (z : Standing) (w : Located) (r : ReachesBy ds v t q rest z w)
      → Coming ds v s p path z w us (uses_along r)

-- a step further, through this use, if it is one
pub record GoesOn (es : List Definition) (ds : List LocatedDefinition) (v : Replaced) (path : List ℕ) (s : Standing) (h : Here)
    (u : Option Use) (n : Here) : Type 0 where
  pub standing : Standing
  pub behind_is : standing.behind ≡ n.behind
  pub within : IsWithin es path n
  pub same : AreSame ds v s (located h.source.now) (drop h.at path) (noted [] u) standing
      (located n.source.now) (drop n.at path)
  pub less : way_left path n < way_left path h

-- where a step from here comes to
abbrev pub StepsTo : List Definition → List LocatedDefinition → Replaced → List ℕ → Standing → Here → Step → Type 0
StepsTo es ds v path s h (There n) =
    IsEnd ds v (located h.source.now) × (drop h.at path ≡ []) × (n ≡ h)
StepsTo es ds v path s h Nowhere =
    (z : Standing) (w : Located) → ReachesBy ds v s (located h.source.now) (drop h.at path) z w → ⊥
StepsTo es ds v path s h (On u n) = GoesOn es ds v path s h u n

-- from the process at the root one comes to the same places as from here, behind these uses
pub record IsOn (es : List Definition) (ds : List LocatedDefinition) (v : Replaced) (path : List ℕ) (behind : ℕ) (p : Located)
    (us : List Use) (h : Here) : Type 0 where
  pub standing : Standing
  pub behind_is : standing.behind ≡ h.behind
  pub within : IsWithin es path h
  pub same : AreSame ds v (start behind) p path us standing (located h.source.now) (drop h.at path)

-- what a step behind these uses says of the whole path
abbrev pub Tells : List Definition → List LocatedDefinition → Replaced → List ℕ → ℕ → Located → List Use → Step → Type 0
Tells es ds v path behind p us (There n) =
    IsTrailBy ds v p behind path (record { source = n.source; behind = n.behind; uses = us })
Tells es ds v path behind p us Nowhere =
    (z : Standing) (w : Located) → ReachesBy ds v (start behind) p path z w → ⊥
Tells es ds v path behind p us (On u h) = IsOn es ds v path behind p (noted us u) h

-- the way that is left behind a step, at most
abbrev pub way_of : List ℕ → Step → ℕ
way_of path (There n) = 0
way_of path Nowhere = 0
way_of path (On u h) = suc (way_left path h)
