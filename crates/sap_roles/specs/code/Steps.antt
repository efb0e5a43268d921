-- One step on the way along a path.
use Rattle.std.specs.Prelude.{◌≡◌, ◌<◌, ◌≤◌, ℕ, suc, ◌+◌, ◌-◌, List, [], Option, None, drop, length, take}
use Rattle.sap_terms.specs.Tree.{Tree}
use Rattle.sap_terms.specs.declared.var.Var.{Var}
use Rattle.sap_process.specs.Action.{Action}
use Rattle.sap_macro.specs.Indexed.{defined}
use Rattle.sap_macro.specs.Located.{Located, parallel_at, replicated_at, act_at, test_at, lookup_at}
use Rattle.sap_macro.specs.Order.{UsesOnly}
use Rattle.sap_macro.specs.Sources.{located, written}
use Rattle.sap_macro.specs.Written.{Definition}
use Rattle.sap_origin.specs.Definitions.{LocatedDefinition}
use Rattle.sap_origin.specs.Origins.{start}
use Rattle.sap_origin.specs.Reached.{IsForm, Reaches, Standing}
use Rattle.std.specs.Option.{option_or}
use Rattle.sap_roles.specs.Roles.{given, IsRoleAt}
use Rattle.sap_roles.specs.PlacesAlong.{place_in, places_along}
use Rattle.sap_roles.specs.code.Going.{AreOne, role_down}
use Rattle.sap_roles.specs.declared.role.Here.{Here}
use Rattle.sap_roles.specs.declared.role.Step.{Step}
use Rattle.sap_roles.specs.declared.role.Step.TheVariants.{There, Nowhere, On}

-- what stands directly below at a digit
pub data IsBelow : Located → ℕ → Located → Type 0 where
  is_left : {k : ℕ} {p q : Located} → IsBelow (parallel_at k p q) 1 p
  is_right : {k : ℕ} {p q : Located} → IsBelow (parallel_at k p q) 2 q
  is_copy : {k : ℕ} {p : Located} → IsBelow (replicated_at k p) 1 p
  is_behind : {k : ℕ} {a : Action} {p : Located} → IsBelow (act_at k a p) 1 p
  is_then : {k : ℕ} {t u : Tree} {p q : Located} → IsBelow (test_at k t u p q) 1 p
  is_else : {k : ℕ} {t u : Tree} {p q : Located} → IsBelow (test_at k t u p q) 2 q
  is_found : {k : ℕ} {t : Tree} {x : Var} {p q : Located} → IsBelow (lookup_at k t x p q) 1 p
  is_missing : {k : ℕ} {t : Tree} {x : Var} {p q : Located} → IsBelow (lookup_at k t x p q) 2 q

-- the walk is in a `let` of this name, if in one, and comes with the role of this name, if with one
pub record StandsSo (es : List Definition) (l r : Option (List ℕ)) (h : Here) : Type 0 where
  pub inside_is : AreOne es h.inside l
  pub role_is : AreOne es h.role r

-- it is in a process that uses the first definitions alone, before the bound
pub record IsWithin (es : List Definition) (path : List ℕ) (h : Here) : Type 0 where
  pub uses : UsesOnly (defined (take h.bound es)) (written h.source.now)
  pub bounded : h.bound ≤ length es
  pub at_most : h.at ≤ length path

-- the way that is left, at most
abbrev pub way_left : List ℕ → Here → ℕ
way_left path h = h.bound + (length path - h.at)

-- from there one comes to this place, and with the same role as from here
pub record ComesFrom (ds : List LocatedDefinition) (s : Standing) (l r : Option (List ℕ)) (p : Located)
    (path : List ℕ) (z : Standing) (w : Located) (role : Option (List ℕ)) : Type 0 where
  pub reaches : Reaches ds s p path z w
  pub role_is : role_down r (places_along l reaches) ≡ role

-- one comes to the same places from here and there, and from there with the roles with which one comes from here
pub record AreSame (ds : List LocatedDefinition) (s : Standing) (l r : Option (List ℕ)) (p : Located)
    (path : List ℕ) (t : Standing) (m v : Option (List ℕ)) (q : Located) (rest : List ℕ) : Type 0 where
  pub to : (z : Standing) (w : Located) → Reaches ds s p path z w → Reaches ds t q rest z w
  pub from : (z : Standing) (w : Located) (n : Reaches ds t q rest z w)
      → ComesFrom ds s l r p path z w (role_down v (places_along m n))

-- a step further
pub record GoesOn (es : List Definition) (ds : List LocatedDefinition) (path : List ℕ) (s : Standing)
    (l r : Option (List ℕ)) (h : Here) (n : Here) : Type 0 where
  pub standing : Standing
  pub inside : Option (List ℕ)
  pub role : Option (List ℕ)
  pub stands : StandsSo es inside role n
  pub within : IsWithin es path n
  pub same : AreSame ds s l r (located h.source.now) (drop h.at path) standing inside role
      (located n.source.now) (drop n.at path)
  pub less : way_left path n < way_left path h

-- where a step from here comes to
abbrev pub StepsFrom : List Definition → List LocatedDefinition → List ℕ → Standing → Option (List ℕ)
    → Option (List ℕ) → Here → Step → Type 0
StepsFrom es ds path s l r h (There o) =
    IsForm (located h.source.now) × (drop h.at path ≡ [])
    × AreOne es o (option_or r (given (place_in (located h.source.now) l)))
StepsFrom es ds path s l r h Nowhere =
    (z : Standing) (w : Located) → Reaches ds s (located h.source.now) (drop h.at path) z w → ⊥
StepsFrom es ds path s l r h (On n) = GoesOn es ds path s l r h n

-- the same, whatever `let` it is in, and whatever role it comes with
abbrev pub StepsTo : List Definition → List LocatedDefinition → List ℕ → Standing → Here → Step → Type 0
StepsTo es ds path s h step =
    (l r : Option (List ℕ)) → StandsSo es l r h → StepsFrom es ds path s l r h step

-- from the process at the root one comes to the same places as from here
pub record IsOn (es : List Definition) (ds : List LocatedDefinition) (path : List ℕ) (behind : ℕ) (p : Located)
    (h : Here) : Type 0 where
  pub standing : Standing
  pub inside : Option (List ℕ)
  pub role : Option (List ℕ)
  pub stands : StandsSo es inside role h
  pub within : IsWithin es path h
  pub same : AreSame ds (start behind) None None p path standing inside role (located h.source.now)
      (drop h.at path)

-- what a step tells of the whole path
abbrev pub Tells : List Definition → List LocatedDefinition → List ℕ → ℕ → Located → Step → Type 0
Tells es ds path behind p (There o) =
    (r : Option (List ℕ)) × AreOne es o r × IsRoleAt ds p behind path r
Tells es ds path behind p Nowhere =
    (z : Standing) (w : Located) → Reaches ds (start behind) p path z w → ⊥
Tells es ds path behind p (On h) = IsOn es ds path behind p h

-- the way that is left behind a step, at most
abbrev pub way_of : List ℕ → Step → ℕ
way_of path (There o) = 0
way_of path Nowhere = 0
way_of path (On h) = suc (way_left path h)
