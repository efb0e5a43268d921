-- A path leads by one way, so there is one role at a place.
use Rattle.std.proofs.Common.{◌≡◌, ℕ, List, ◌∷◌, Option, Some, None, refl, sym, ap, ◌∙◌, subst}
use Rattle.sap_macro.specs.Located.{Located, parallel_at, replicated_at, act_at, test_at, lookup_at}
use Rattle.sap_origin.specs.Definitions.{LocatedDefinition}
use Rattle.sap_origin.specs.Origins.{start}
use Rattle.sap_origin.specs.Reached.{Standing, Reaches, reaches_here, reaches_use, reaches_left, reaches_right, reaches_copy, reaches_behind, reaches_then, reaches_else, reaches_found, reaches_missing, entered}
use Rattle.sap_roles.specs.Roles.{IsRoleAt}
use Rattle.sap_roles.specs.PlacesAlong.{PlaceAt, place_in, places_along}
use Rattle.sap_roles.specs.code.Going.{role_down}
use Rattle.sap_roles.proofs.Down.{is_down, on_way, way_first}

some_is : {d e : LocatedDefinition} → ◌≡◌ {A = Option LocatedDefinition} (Some d) (Some e) → d ≡ e
some_is h = cc (h)

pub one_way : (ds : List LocatedDefinition) {s z w : Standing} {p q r : Located} {path : List ℕ} (l : Option (List ℕ)) (a : Reaches ds s p path z q) (b : Reaches ds s p path w r) → places_along l a ≡ places_along l b
one_way ds l (reaches_here h) (reaches_here g) = refl
one_way ds l (reaches_here h) (reaches_use e t n) = absurd h
one_way ds l (reaches_use e t m) (reaches_here h) = absurd h
one_way ds l (reaches_use {s = s} {k = k} {f = f} {d = d} {path = path} e t m) (reaches_use {z = w} {q = r} g u n) =
    subst (λ (b : LocatedDefinition). (o : Reaches ds (entered s k b) b.body path w r) → places_along (Some f) m ≡ places_along (Some f) o) (some_is (sym e ∙ g)) (λ o. one_way ds (Some f) m o) n
one_way ds l (reaches_left {k = k} {p = p} {r = r} m) (reaches_left n) = ap (λ (ns : List PlaceAt). place_in (parallel_at k p r) l ∷ ns) (one_way ds l m n)
one_way ds l (reaches_right {k = k} {p = p} {r = r} m) (reaches_right n) = ap (λ (ns : List PlaceAt). place_in (parallel_at k p r) l ∷ ns) (one_way ds l m n)
one_way ds l (reaches_copy {k = k} {p = p} m) (reaches_copy n) = ap (λ (ns : List PlaceAt). place_in (replicated_at k p) l ∷ ns) (one_way ds l m n)
one_way ds l (reaches_behind {k = k} {a = a} {p = p} m) (reaches_behind n) = ap (λ (ns : List PlaceAt). place_in (act_at k a p) l ∷ ns) (one_way ds l m n)
one_way ds l (reaches_then {k = k} {t = t} {u = u} {p = p} {r = r} m) (reaches_then n) = ap (λ (ns : List PlaceAt). place_in (test_at k t u p r) l ∷ ns) (one_way ds l m n)
one_way ds l (reaches_else {k = k} {t = t} {u = u} {p = p} {r = r} m) (reaches_else n) = ap (λ (ns : List PlaceAt). place_in (test_at k t u p r) l ∷ ns) (one_way ds l m n)
one_way ds l (reaches_found {k = k} {t = t} {x = x} {p = p} {r = r} m) (reaches_found n) = ap (λ (ns : List PlaceAt). place_in (lookup_at k t x p r) l ∷ ns) (one_way ds l m n)
one_way ds l (reaches_missing {k = k} {t = t} {x = x} {p = p} {r = r} m) (reaches_missing n) = ap (λ (ns : List PlaceAt). place_in (lookup_at k t x p r) l ∷ ns) (one_way ds l m n)

-- the role at a place is the one down the way
pub role_of_way : {ds : List LocatedDefinition} {p : Located} {behind : ℕ} {path : List ℕ} {role : Option (List ℕ)} (h : IsRoleAt ds p behind path role) → role ≡ role_down None (places_along None h.reaches)
role_of_way h = is_down (places_along None h.reaches) _ h.is_role

pub one_role : {ds : List LocatedDefinition} {p : Located} {behind : ℕ} {path : List ℕ} {a b : Option (List ℕ)} → IsRoleAt ds p behind path a → IsRoleAt ds p behind path b → a ≡ b
one_role {ds = ds} h g = role_of_way h ∙ ap (role_down None) (one_way ds None h.reaches g.reaches) ∙ sym (role_of_way g)

-- there is one at each place to which one comes
pub role_by : {ds : List LocatedDefinition} {p q : Located} {behind : ℕ} {path : List ℕ} {z : Standing} (a : Reaches ds (start behind) p path z q)
    → IsRoleAt ds p behind path (role_down None (places_along None a))
role_by {q = q} {z = z} a = record { standing = z; place = q; reaches = a; is_role = on_way (places_along None a) (way_first None a) }

pub some_role : {ds : List LocatedDefinition} {p q : Located} {behind : ℕ} {path : List ℕ} {z : Standing} → Reaches ds (start behind) p path z q
    → (role : Option (List ℕ)) × IsRoleAt ds p behind path role
some_role a = (role_down None (places_along None a), role_by a)
