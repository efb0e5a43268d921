-- What a formula made ready says where slots hold what they hold: it is tested by going through the facts that fit its guards.
use Rattle.std.specs.Prelude.{ℕ, Bool, true, false, not, ◌&&◌, ◌||◌, nat_eq, nat_lt, List, [], ◌∷◌, Option, Some, None}
use Rattle.std.specs.List.{list_any, list_all}
use Rattle.sap_formula.specs.Truth.{facts_at}
use Rattle.sap_match.specs.Atoms.{Held}
use Rattle.sap_match.specs.Matched.{agreed, fits_atom, guarded, is_there, time_at}
use Rattle.sap_search.specs.Plan.{Guard, Plan, alike, always, and_then, at_once, before, equals, if_then, inverse, or_else, search, shows}
use Rattle.sap_terms.specs.Signature.{same_bool}
use Rattle.sap_terms.specs.Trace.{Trace}

-- each has the property where d is true, some one where d is false
abbrev pub any_or_all : {X : Type 0} → Bool → (X → Bool) → List X → Bool
any_or_all false p xs = list_any p xs
any_or_all true p xs = list_all p xs

-- what f says of the value; d where there is none
abbrev pub with_some : {X : Type 0} → Option X → Bool → (X → Bool) → Bool
with_some None d f = d
with_some (Some x) d f = f x

-- each choice of a fact for each guard, in turn, that fits leads to true, or some one does
abbrev pub searched : Bool → List Guard → List Held → (List Held → Bool) → Bool
searched d [] held leaf = leaf held
searched d (g ∷ gs) held leaf = any_or_all d (λ s. with_some (guarded g.atom s.fact s.time held) d (λ h. searched d gs h leaf)) g.facts

-- the test of a formula made ready
abbrev pub planned : Trace → Plan → List Held → Bool
planned tr (always b) held = b
planned tr (shows n a) held = list_any (fits_atom n a held) (facts_at tr (time_at a.time held))
planned tr (equals s t l r) held = is_there (agreed s t (record { left = l; right = r }) held)
planned tr (at_once i j) held = nat_eq (time_at i held) (time_at j held)
planned tr (before i j) held = nat_lt (time_at i held) (time_at j held)
planned tr (inverse p) held = not (planned tr p held)
planned tr (and_then p q) held = planned tr p held && planned tr q held
planned tr (or_else p q) held = planned tr p held || planned tr q held
planned tr (if_then p q) held = not (planned tr p held) || planned tr q held
planned tr (alike p q) held = same_bool (planned tr p held) (planned tr q held)
planned tr (search d gs p) held = searched d gs held (planned tr p)
