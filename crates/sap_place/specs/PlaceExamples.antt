-- The places of a small process, and facts of control, by hand.
use Rattle.std.specs.Prelude.{ℕ, codes, true, List, [], ◌∷◌}
use Rattle.sap_terms.specs.AdversaryFacts.{linear}
use Rattle.sap_terms.specs.Tree.{variable}
use Rattle.sap_terms.specs.declared.fact.Fact.{Fact}
use Rattle.sap_terms.specs.declared.var.Sort.TheVariants.{Msg, Fresh}
use Rattle.sap_terms.specs.declared.var.Var.{Var}
use Rattle.sap_process.specs.Scopes.{lock_var}
use Rattle.sap_place.specs.declared.place.Form.{Form}
use Rattle.sap_place.specs.declared.place.Form.TheVariants.{Nil, Par, Rep, Lock, Unlock}
use Rattle.sap_place.specs.declared.place.Place.{Place}

-- a place with this path and form, these variables in scope and these open locks
abbrev pub place_with : List ℕ → Form → List Var → List ℕ → Place
place_with path form scope locks = record { path = path; form = form; scope = scope; open_locks = locks }

-- x and ~sapic_tag
abbrev pub x : Var
x = record { name = codes "x"; sort = Msg }

abbrev pub sapic_tag : Var
sapic_tag = record { name = codes "sapic_tag"; sort = Fresh }

-- the variables of the first two locks
abbrev pub two_scopes : List Var
two_scopes = lock_var 1 ∷ lock_var 2 ∷ []

-- the places of lock 'a' (1); lock 'b' (2); (unlock 'a' (1); 0 | !lock 'c' (3); 0): both locks are open from the parallel on, until
-- the first is unlocked
abbrev pub two_locks_places : List Place
two_locks_places =
    place_with [] Lock [] [] ∷ place_with (1 ∷ []) Lock (lock_var 1 ∷ []) (1 ∷ []) ∷ place_with (1 ∷ 1 ∷ []) Par two_scopes (1 ∷ 2 ∷ [])
    ∷ place_with (1 ∷ 1 ∷ 1 ∷ []) Unlock two_scopes (1 ∷ 2 ∷ []) ∷ place_with (1 ∷ 1 ∷ 1 ∷ 1 ∷ []) Nil two_scopes (2 ∷ [])
    ∷ place_with (1 ∷ 1 ∷ 2 ∷ []) Rep two_scopes (1 ∷ 2 ∷ []) ∷ place_with (1 ∷ 1 ∷ 2 ∷ 1 ∷ []) Lock two_scopes (1 ∷ 2 ∷ [])
    ∷ place_with (1 ∷ 1 ∷ 2 ∷ 1 ∷ 1 ∷ []) Nil (lock_var 1 ∷ lock_var 2 ∷ lock_var 3 ∷ []) (1 ∷ 2 ∷ 3 ∷ []) ∷ []

-- the same, but that the locks are listed the innermost first
abbrev pub two_locks_turned : List Place
two_locks_turned =
    place_with [] Lock [] [] ∷ place_with (1 ∷ []) Lock (lock_var 1 ∷ []) (1 ∷ []) ∷ place_with (1 ∷ 1 ∷ []) Par two_scopes (2 ∷ 1 ∷ [])
    ∷ place_with (1 ∷ 1 ∷ 1 ∷ []) Unlock two_scopes (2 ∷ 1 ∷ []) ∷ place_with (1 ∷ 1 ∷ 1 ∷ 1 ∷ []) Nil two_scopes (2 ∷ [])
    ∷ place_with (1 ∷ 1 ∷ 2 ∷ []) Rep two_scopes (2 ∷ 1 ∷ []) ∷ place_with (1 ∷ 1 ∷ 2 ∷ 1 ∷ []) Lock two_scopes (2 ∷ 1 ∷ [])
    ∷ place_with (1 ∷ 1 ∷ 2 ∷ 1 ∷ 1 ∷ []) Nil (lock_var 1 ∷ lock_var 2 ∷ lock_var 3 ∷ []) (3 ∷ 2 ∷ 1 ∷ []) ∷ []

-- the place 12 with x in scope, and the root
abbrev pub twelfth : Form → Place
twelfth f = place_with (1 ∷ 2 ∷ []) f (x ∷ []) []

abbrev pub at_root : Form → Place
at_root f = place_with [] f [] []

-- State_12(x), State_(), !Semi_12(x), Semi_12(x) and Semi_12(x, ~sapic_tag)
abbrev pub state_12 : Fact
state_12 = linear (codes "State_12") (variable x ∷ [])

abbrev pub state_root : Fact
state_root = linear (codes "State_") []

abbrev pub semi_12_stays : Fact
semi_12_stays = record { name = codes "Semi_12"; persistent = true; args = variable x ∷ [] }

abbrev pub semi_12_linear : Fact
semi_12_linear = linear (codes "Semi_12") (variable x ∷ [])

abbrev pub semi_12_waits : Fact
semi_12_waits = linear (codes "Semi_12") (variable x ∷ variable sapic_tag ∷ [])
