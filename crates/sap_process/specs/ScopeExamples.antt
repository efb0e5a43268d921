-- Small processes, to try what is in scope, which locks are open, and instances by hand.
use Rattle.std.specs.Prelude.{ℕ, codes, List, [], ◌∷◌, Option, if◌then◌else◌}
use Rattle.std.specs.Option.{option_map}
use Rattle.std.specs.Str.{bytes_eq}
use Rattle.sap_terms.specs.Choice.{Choice}
use Rattle.sap_terms.specs.Tree.{Tree, variable}
use Rattle.sap_terms.specs.declared.var.Sort.{Sort}
use Rattle.sap_terms.specs.declared.var.Sort.TheVariants.{Msg, Fresh, Pub}
use Rattle.sap_terms.specs.declared.var.Var.{Var}
use Rattle.sap_process.specs.Action.{new, send, receive, input, event, insert, delete, lock, unlock, embedded}
use Rattle.sap_process.specs.Places.{place, place_at}
use Rattle.sap_process.specs.Proc.{Proc, nil, parallel, replicated, act, test, lookup}
use Rattle.sap_process.specs.Scopes.{lock_scope, lock_scope_below, lock_var, spot, Spot}
use Rattle.sap_process.specs.Sites.{Site, above_of}
use Rattle.sap_process.specs.StepExamples.{a, b, c, x, var_x, fresh_x, pair, left_fact, right_fact, shown_fact}

-- the labels of the locks that are open at the path, where a place is there
abbrev pub open_at : Proc → List ℕ → Option (List ℕ)
open_at p path = option_map (λ (s : Spot). s.above.open_locks) (place_at lock_scope_below (lock_scope [] []) p path)

-- the variables in scope there, those of locks included
abbrev pub known_at : Proc → List ℕ → Option (List Var)
known_at p path = option_map (λ (s : Spot). s.above.scope) (place_at lock_scope_below (lock_scope [] []) p path)

-- the variable of this sort with the name y or z, and that of the lock with label 7
abbrev pub y_of : Sort → Var
y_of s = record { name = codes "y"; sort = s }

abbrev pub z_of : Sort → Var
z_of s = record { name = codes "z"; sort = s }

abbrev pub seventh_lock : Var
seventh_lock = record { name = codes "sapic_lock7"; sort = Fresh }

-- lock 'a' (1); lock 'b' (2); (unlock 'a' (1); 0 | !lock 'c' (3); 0)
abbrev pub two_locks : Proc
two_locks = act (lock a 1) (act (lock b 2) (parallel (act (unlock a 1) nil) (replicated (act (lock c 3) nil))))

-- lock 'a' (1); unlock 'a' (1); lock 'a' (3); lock 'a' (2); unlock 'a' (2); unlock 'a' (1); 0
abbrev pub locked_again : Proc
locked_again = act (lock a 1) (act (unlock a 1) (act (lock a 3) (act (lock a 2) (act (unlock a 2) (act (unlock a 1) nil)))))

-- new x; lock 'a' (7); lookup 'a' as ~y in in(<x,z>); 0 else [L($z)]-->[M(x)]; 0
abbrev pub binding : Proc
binding =
    act (new x) (act (lock a 7) (lookup a (y_of Fresh)
    (act (input (pair var_x (variable (z_of Msg)))) nil)
    (act (embedded (left_fact (variable (z_of Pub)) ∷ []) [] (right_fact var_x ∷ [])) nil)))

-- new x; lock 'a' (7); if x = 'a' then lookup 'a' as ~y in event A(y) else [L($z)]-->[M(x)]; 0 else in(<x,z>); unlock 'a' (7); 0
abbrev pub worked : Proc
worked =
    act (new x) (act (lock a 7) (test var_x a
    (lookup a (y_of Fresh) (act (event (shown_fact (variable (y_of Msg)))) nil)
    (act (embedded (left_fact (variable (z_of Pub)) ∷ []) [] (right_fact var_x ∷ [])) nil))
    (act (input (pair var_x (variable (z_of Msg)))) (act (unlock a 7) nil))))

-- its places, in preorder, each with the process there, from its root on: the lookup in the first branch of the `if`, and the input
-- in the second one
abbrev pub looked_up : Proc
looked_up =
    lookup a (y_of Fresh) (act (event (shown_fact (variable (y_of Msg)))) nil)
    (act (embedded (left_fact (variable (z_of Pub)) ∷ []) [] (right_fact var_x ∷ [])) nil)

abbrev pub taken_in : Proc
taken_in = act (input (pair var_x (variable (z_of Msg)))) (act (unlock a 7) nil)

-- each with the variables in scope, that of the lock among them, and the locks that are open
abbrev pub worked_spots : List Spot
worked_spots =
    spot [] [] [] worked
    ∷ spot (1 ∷ []) (fresh_x ∷ []) [] (act (lock a 7) (test var_x a looked_up taken_in))
    ∷ spot (1 ∷ 1 ∷ []) (fresh_x ∷ lock_var 7 ∷ []) (7 ∷ []) (test var_x a looked_up taken_in)
    ∷ spot (1 ∷ 1 ∷ 1 ∷ []) (fresh_x ∷ lock_var 7 ∷ []) (7 ∷ []) looked_up
    ∷ spot (1 ∷ 1 ∷ 1 ∷ 1 ∷ []) (fresh_x ∷ lock_var 7 ∷ y_of Msg ∷ []) (7 ∷ []) (act (event (shown_fact (variable (y_of Msg)))) nil)
    ∷ spot (1 ∷ 1 ∷ 1 ∷ 1 ∷ 1 ∷ []) (fresh_x ∷ lock_var 7 ∷ y_of Msg ∷ []) (7 ∷ []) nil
    ∷ spot (1 ∷ 1 ∷ 1 ∷ 2 ∷ []) (fresh_x ∷ lock_var 7 ∷ []) (7 ∷ []) (act (embedded (left_fact (variable (z_of Pub)) ∷ []) [] (right_fact var_x ∷ [])) nil)
    ∷ spot (1 ∷ 1 ∷ 1 ∷ 2 ∷ 1 ∷ []) (fresh_x ∷ lock_var 7 ∷ z_of Pub ∷ []) (7 ∷ []) nil
    ∷ spot (1 ∷ 1 ∷ 2 ∷ []) (fresh_x ∷ lock_var 7 ∷ []) (7 ∷ []) taken_in
    ∷ spot (1 ∷ 1 ∷ 2 ∷ 1 ∷ []) (fresh_x ∷ lock_var 7 ∷ z_of Msg ∷ []) (7 ∷ []) (act (unlock a 7) nil)
    ∷ spot (1 ∷ 1 ∷ 2 ∷ 1 ∷ 1 ∷ []) (fresh_x ∷ lock_var 7 ∷ z_of Msg ∷ []) [] nil ∷ []

-- a place with the variables that are bound above it, and how many locks are set there
abbrev pub site_at : List ℕ → List Var → ℕ → Proc → Site
site_at path v k p = place path (above_of v k) p

-- each with the variables that are bound above, and the number of locks that are set there, whether they are open or not
abbrev pub worked_sites : List Site
worked_sites =
    site_at [] [] 0 worked
    ∷ site_at (1 ∷ []) (fresh_x ∷ []) 0 (act (lock a 7) (test var_x a looked_up taken_in))
    ∷ site_at (1 ∷ 1 ∷ []) (fresh_x ∷ []) 1 (test var_x a looked_up taken_in)
    ∷ site_at (1 ∷ 1 ∷ 1 ∷ []) (fresh_x ∷ []) 1 looked_up
    ∷ site_at (1 ∷ 1 ∷ 1 ∷ 1 ∷ []) (fresh_x ∷ y_of Msg ∷ []) 1 (act (event (shown_fact (variable (y_of Msg)))) nil)
    ∷ site_at (1 ∷ 1 ∷ 1 ∷ 1 ∷ 1 ∷ []) (fresh_x ∷ y_of Msg ∷ []) 1 nil
    ∷ site_at (1 ∷ 1 ∷ 1 ∷ 2 ∷ []) (fresh_x ∷ []) 1 (act (embedded (left_fact (variable (z_of Pub)) ∷ []) [] (right_fact var_x ∷ [])) nil)
    ∷ site_at (1 ∷ 1 ∷ 1 ∷ 2 ∷ 1 ∷ []) (fresh_x ∷ z_of Pub ∷ []) 1 nil
    ∷ site_at (1 ∷ 1 ∷ 2 ∷ []) (fresh_x ∷ []) 1 taken_in
    ∷ site_at (1 ∷ 1 ∷ 2 ∷ 1 ∷ []) (fresh_x ∷ z_of Msg ∷ []) 1 (act (unlock a 7) nil)
    ∷ site_at (1 ∷ 1 ∷ 2 ∷ 1 ∷ 1 ∷ []) (fresh_x ∷ z_of Msg ∷ []) 1 nil ∷ []

-- the choice of this term for x, of whatever sort
abbrev pub x_is : Tree → Choice
x_is t v = if bytes_eq v.name (codes "x") then t else variable v

-- what this process writes everywhere, it writes in each kind of process but `new`, `out`, `in` of one term and `lookup`
abbrev pub everywhere : Tree → Proc
everywhere t =
    parallel (replicated (act (send t t) (act (receive t t) nil))) (test t t (act (insert t t) (act (delete t) (act (event (shown_fact t)) nil)))
    (act (lock t 3) (act (unlock t 4) (act (embedded (left_fact t ∷ []) (shown_fact t ∷ []) (right_fact t ∷ [])) nil))))
