-- The inner actions of rules, read off what their steps show.
use Rattle.std.specs.Prelude.{ℕ, List, [], ◌∷◌, Option, Some, None, codes, if◌then◌else◌}
use Rattle.std.specs.List.{filter_map, flat_map}
use Rattle.std.specs.Str.{bytes_eq}
use Rattle.sap_terms.specs.AdversaryFacts.{linear}
use Rattle.sap_terms.specs.Trace.{Trace}
use Rattle.sap_terms.specs.Tree.{Tree, public, fresh}
use Rattle.sap_terms.specs.declared.fact.Fact.{Fact}
use Rattle.sap_runs.specs.Inner.{InnerAction, equal, different, found, missing, inserted, deleted, locked, unlocked}

-- what a fact with one argument says by its name
abbrev pub inner_of_one : List ℕ → Tree → Option InnerAction
inner_of_one n t = if bytes_eq n (codes "IsNotSet") then Some (missing t)
    else if bytes_eq n (codes "Delete") then Some (deleted t) else None

-- the same with two arguments; a lock's label, which comes first, is left out
abbrev pub inner_of_two : List ℕ → Tree → Tree → Option InnerAction
inner_of_two n t u =
    if bytes_eq n (codes "Eq") then Some (equal t u)
    else if bytes_eq n (codes "NotEq") then Some (different t u)
    else if bytes_eq n (codes "IsIn") then Some (found t u)
    else if bytes_eq n (codes "Insert") then Some (inserted t u)
    else if bytes_eq n (codes "Lock") then Some (locked u)
    else if bytes_eq n (codes "Unlock") then Some (unlocked u) else None

-- the inner action that a fact says, if it says one
abbrev pub inner_of : Fact → Option InnerAction
inner_of f = of f.args where
  of : List Tree → Option InnerAction
  of (t ∷ []) = inner_of_one f.name t
  of (t ∷ u ∷ []) = inner_of_two f.name t u
  of _ = None

-- the inner actions that a full trace shows, in order
abbrev pub inner_actions : Trace → List InnerAction
inner_actions full = flat_map (filter_map inner_of) full

-- the key of the example
abbrev pub k : Tree
k = public (codes "k")

-- and the value
abbrev pub v : Tree
v = public (codes "v")

-- a time that shows this one linear fact
abbrev shows_one : List ℕ → List Tree → List Fact
shows_one name args = linear name args ∷ []

-- a full trace for an example: of the store, of branches, of an event, of locks and of the adversary
abbrev pub shown_by_hand : Trace
shown_by_hand =
    shows_one (codes "Insert") (k ∷ v ∷ []) ∷ [] ∷ shows_one (codes "IsIn") (k ∷ v ∷ [])
    ∷ shows_one (codes "Eq") (k ∷ k ∷ []) ∷ shows_one (codes "NotEq") (k ∷ v ∷ [])
    ∷ (linear (codes "Event") [] ∷ linear (codes "A") (k ∷ []) ∷ [])
    ∷ shows_one (codes "Lock") (fresh 1 ∷ k ∷ []) ∷ shows_one (codes "Unlock") (fresh 1 ∷ v ∷ [])
    ∷ shows_one (codes "Delete") (k ∷ []) ∷ shows_one (codes "IsNotSet") (v ∷ [])
    ∷ shows_one (codes "K") (k ∷ []) ∷ []

-- and what it did inside
abbrev pub inner_by_hand : List InnerAction
inner_by_hand =
    inserted k v ∷ found k v ∷ equal k k ∷ different k v ∷ locked k ∷ unlocked v ∷ deleted k
    ∷ missing v ∷ []
