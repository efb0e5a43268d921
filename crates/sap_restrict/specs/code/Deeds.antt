-- What a fact says was done, as the guard reads it: by the number of its arguments, and then by its name.
use Rattle.std.specs.Prelude.{◌≡◌, ℕ, true, List, [], ◌∷◌, Option, Some, None, if◌then◌else◌}
use Rattle.std.specs.Str.{bytes_eq}
use Rattle.sap_terms.specs.FactNames.{delete_name, eq_name, event_name, in_event_name, init_name, insert_name, is_in_name, is_not_set_name, k_name, lock_name, not_eq_name, unlock_name}
use Rattle.sap_terms.specs.Reserved.{is_reserved}
use Rattle.sap_terms.specs.Tree.{Tree}
use Rattle.sap_terms.specs.declared.fact.Fact.{Fact}

-- what was done; `idle` where no restriction speaks of the fact
pub data Deed : Type 0 where
  starts : Deed
  happens : Deed
  knows : Tree → Deed
  takes : Tree → Deed
  deletes : Tree → Deed
  misses : Tree → Deed
  equals : Tree → Tree → Deed
  differs : Tree → Tree → Deed
  inserts : Tree → Tree → Deed
  finds : Tree → Tree → Deed
  locks : Tree → Tree → Deed
  unlocks : Tree → Tree → Deed
  idle : Deed

-- by a fact of this name with no argument
abbrev pub deed_none : List ℕ → Deed
deed_none n = if bytes_eq n init_name then starts else (if bytes_eq n event_name then happens else idle)

-- with one
abbrev pub deed_one : List ℕ → Tree → Deed
deed_one n x =
    if bytes_eq n k_name then knows x
    else (if bytes_eq n in_event_name then takes x else (if bytes_eq n delete_name then deletes x else (if bytes_eq n is_not_set_name then misses x else idle)))

-- with two
abbrev pub deed_two : List ℕ → Tree → Tree → Deed
deed_two n x y =
    if bytes_eq n eq_name then equals x y
    else (if bytes_eq n not_eq_name then differs x y else (if bytes_eq n insert_name then inserts x y else (if bytes_eq n is_in_name then finds x y else (if bytes_eq n lock_name then locks x y else (if bytes_eq n unlock_name then unlocks x y else idle)))))

-- with these
abbrev pub deed_of : List ℕ → List Tree → Deed
deed_of n [] = deed_none n
deed_of n (x ∷ []) = deed_one n x
deed_of n (x ∷ y ∷ []) = deed_two n x y
deed_of n _ = idle

-- by the fact
abbrev pub deed : Fact → Deed
deed f = deed_of f.name f.args

-- the first fact of a time that has a reserved name
abbrev pub reserved_in : List Fact → Option Fact
reserved_in [] = None
reserved_in (f ∷ p) = if is_reserved f.name then Some f else reserved_in p

-- f has another name, or it is the fact r
abbrev pub IsOnlyReserved : Fact → Fact → Type 0
IsOnlyReserved r f = is_reserved f.name ≡ true → f ≡ r

-- what the first one says was done
abbrev pub deed_by : Option Fact → Deed
deed_by None = idle
deed_by (Some f) = deed f
