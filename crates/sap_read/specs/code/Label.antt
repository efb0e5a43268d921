-- What the program keeps of names, and where the file's process is.
use Rattle.std.specs.Prelude.{◌≡◌, ℕ, ◌+◌, Bool, List, ◌∷◌, Option, Some, None, map, drop, slice_get}
use Rattle.std.specs.List.{list_any}
use Rattle.std.specs.Str.{bytes_eq}
use Rattle.sap_read.specs.declared.entry.Entry.{Entry}
use Rattle.sap_read.specs.Causes.{unlabelled, is_among, first_taken}
use Rattle.sap_read.specs.Entries.{body}

-- at this index is the first process without a label from that index on
abbrev pub IsProcessAt : List Entry → ℕ → ℕ → Type 0
IsProcessAt es from k =
    (e : Entry) × (slice_get es k ≡ Some e) × (unlabelled (map body (drop from es)) ≡ body e ∷ unlabelled (map body (drop (k + 1) es)))

-- the name at this index
abbrev pub name_there : List (List ℕ) → Option ℕ → Option (List ℕ)
name_there names None = None
name_there names (Some k) = slice_get names k

-- these are the names from this index on, and the first of them that is taken is the one at that index
pub record AreSeen (is_reserved : List ℕ → Bool) (names : List (List ℕ)) (k : ℕ) (behind : List (List ℕ)) (found : Option ℕ) : Type 0 where
  pub seen : (x : List ℕ) → list_any (bytes_eq x) behind ≡ is_among (drop k names) x
  pub first : first_taken is_reserved (drop k names) ≡ name_there names found
