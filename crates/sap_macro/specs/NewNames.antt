-- New names for what a definition binds.
use Rattle.std.specs.Prelude.{◌≡◌, ◌<◌, ℕ, zero, suc, ◌+◌, true, false, List, [], ◌∷◌, ◌++◌, length, codes, decimal, if◌then◌else◌}
use Rattle.std.specs.Str.{bytes_eq}
use Rattle.sap_terms.specs.Variables.{is_known}

-- the candidates for a name, from 1 on; names that begin with `sapic_` are reserved
abbrev pub candidate : List ℕ → ℕ → List ℕ
candidate x m = if bytes_eq x (codes "sapic") then x ++ decimal m else x ++ (codes "_" ++ decimal m)

-- y is the first candidate that isn't taken
pub record IsNewName (taken : List (List ℕ)) (x y : List ℕ) : Type 0 where
  pub number : ℕ
  pub from_one : 0 < number
  pub is : y ≡ candidate x number
  pub free : is_known taken y ≡ false
  pub least : (k : ℕ) → 0 < k → k < number → is_known taken (candidate x k) ≡ true

-- a name that is longer than each of these
abbrev pub longer_than : List (List ℕ) → List ℕ
longer_than [] = codes "_"
longer_than (n ∷ ns) = codes "_" ++ (n ++ longer_than ns)

-- the first that isn't taken of so many candidates from this number on; where all are taken, a name that is longer than each
abbrev pub first_free : ℕ → ℕ → List (List ℕ) → List ℕ → List ℕ
first_free zero m taken x = longer_than taken
first_free (suc k) m taken x =
    if is_known taken (candidate x m) then first_free k (m + 1) taken x else candidate x m

-- the new name for x: of fewer names than 2^64 - 1 not all candidates are taken, so it is the first that isn't
abbrev pub new_name : List (List ℕ) → List ℕ → List ℕ
new_name taken x = first_free (length taken + 1) 1 taken x

-- the new names of these, which are chosen in order
abbrev pub renamed : List (List ℕ) → List (List ℕ) → List ℕ → List ℕ
renamed taken [] x = x
renamed taken (y ∷ ys) x =
    if bytes_eq y x then new_name taken y else renamed (new_name taken y ∷ taken) ys x

-- what is taken then
abbrev pub taken_after : List (List ℕ) → List (List ℕ) → List (List ℕ)
taken_after taken [] = taken
taken_after taken (y ∷ ys) = taken_after (new_name taken y ∷ taken) ys

-- each of these names once, where it first stands, but for those that are known
abbrev pub once : List (List ℕ) → List (List ℕ) → List (List ℕ)
once known [] = []
once known (n ∷ ns) = if is_known known n then once known ns else n ∷ once (n ∷ known) ns
