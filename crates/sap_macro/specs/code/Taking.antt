-- Names that are taken, and where searches begin.
use Rattle.std.specs.Prelude.{◌≡◌, ◌<◌, ◌^◌, ℕ, true, false, List, [], ◌∷◌}
use Rattle.std.specs.List.{list_any}
use Rattle.std.specs.Option.{unwrap_or}
use Rattle.std.specs.Str.{bytes_eq}
use Rattle.sap_terms.specs.NameMap.{value_at}
use Rattle.sap_terms.specs.Variables.{is_known}
use Rattle.sap_macro.specs.NewNames.{candidate}

-- these names, the last one first, in front of others
abbrev pub latest_first : List (List ℕ) → List (List ℕ) → List (List ℕ)
latest_first [] others = others
latest_first (n ∷ ns) others = latest_first ns (n ∷ others)

-- the candidates of lower numbers are taken
abbrev pub AreBelow : List (List ℕ) → List ℕ → ℕ → Type 0
AreBelow taken x m = (k : ℕ) → 0 < k → k < m → is_known taken (candidate x k) ≡ true

-- the sets have these names, and each search begins where all lower candidates are taken
pub record IsKept (identifiers known chosen : List (List ℕ)) (begins : List (List ℕ × ℕ))
    : Type 0 where
  pub same : (x : List ℕ) → list_any (bytes_eq x) known ≡ is_known identifiers x
  pub positive : (x : List ℕ) → 0 < unwrap_or (value_at begins x) 1
  pub below : (x : List ℕ)
      → AreBelow (latest_first chosen identifiers) x (unwrap_or (value_at begins x) 1)

-- y is the candidate of this number, and the first that isn't taken
pub record IsFirst (taken : List (List ℕ)) (x y : List ℕ) (number : ℕ) : Type 0 where
  pub from_one : 0 < number
  pub few : number < 2 ^ 64
  pub is : y ≡ candidate x number
  pub free : is_known taken y ≡ false
  pub below : AreBelow taken x number
