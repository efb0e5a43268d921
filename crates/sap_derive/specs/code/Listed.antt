-- Numbers in a list.
use Rattle.std.specs.Prelude.{◌≡◌, ◌<◌, ◌≤◌, ℕ, List, slice_get, Some}

-- the number stands in the list
abbrev pub IsListed : List ℕ → ℕ → Type 0
IsListed items n = (k : ℕ) × (slice_get items k ≡ Some n)

-- so do those of the others that stand before this place
abbrev pub AreListedBefore : List ℕ → List ℕ → ℕ → Type 0
AreListedBefore items ns place = (k n : ℕ) → k < place → slice_get ns k ≡ Some n → IsListed items n

-- so do all of these
abbrev pub AreListed : List ℕ → List ℕ → Type 0
AreListed items ns = (k n : ℕ) → slice_get ns k ≡ Some n → IsListed items n

-- no number stands twice in the list
abbrev pub StandOnce : List ℕ → Type 0
StandOnce items = (i j n : ℕ) → slice_get items i ≡ Some n → slice_get items j ≡ Some n → i ≡ j

-- each number that stands in the list has a place, the first where it stands
abbrev pub TellPlaces : List ℕ → List ℕ → Type 0
TellPlaces places items =
    (n k : ℕ) → slice_get items k ≡ Some n → (p : ℕ) × (p ≤ k) × (slice_get places n ≡ Some p) × (slice_get items p ≡ Some n)

-- the numbers ascend
abbrev pub Ascend : List ℕ → Type 0
Ascend items = (i j m n : ℕ) → i ≤ j → slice_get items i ≡ Some m → slice_get items j ≡ Some n → m ≤ n
