-- Which one of its role a thread is.
use Rattle.std.specs.Prelude.{◌≡◌, ◌==◌, ◌<◌, ℕ, suc, List, [], ◌∷◌, Option, Some, if◌then◌else◌, filter, length, nat_eq, not, option_map, position, slice_get, slice_index_or}

-- who does something: a thread, and its role then
abbrev pub Player : Type 0
Player = ℕ × ℕ

-- the threads that do something in the role, in order, each as often as it does
abbrev pub threads_in : ℕ → List Player → List ℕ
threads_in r [] = []
threads_in r (d ∷ ds) = if d.1 == r then d.0 ∷ threads_in r ds else threads_in r ds

-- each of these once, where it first stands
abbrev pub each_once : List ℕ → List ℕ
each_once [] = []
each_once (t ∷ ts) = t ∷ filter (λ u. not (u == t)) (each_once ts)

-- of the threads that do something in the role, by the order in which they first do, it is the one of this number, from 1 on
abbrev pub IsRoleNumber : List Player → ℕ → ℕ → ℕ → Type 0
IsRoleNumber ds r t k = (j : ℕ) × (k ≡ suc j) × (slice_get (each_once (threads_in r ds)) j ≡ Some t)

-- which one of its role it is, if it is one
abbrev pub role_number : List Player → ℕ → ℕ → Option ℕ
role_number ds r t = option_map suc (position (nat_eq t) (each_once (threads_in r ds)))

-- these lists have, for each of so many roles, the threads that do something in it, each once, in that order
abbrev pub AreRoleNumbers : List Player → List (List ℕ) → Type 0
AreRoleNumbers ds ns = (r : ℕ) → r < length ns → slice_index_or ns r [] ≡ each_once (threads_in r ds)
