-- Lists of the same elements, each as often.
use Rattle.std.specs.Prelude.{◌≡◌, ℕ, List}
use Rattle.std.specs.List.{sum_by}

-- the same elements, each as often, in any order: whatever each weighs, all weigh the same
abbrev pub AreAlike : {A : Type 0} → List A → List A → Type 0
AreAlike {A} xs ys = (w : A → ℕ) → sum_by w xs ≡ sum_by w ys
