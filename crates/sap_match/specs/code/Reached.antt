-- What the code answers of a match: the place in the marks up to which they were read, and what the slots hold.
use Rattle.std.specs.Prelude.{◌≡◌, ℕ, drop, List, Option, Some, None, option_map}
use Rattle.sap_match.specs.declared.agreeing.Places.{Places}
use Rattle.sap_match.specs.Atoms.{Held}
use Rattle.sap_match.specs.Matched.{State, Two}

-- none, or what is left of the marks from this place on and what is held
abbrev pub IsReached : List (Option ℕ) → List Held → Option ℕ → Option State → Type 0
IsReached marks held None r = r ≡ None
IsReached marks held (Some at) r = r ≡ Some (record { marks = drop at marks; held = held })

-- what is left of the marks
abbrev pub left_marks : Option State → Option (List (Option ℕ))
left_marks o = option_map (λ s. s.marks) o

-- what is left of the marks of two terms, from these places on
abbrev pub two_at : List (Option ℕ) → List (Option ℕ) → Places → Two
two_at left right p = record { left = drop p.left left; right = drop p.right right }
