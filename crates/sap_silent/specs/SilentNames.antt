-- The names of silent rules.
use Rattle.std.specs.Prelude.{ℕ, Bool, List, ◌||◌, nat_eq, codes}
use Rattle.std.specs.List.{starts_with}

-- the name is that of a silent rule: it begins with the word of one, behind which its place stands
abbrev pub is_silent_name : List ℕ → Bool
is_silent_name n =
    starts_with nat_eq n (codes "Nil_") || (starts_with nat_eq n (codes "Par_")
    || (starts_with nat_eq n (codes "Out_") || starts_with nat_eq n (codes "RepStart_")))
