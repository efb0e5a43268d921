-- How fresh names are told: by the word of what drew them and which one of that word they are.
use Rattle.std.specs.Prelude.{ℕ, Bool, false, ◌||◌, ◌+◌, List, [], ◌∷◌, ◌++◌, codes, decimal, flat_map, nat_eq, if◌then◌else◌}
use Rattle.std.specs.Str.{bytes_eq}

-- a name that a line drew, and its word: the name of the variable that it was made for, or the adversary's word
pub record Draw : Type 0 where
  pub name : ℕ
  pub word : List ℕ

abbrev pub draw : ℕ → List ℕ → Draw
draw n w = record { name = n; word = w }

-- the word of the names that the adversary makes
abbrev pub adversary_word : List ℕ
adversary_word = codes "adv"

-- the name is among these
abbrev pub is_drawn : List Draw → ℕ → Bool
is_drawn [] n = false
is_drawn (d ∷ ds) n = nat_eq n d.name || is_drawn ds n

-- one more; a name that was drawn keeps its word
abbrev pub with_draw : List Draw → Draw → List Draw
with_draw ds d = if is_drawn ds d.name then ds else ds ++ d ∷ []

-- how many of these have the word
abbrev pub count_of : List ℕ → List Draw → ℕ
count_of w [] = 0
count_of w (d ∷ ds) = (if bytes_eq d.word w then 1 else 0) + count_of w ds

-- ~word.k
abbrev pub numbered : List ℕ → ℕ → List ℕ
numbered w k = codes "~" ++ (w ++ (codes "." ++ decimal k))

-- what a name is called where these were drawn before, and those come; by its number where none drew it
abbrev pub called_behind : List Draw → List Draw → ℕ → List ℕ
called_behind before [] n = codes "~" ++ decimal n
called_behind before (d ∷ ds) n = if nat_eq n d.name then numbered d.word (count_of d.word before + 1)
    else called_behind (d ∷ before) ds n

-- what a name is called where these were drawn: ~word.k, the k-th name of its word
abbrev pub called : List Draw → ℕ → List ℕ
called ds n = called_behind [] ds n

-- what a drawn name is called, and its number
abbrev pub name_line : List Draw → Draw → List ℕ
name_line ds d = called ds d.name ++ (codes " = ~" ++ (decimal d.name ++ codes "\n"))

-- a line for each of these, in the order of drawing
abbrev pub names_text : List Draw → List ℕ
names_text ds = flat_map (name_line ds) ds
