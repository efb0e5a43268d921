-- Items looked up by their places.
use Rattle.std.specs.Prelude.{ℕ, suc, List, [], ◌∷◌, Option, Some, None, option_map, if◌then◌else◌}
use Rattle.std.specs.Str.{bytes_eq}

-- the place, from 0, of the first item of this name, where each item is named so
abbrev pub index_of : {X : Type 0} → (X → List ℕ) → List X → List ℕ → Option ℕ
index_of name [] n = None
index_of name (x ∷ xs) n = if bytes_eq (name x) n then Some 0 else option_map suc (index_of name xs n)
