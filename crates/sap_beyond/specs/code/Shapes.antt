-- Shapes of processes: how many processes stand below each place. The numbers of places and their paths are those of the shape.
use Rattle.std.specs.Prelude.{ℕ, ◌+◌, max, List, [], ◌∷◌, ◌++◌, if◌then◌else◌}
use Rattle.std.specs.Str.{bytes_eq}
use Rattle.sap_process.specs.Proc as whole
use Rattle.sap_process.specs.Proc.{Proc}
use Rattle.sap_macro.specs.Written.{Written, nil, call, parallel, replicated, act, test, lookup, Definition}

pub data Shape : Type 0 where
  leaf : Shape
  one : Shape → Shape
  two : Shape → Shape → Shape

abbrev pub shape : Proc → Shape
shape whole.nil = leaf
shape (whole.parallel p q) = two (shape p) (shape q)
shape (whole.replicated p) = one (shape p)
shape (whole.act a p) = one (shape p)
shape (whole.test t u p q) = two (shape p) (shape q)
shape (whole.lookup t x p q) = two (shape p) (shape q)

-- the shape of what is written, where names stand for these
abbrev pub shaped : (List ℕ → Shape) → Written → Shape
shaped c nil = leaf
shaped c (call f ts) = c f
shaped c (parallel p q) = two (shaped c p) (shaped c q)
shaped c (replicated p) = one (shaped c p)
shaped c (act a p) = one (shaped c p)
shaped c (test t u p q) = two (shaped c p) (shaped c q)
shaped c (lookup t x p q) = two (shaped c p) (shaped c q)

-- what is kept of names behind one more definition, by what a body comes to, and behind these
abbrev pub with_kept : {A : Type 0} → ((List ℕ → A) → Written → A) → (List ℕ → A) → Definition → List ℕ → A
with_kept come c d f = if bytes_eq d.name f then come c d.body else c f

abbrev pub kept_after : {A : Type 0} → ((List ℕ → A) → Written → A) → (List ℕ → A) → List Definition → List ℕ → A
kept_after come c [] = c
kept_after come c (d ∷ ds) = kept_after come (with_kept come c d) ds

-- which shapes names stand for
abbrev pub stands : List Definition → List ℕ → Shape
stands ds = kept_after shaped (λ f. leaf) ds

abbrev pub shape_in : List Definition → Written → Shape
shape_in ds w = shaped (stands ds) w

-- how many places a shape has, and how many levels
abbrev pub place_count : Shape → ℕ
place_count leaf = 1
place_count (one s) = place_count s + 1
place_count (two s t) = place_count s + place_count t + 1

abbrev pub depth : Shape → ℕ
depth leaf = 1
depth (one s) = depth s + 1
depth (two s t) = max (depth s) (depth t) + 1

-- the paths of its places in preorder, below this one
abbrev pub paths_from : List ℕ → Shape → List (List ℕ)
paths_from path leaf = path ∷ []
paths_from path (one s) = path ∷ paths_from (path ++ 1 ∷ []) s
paths_from path (two s t) = path ∷ (paths_from (path ++ 1 ∷ []) s ++ paths_from (path ++ 2 ∷ []) t)
