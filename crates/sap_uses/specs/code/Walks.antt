-- The walk for the first use with a large argument: sizes stand for terms, and names without parameters for their bodies.
use Rattle.std.specs.Prelude.{◌≡◌, ℕ, Bool, ◌+◌, List, [], ◌∷◌, map, nat_lt, Option, None, Some, if◌then◌else◌}
use Rattle.std.specs.List.{list_any}
use Rattle.std.specs.Option.{option_or}
use Rattle.std.specs.Str.{bytes_eq}
use Rattle.sap_terms.specs.Tree.{Tree, variable, public, fresh, apply, Trees, none, more}
use Rattle.sap_terms.specs.declared.limits.TheConstants.{MOST_TERM_NODES}
use Rattle.sap_macro.specs.Walked.{Cost, cost_of, steps}
use Rattle.sap_uses.specs.Sizes.{cut}
use Rattle.sap_macro.specs.Written.{Written, nil, call, parallel, replicated, act, test, lookup, Definition}

-- sizes of names
abbrev pub Sizes : Type 0
Sizes = List ℕ → ℕ

abbrev mutual
  -- how many nodes a tree has, where names have these sizes
  pub weight : Sizes → Tree → ℕ
  weight z (variable v) = z v.name
  weight z (public n) = 1
  weight z (fresh k) = 1
  weight z (apply f ts) = weights z ts + 1

  -- how many they have together
  pub weights : Sizes → Trees → ℕ
  weights z none = 0
  weights z (more t ts) = weight z t + weights z ts

-- one of these has more nodes than a term may have
abbrev pub has_heavy : Sizes → List Tree → Bool
has_heavy z ts = list_any (λ t. nat_lt MOST_TERM_NODES (cut (weight z t))) ts

-- the size of the argument of a parameter, 1 where it has none
abbrev pub put_sizes : List (List ℕ) → List ℕ → Sizes
put_sizes [] ns x = 1
put_sizes (y ∷ ys) [] x = 1
put_sizes (y ∷ ys) (n ∷ ns) x = if bytes_eq y x then n else put_sizes ys ns x

-- the sizes of these
abbrev pub sizes_of : Sizes → List Tree → List ℕ
sizes_of z ts = map (λ t. cut (weight z t)) ts

-- what a walk finds at a use, by the sizes of names, the use's name and its arguments
abbrev pub Heavy : Type 0
Heavy = Sizes → List ℕ → List Tree → Option (List ℕ)

-- and in a process
abbrev pub heavy_in : Heavy → Sizes → Written → Option (List ℕ)
heavy_in m z nil = None
heavy_in m z (call f ts) = m z f ts
heavy_in m z (parallel p q) = option_or (heavy_in m z p) (heavy_in m z q)
heavy_in m z (replicated p) = heavy_in m z p
heavy_in m z (act a p) = heavy_in m z p
heavy_in m z (test t u p q) = option_or (heavy_in m z p) (heavy_in m z q)
heavy_in m z (lookup t x p q) = option_or (heavy_in m z p) (heavy_in m z q)

-- at a use of a definition with parameters
abbrev pub heavy_use : Heavy → Definition → Sizes → List Tree → Option (List ℕ)
heavy_use m d z ts =
    if has_heavy z ts then Some d.name else heavy_in m (put_sizes d.params (sizes_of z ts)) d.body

-- at a use of one with these parameters
abbrev pub heavy_at : Heavy → Definition → List (List ℕ) → Sizes → List Tree → Option (List ℕ)
heavy_at m d [] z ts = heavy_in m z d.body
heavy_at m d (x ∷ xs) z ts = heavy_use m d z ts

-- behind one more definition, and behind these
abbrev pub with_heavy : Heavy → Definition → Heavy
with_heavy m d z f ts = if bytes_eq d.name f then heavy_at m d d.params z ts else m z f ts

abbrev pub none_heavy : Heavy
none_heavy z f ts = None

abbrev pub heavy_after : Heavy → List Definition → Heavy
heavy_after m [] = m
heavy_after m (d ∷ ds) = heavy_after (with_heavy m d) ds

abbrev pub heavy_of : List Definition → Heavy
heavy_of ds = heavy_after none_heavy ds

-- what the walk finds in a process behind these definitions
unfoldable pub heavy : List Definition → Sizes → Written → Option (List ℕ)
heavy ds z w = heavy_in (heavy_of ds) z w

-- the name of a definition stands for its body, all of whose names are understood
pub record IsResolvedBy (m : Heavy) (c : Cost) (d : Definition) : Type 0 where
  pub found : (z : Sizes) (ts : List Tree) → m z d.name ts ≡ heavy_at m d d.params z ts
  pub cost : c d.name ≡ steps c d.body

abbrev pub IsResolved : List Definition → Definition → Type 0
IsResolved ds d = IsResolvedBy (heavy_of ds) (cost_of ds) d

-- a name that nothing defines leads to nothing
pub record IsUnknown (ds : List Definition) (f : List ℕ) : Type 0 where
  pub found : (z : Sizes) (ts : List Tree) → heavy_of ds z f ts ≡ None
