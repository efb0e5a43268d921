-- Why uses of definitions can't be expanded.
use Rattle.std.specs.Prelude.{ℕ, Bool, List, [], ◌∷◌, map, nat_lt, Option, None, Some, if◌then◌else◌}
use Rattle.std.specs.List.{list_any}
use Rattle.std.specs.Option.{option_or}
use Rattle.std.specs.Str.{bytes_eq}
use Rattle.sap_terms.specs.Choice.{Choice, instance}
use Rattle.sap_terms.specs.Tree.{Tree, node_count}
use Rattle.sap_terms.specs.declared.limits.TheConstants.{MOST_TERM_NODES}
use Rattle.sap_macro.specs.Expansion.{plain, plain_bodies, put, unchanged}
use Rattle.sap_macro.specs.Written.{Written, nil, call, parallel, replicated, act, test, lookup, Definition}

-- the name of the first use that has a large argument, for a use by its name and its arguments: it, or one that it leads to
abbrev pub Large : Type 0
Large = List ℕ → List Tree → Option (List ℕ)

-- the first in a process in preorder, its variables replaced by the choice
abbrev pub large_in : Large → Choice → Written → Option (List ℕ)
large_in m r nil = None
large_in m r (call f ts) = m f (map (instance r) ts)
large_in m r (parallel p q) = option_or (large_in m r p) (large_in m r q)
large_in m r (replicated p) = large_in m r p
large_in m r (act a p) = large_in m r p
large_in m r (test t u p q) = option_or (large_in m r p) (large_in m r q)
large_in m r (lookup t x p q) = option_or (large_in m r p) (large_in m r q)

-- one of these terms has more nodes than a term may have
abbrev pub has_large : List Tree → Bool
has_large ts = list_any (λ t. nat_lt MOST_TERM_NODES (node_count t)) ts

-- a use of a definition on these: itself, else the first in the body, parameters replaced by the arguments
abbrev pub large_at : Large → Definition → List Tree → Option (List ℕ)
large_at m d ts =
    if has_large ts then Some d.name else large_in m (put d.params ts unchanged) d.body

-- this definition too; what nothing defines leads to none
abbrev pub with_large : Large → Definition → Large
with_large m d f ts = if bytes_eq d.name f then large_at m d ts else m f ts

abbrev pub none_large : Large
none_large f ts = None

-- behind these definitions; each body knows those before it
abbrev pub large_after : Large → List Definition → Large
large_after m [] = m
large_after m (d ∷ ds) = large_after (with_large m d) ds

-- the name of the first use, in preorder of the expansion, that has an argument with more nodes than a term may have
abbrev pub first_large : List Definition → Written → Option (List ℕ)
first_large ds p = large_in (large_after none_large (plain_bodies call ds)) unchanged (plain ds p)
