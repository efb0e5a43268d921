-- Why definitions can't be used as they are written.
use Rattle.std.specs.Prelude.{ℕ, ◌==◌, List, [], ◌∷◌, ◌++◌, length, Option, None, Some, if◌then◌else◌}
use Rattle.std.specs.Option.{option_or}
use Rattle.std.specs.Str.{bytes_eq}
use Rattle.sap_terms.specs.Tree.{Tree}
use Rattle.sap_terms.specs.Variables.{is_known}
use Rattle.sap_macro.specs.Written.{Written, nil, call, parallel, replicated, act, test, lookup, Definition}

-- the first name that stands again behind itself
abbrev pub first_twice : List (List ℕ) → Option (List ℕ)
first_twice [] = None
first_twice (x ∷ xs) = if is_known xs x then Some x else first_twice xs

-- the first such parameter, of the first definition that has one
abbrev pub first_parameter_twice : List Definition → Option (List ℕ)
first_parameter_twice [] = None
first_parameter_twice (d ∷ ds) = option_or (first_twice d.params) (first_parameter_twice ds)

-- a use: the name, and its arguments
abbrev pub Use : Type 0
Use = List ℕ × List Tree

-- the uses in a process, in preorder
abbrev pub uses : Written → List Use
uses nil = []
uses (call f ts) = (f, ts) ∷ []
uses (parallel p q) = uses p ++ uses q
uses (replicated p) = uses p
uses (act a p) = uses p
uses (test t u p q) = uses p ++ uses q
uses (lookup t x p q) = uses p ++ uses q

-- those in the bodies in order, and then in a process
abbrev pub all_uses : List Definition → Written → List Use
all_uses [] p = uses p
all_uses (d ∷ ds) p = uses d.body ++ all_uses ds p

-- how many parameters the first definition of the name has, none where nothing defines it
abbrev pub parameter_count : List Definition → List ℕ → ℕ
parameter_count [] f = 0
parameter_count (d ∷ ds) f = if bytes_eq d.name f then length d.params else parameter_count ds f

-- the name of the first of these uses that has not so many arguments
abbrev pub first_other : (List ℕ → ℕ) → List Use → Option (List ℕ)
first_other count [] = None
first_other count (u ∷ us) =
    if length u.1 == count u.0 then first_other count us else Some u.0

-- the name of the first use with another number of arguments than its definition has parameters
abbrev pub first_other_count : List Definition → Written → Option (List ℕ)
first_other_count ds p = first_other (parameter_count ds) (all_uses ds p)
