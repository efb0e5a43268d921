-- Parameters, as they are read.
use Rattle.std.specs.Prelude.{ℕ, codes, List, [], ◌∷◌, ◌++◌, Option, Some, None, if◌then◌else◌}
use Rattle.std.specs.Str.{bytes_eq}
use Rattle.sap_grammar.specs.Words.{Word, mark, name}

-- parameters, and the words behind them
abbrev pub Params : Type 0
Params = Option (List (List ℕ) × List Word)

-- more names in front of them
abbrev pub in_front : List (List ℕ) → Params → Params
in_front xs None = None
in_front xs (Some r) = Some (xs ++ r.0, r.1)

-- the parameters that stand first, up to their closing parenthesis
abbrev pub params_in : List Word → Params
params_in [] = None
params_in (w ∷ []) = None
params_in (name x ∷ mark m ∷ ws) =
    if bytes_eq m (codes ")") then Some (x ∷ [], ws)
    else (if bytes_eq m (codes ",") then in_front (x ∷ []) (params_in ws) else None)
params_in (w ∷ v ∷ ws) = None
