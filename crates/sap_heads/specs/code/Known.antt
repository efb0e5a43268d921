-- Names that are known, and variables that are new among them.
use Rattle.std.specs.Prelude.{◌≡◌, ℕ, List, [], ◌∷◌, ◌++◌, if◌then◌else◌}
use Rattle.sap_terms.specs.Variables.{is_known, new_vars}
use Rattle.sap_terms.specs.declared.var.Var.{Var}

-- the same names are known
abbrev pub KnowAlike : List (List ℕ) → List (List ℕ) → Type 0
KnowAlike ks ms = (n : List ℕ) → is_known ks n ≡ is_known ms n

-- of the variable and others behind it, what is new is the variable, if its name isn't among the first names, and then what is new of the others, where the later names are known
abbrev pub IsSifted : List (List ℕ) → List (List ℕ) → Var → Type 0
IsSifted ks later v = (vs : List Var) → new_vars ks (v ∷ vs) ≡ (if is_known ks v.name then [] else v ∷ []) ++ new_vars later vs
