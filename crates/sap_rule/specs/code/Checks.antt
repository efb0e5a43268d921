-- The tests of rules that can be run, as the code makes them.
use Rattle.std.specs.Prelude.{◌≡◌, ◌↔◌, ℕ, Option, Some, MatchOption, List, Contains}
use Rattle.sap_terms.specs.declared.var.Sort.{Sort}
use Rattle.sap_terms.specs.declared.var.Var.{Var}

-- a sort is noted, and it is another
abbrev pub IsOtherSort : Option Sort → Sort → Type 0
IsOtherSort o s = MatchOption o ⊥ (λ (t : Sort). ¬ (t ≡ s))

-- the sorts that are noted for names are those of these variables
abbrev pub AreNoted : (List ℕ → Option Sort) → List Var → Type 0
AreNoted sorts vs = (v : Var) → (sorts v.name ≡ Some v.sort) ↔ Contains vs v
