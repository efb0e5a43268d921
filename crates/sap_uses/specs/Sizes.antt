-- Sizes that stand for terms, by names.
use Rattle.std.specs.Prelude.{◌≡◌, ℕ, ◌-◌, ◌^◌, min, List}
use Rattle.std.specs.Option.{unwrap_or}
use Rattle.sap_terms.specs.Choice.{Choice}
use Rattle.sap_terms.specs.NameMap.{value_at}
use Rattle.sap_terms.specs.Tree.{node_count}
use Rattle.sap_terms.specs.declared.var.Var.{Var}

-- sizes from the greatest u64 on are that
abbrev pub cut : ℕ → ℕ
cut n = min n (2 ^ 64 - 1)

-- the sizes that are kept, 1 for other names
abbrev pub size_in : List (List ℕ × ℕ) → List ℕ → ℕ
size_in sizes x = unwrap_or (value_at sizes x) 1

-- each variable stands for a term with as many nodes as its name's size tells
abbrev pub HaveSizes : Choice → List (List ℕ × ℕ) → Type 0
HaveSizes r sizes = (v : Var) → cut (node_count (r v)) ≡ cut (size_in sizes v.name)
