-- How large a term may be.
use Rattle.std.specs.Prelude.{◌≤◌, ℕ, Bool, true, ◌&&◌, nat_le, List, All, Option, Some, None, ⊤}
use Rattle.std.specs.List.{list_all}
use Rattle.sap_terms.specs.Tree.{Tree, level_count, node_count}
use Rattle.sap_grammar.specs.declared.limits.Limits.{Limits}

-- no more than the limit, where there is one
abbrev pub AtMost : Option ℕ → ℕ → Type 0
AtMost None n = ⊤
AtMost (Some most) n = n ≤ most

-- a term within the limits
pub record IsSmall (m : Limits) (t : Tree) : Type 0 where
  pub few_levels : level_count t ≤ m.term_levels
  pub few_nodes : AtMost m.term_nodes (node_count t)

-- each of these terms is
abbrev pub AreSmall : Limits → List Tree → Type 0
AreSmall m ts = All (IsSmall m) ts

-- the same as tests
abbrev pub at_most : Option ℕ → ℕ → Bool
at_most None n = true
at_most (Some most) n = nat_le n most

abbrev pub is_small : Limits → Tree → Bool
is_small m t = nat_le (level_count t) m.term_levels && at_most m.term_nodes (node_count t)

abbrev pub are_small : Limits → List Tree → Bool
are_small m ts = list_all (is_small m) ts
