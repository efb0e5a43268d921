-- Sizes that are kept of names.
use Rattle.std.specs.Prelude.{ℕ, Option, None, Some}
use Rattle.sap_macro.specs.declared.sizes.Size.{Size}

-- how many places what a name stands for has, by what is kept of it: one where nothing is
abbrev pub nodes_kept : Option Size → ℕ
nodes_kept None = 1
nodes_kept (Some s) = s.nodes

-- and how many levels
abbrev pub levels_kept : Option Size → ℕ
levels_kept None = 1
levels_kept (Some s) = s.levels
