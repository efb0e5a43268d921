-- The limit on what a line evaluates.
use Rattle.std.specs.Prelude.{◌≤◌}
use Rattle.sap_terms.specs.Tree.{Tree, node_count}
use Rattle.sap_terms.specs.declared.limits.TheConstants.{MOST_TERM_NODES}

-- of whatever size
abbrev pub AnySize : Tree → Type 0
AnySize t = Unit {0}

-- of at most 256 nodes
abbrev pub HasFewNodes : Tree → Type 0
HasFewNodes t = node_count t ≤ MOST_TERM_NODES
