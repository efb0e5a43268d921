-- What a node feeds a hasher: numbers alone.
use Rattle.std.specs.Prelude.{ℕ, ◌++◌}
use Rattle.std.specs.Hash as fed
use Rattle.sap_share.specs.declared.node.Node.{Node}
use Rattle.sap_share.specs.declared.node.Node.TheVariants.{Public, Fresh, App}

-- the number of its name, if it has one, and the numbers that it stands on, or its own
abbrev pub fed_node : ℕ → Node → fed.HashWrites
fed_node name (Public n) = fed.u64 name
fed_node name (Fresh k) = fed.u64 k
fed_node name (App f ks) = fed.u64 name ++ fed.slice fed.u64 ks
