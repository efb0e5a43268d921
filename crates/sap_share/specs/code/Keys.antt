-- The test by which nodes are keys decides equality.
use Rattle.std.proofs.Common.{◌≡◌, ℕ, Bool, rules}
use Rattle.std.specs.Bool.{Decides}
use Rattle.std.specs.Cmp.{IsEquivalence, decided}
use Rattle.std.specs.Hash as fed
use Rattle.sap_share.specs.code.Fed.{fed_node}
use Rattle.sap_share.specs.declared.key.Key.{Key}
use Rattle.sap_share.specs.declared.node.Node.{Node}
use Rattle.sap_share.specs.contracts.key.KeyPartialEq.TheImpl.{eq-value}

-- the test of equal keys
abbrev pub key_eq : Key → Key → Bool
key_eq = eq-value.it

pub key_decides : (a b : Key) → Decides (key_eq a b) (a ≡ b)
key_decides a b = search rules

pub key_equiv : IsEquivalence key_eq
key_equiv = decided key_eq key_decides

-- what a key feeds a hasher
abbrev pub fed_key : Key → fed.HashWrites
fed_key k = fed_node k.name k.node

-- the key that is looked for
abbrev pub key_sought : ℕ → Node → Key
key_sought name node = record { name = name; node = node }
