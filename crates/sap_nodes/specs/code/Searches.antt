-- A search through nodes, as the code makes it.
use Rattle.std.specs.Prelude.{ℕ, ◌+◌, Bool, true, false, List, [], ◌∷◌, min, if◌then◌else◌, Option, Some, None}
use Rattle.sap_nodes.specs.HeadNodes.{Node}
use Rattle.sap_nodes.specs.declared.finding.Search.{Search}

-- the greatest u64
abbrev pub most : ℕ
most = 18446744073709551615

-- one node more is met, which is what is looked for or isn't
abbrev pub visited : Bool → Search → Search
visited is a = if a.found then a else if is then record a { found = true } else record a { at = min (a.at + 1) most }

-- these nodes are met, one after another
abbrev pub after : (Node → Bool) → Search → List Node → Search
after test a [] = a
after test a (n ∷ ns) = after test (visited (test n) a) ns

-- nothing is met
abbrev pub at_first : Search
at_first = record { at = 0; found = false }

-- where it is found
abbrev pub found_at : Search → Option ℕ
found_at a = if a.found then Some a.at else None
