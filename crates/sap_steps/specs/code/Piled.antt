-- How a pile is seen whose facts have numbers of shared terms.
use Rattle.std.specs.Prelude.{ℕ, List, [], ◌∷◌, false}
use Rattle.sap_terms.specs.Piles.{Pile}
use Rattle.sap_terms.specs.Signature.{Sig}
use Rattle.sap_terms.specs.Tree.{Tree}
use Rattle.sap_share.specs.Shared.{Shared}
use Rattle.sap_sides.specs.declared.shared_fact.SharedFact.{SharedFact}

-- a signature, the trees that have numbers, the facts ever put on a pile, and how many more are sure to find memory
pub record Piled : Type 0 where
  pub sig : Sig
  pub trees : List Tree
  pub slots : Pile
  pub spare : ℕ

-- the table that it has
abbrev pub table_of : Piled → Shared
table_of p = record { sig = p.sig; trees = p.trees }

-- the linear fact of this name whose one argument has this number
abbrev pub single_of : List ℕ → ℕ → SharedFact
single_of name n = record { name = name; persistent = false; args = n ∷ [] }
