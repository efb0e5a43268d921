-- What contracts see of a search.
use Rattle.std.specs.Prelude.{List}
use Rattle.sap_terms.specs.Signature.{Sig}
use Rattle.sap_terms.specs.Tree.{Tree}

-- a signature, and the terms of the entries in their order
pub record Searched : Type 0 where
  pub sig : Sig
  pub entries : List Tree
