-- Entries of the adversary, by numbers of the table.
use Rattle.std.specs.Prelude.{◌≡◌, ℕ, Some, slice_get}
use Rattle.sap_deduce.specs.Entries.{Entries, terms_of}
use Rattle.sap_share.specs.Shared.{Shared, tree_at}
use Rattle.sap_heads.specs.Values.{IsSmallNumber}

-- the number is that of the term of the adversary's entry k
pub record IsEntryNumber (u : Shared) (known : Entries) (k e : ℕ) : Type 0 where
  pub small : IsSmallNumber u e
  pub at : slice_get (terms_of known.entries) k ≡ Some (tree_at u.trees e)
