-- Which of some cited facts is missing.
use Rattle.std.specs.Prelude.{◌≡◌, ◌+◌, ℕ, List, Some, None, slice_get, take}
use Rattle.sap_terms.specs.Piles.{Pile, Takes}
use Rattle.sap_terms.specs.declared.fact.Fact.{Fact}
use Rattle.sap_facts.specs.Facts.{fact_at}

-- at this index, from 1, stands the first number of which no fact is left once those before it were taken
pub record IsFirstMissing (facts : Pile) (ks : List ℕ) (index : ℕ) : Type 0 where
  pub before : List Fact
  pub rest : Pile
  pub at : ℕ
  pub number : ℕ
  pub index_is : index ≡ at + 1
  pub here : slice_get ks at ≡ Some number
  pub takes : Takes facts (take at ks) before rest
  pub gone : fact_at rest number ≡ None
