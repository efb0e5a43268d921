-- Facts that are cited by their numbers, and what is left of a pile when they are taken.
use Rattle.std.specs.Prelude.{ℕ, List}
use Rattle.std.specs.List.{filter_map, fold}
use Rattle.sap_terms.specs.Piles.{Pile, Takes}
use Rattle.sap_terms.specs.declared.fact.Fact.{Fact}
use Rattle.sap_facts.specs.Facts.{fact_at, slots_without}

-- the facts with these numbers
abbrev pub cited_at : Pile → List ℕ → List Fact
cited_at facts ks = filter_map (fact_at facts) ks

-- what is left once they were used one after another
abbrev pub left_of : Pile → List ℕ → Pile
left_of facts ks = fold slots_without facts ks

-- they can be taken, in this order
abbrev pub AreTaken : Pile → List ℕ → Type 0
AreTaken facts ks = Takes facts ks (cited_at facts ks) (left_of facts ks)
