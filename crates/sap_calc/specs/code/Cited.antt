-- Facts that a line cites.
use Rattle.std.specs.Prelude.{◌≡◌, ◌⊎◌, ℕ, List}
use Rattle.sap_terms.specs.Piles.{Pile}
use Rattle.sap_terms.specs.declared.fact.Fact.{Fact}
use Rattle.sap_facts.specs.Cited.{cited_at, AreTaken}
use Rattle.sap_facts.specs.Missing.{IsFirstMissing}
use Rattle.sap_lines.specs.declared.fault.PFault.{PFault}
use Rattle.sap_lines.specs.declared.fault.PFault.TheVariants.{Mem, FactMissing}

-- the facts that are cited can be taken, and are these
pub record AreCited (facts : Pile) (ks : List ℕ) (fs : List Fact) : Type 0 where
  pub are : fs ≡ cited_at facts ks
  pub taken : AreTaken facts ks

-- why they aren't given
abbrev pub AreUncited : Pile → List ℕ → PFault → Type 0
AreUncited facts ks f = (f ≡ Mem) ⊎ ((at : ℕ) × (f ≡ FactMissing at) × IsFirstMissing facts ks at)
