-- Which facts a trace shows at a time.
use Rattle.std.specs.Prelude.{◌≡◌, ℕ, true, false, List, Contains}
use Rattle.sap_formula.specs.Truth.{facts_at}
use Rattle.sap_terms.specs.Reserved.{is_reserved}
use Rattle.sap_terms.specs.Trace.{Trace}
use Rattle.sap_terms.specs.declared.fact.Fact.{Fact}

-- time k has the fact
abbrev pub HasFact : Trace → ℕ → Fact → Type 0
HasFact tr k f = Contains (facts_at tr k) f

-- time k has a fact with this one's name and arguments, be it linear or persistent
abbrev pub HasAlike : Trace → ℕ → Fact → Type 0
HasAlike tr k f = (h : Fact) × HasFact tr k h × (h.name ≡ f.name) × (h.args ≡ f.args)

-- facts with reserved names are linear
abbrev pub AreLinear : Trace → Type 0
AreLinear tr = (k : ℕ) (f : Fact) → HasFact tr k f → is_reserved f.name ≡ true → f.persistent ≡ false

-- no time has a fact of this name
abbrev pub NoneShows : List ℕ → Trace → Type 0
NoneShows n tr = (k : ℕ) (f : Fact) → HasFact tr k f → f.name ≡ n → ⊥
