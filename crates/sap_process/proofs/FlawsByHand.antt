-- The flaws of small processes, as the search for the flaw that counts finds them.
use Rattle.std.proofs.Common.{◌≡◌, ℕ, List, [], ◌∷◌, Option, Some, None, refl, subst}
use Rattle.sap_process.specs.Flaws.{IsFirstFlaw, IsWellFormed}
use Rattle.sap_process.specs.FlawExamples.{pairs_and_signing, AreFlawed, AreWellFormed, flawed_ones, near_misses, later_but_first, twice_flawed}
use Rattle.sap_process.specs.Proc.{Proc}
use Rattle.sap_process.specs.Sites.{sites}
use Rattle.sap_process.specs.code.Walks.{first_flaw, AreRanked, IsCounted}
use Rattle.sap_process.specs.declared.flaw.Flaw.{Flaw}
use Rattle.sap_process.specs.declared.flaw.Flaw.TheVariants.{BadFunction, ReservedVar, ReservedFact, FactClash, PatternDestructor, Unbound, Rebound, SortClash, ScopeFull}
use Rattle.sap_process.proofs.Firsts.{counted}

abbrev flaws : List Flaw
flaws = BadFunction ∷ ReservedVar ∷ ReservedFact ∷ FactClash ∷ PatternDestructor ∷ Unbound ∷ Rebound ∷ SortClash ∷ ScopeFull ∷ []

ascending : AreRanked 1 flaws
ascending = (refl, (refl, (refl, (refl, (refl, (refl, (refl, (refl, (refl, refl)))))))))

-- what the search finds
abbrev found : Proc → Option (Flaw × List ℕ)
found p = first_flaw pairs_and_signing flaws (sites p)

first_of : (p : Proc) (w : Flaw) (path : List ℕ) → found p ≡ Some (w, path) → IsFirstFlaw pairs_and_signing p w path
first_of p w path e = subst (IsCounted pairs_and_signing p) e (counted pairs_and_signing p flaws ascending)

none_of : (p : Proc) → found p ≡ None → IsWellFormed pairs_and_signing p
none_of p e = subst (IsCounted pairs_and_signing p) e (counted pairs_and_signing p flaws ascending)

-- the search finds this flaw in each of them, at its path
abbrev AreFound : Flaw → List (Proc × List ℕ) → Type 0
AreFound w [] = Unit {0}
AreFound w (e ∷ es) = (found e.0 ≡ Some (w, e.1)) × AreFound w es

abbrev HaveNone : List Proc → Type 0
HaveNone [] = Unit {0}
HaveNone (p ∷ ps) = (found p ≡ None) × HaveNone ps

are_flawed : (w : Flaw) (es : List (Proc × List ℕ)) → AreFound w es → AreFlawed w es
are_flawed w [] h = tt
are_flawed w (e ∷ es) h = (first_of e.0 w e.1 h.0, are_flawed w es h.1)

are_well_formed : (ps : List Proc) → HaveNone ps → AreWellFormed ps
are_well_formed [] h = tt
are_well_formed (p ∷ ps) h = (none_of p h.0, are_well_formed ps h.1)

pub flawed : (w : Flaw) → AreFlawed w (flawed_ones w)
flawed BadFunction = are_flawed BadFunction (flawed_ones BadFunction) (refl, (refl, (refl, (refl, (refl, (refl, (refl, (refl, tt))))))))
flawed ReservedVar = are_flawed ReservedVar (flawed_ones ReservedVar) (refl, (refl, (refl, (refl, tt))))
flawed ReservedFact = are_flawed ReservedFact (flawed_ones ReservedFact) (refl, (refl, (refl, (refl, (refl, tt)))))
flawed FactClash = are_flawed FactClash (flawed_ones FactClash) (refl, (refl, (refl, (refl, (refl, tt)))))
flawed PatternDestructor = are_flawed PatternDestructor (flawed_ones PatternDestructor) (refl, (refl, (refl, (refl, (refl, tt)))))
flawed Unbound = are_flawed Unbound (flawed_ones Unbound) (refl, (refl, (refl, (refl, (refl, (refl, (refl, tt)))))))
flawed Rebound = are_flawed Rebound (flawed_ones Rebound) (refl, (refl, (refl, (refl, tt))))
flawed SortClash = are_flawed SortClash (flawed_ones SortClash) (refl, (refl, (refl, (refl, (refl, tt)))))
flawed ScopeFull = are_flawed ScopeFull (flawed_ones ScopeFull) (refl, (refl, (refl, tt)))

pub near : (w : Flaw) → AreWellFormed (near_misses w)
near BadFunction = are_well_formed (near_misses BadFunction) (refl, (refl, (refl, (refl, (refl, tt)))))
near ReservedVar = are_well_formed (near_misses ReservedVar) (refl, (refl, (refl, tt)))
near ReservedFact = are_well_formed (near_misses ReservedFact) (refl, (refl, (refl, tt)))
near FactClash = are_well_formed (near_misses FactClash) (refl, (refl, (refl, tt)))
near PatternDestructor = are_well_formed (near_misses PatternDestructor) (refl, (refl, (refl, tt)))
near Unbound = are_well_formed (near_misses Unbound) (refl, (refl, (refl, (refl, (refl, tt)))))
near Rebound = are_well_formed (near_misses Rebound) (refl, (refl, (refl, (refl, tt))))
near SortClash = are_well_formed (near_misses SortClash) (refl, (refl, (refl, (refl, (refl, tt)))))
near ScopeFull = are_well_formed (near_misses ScopeFull) (refl, (refl, (refl, (refl, (refl, (refl, tt))))))

pub order : (w : Flaw) → AreFlawed w (later_but_first w)
order BadFunction = are_flawed BadFunction (later_but_first BadFunction) (refl, tt)
order ReservedVar = are_flawed ReservedVar (later_but_first ReservedVar) (refl, tt)
order ReservedFact = are_flawed ReservedFact (later_but_first ReservedFact) (refl, tt)
order FactClash = are_flawed FactClash (later_but_first FactClash) (refl, tt)
order PatternDestructor = are_flawed PatternDestructor (later_but_first PatternDestructor) (refl, tt)
order Unbound = are_flawed Unbound (later_but_first Unbound) (refl, tt)
order Rebound = are_flawed Rebound (later_but_first Rebound) (refl, tt)
order SortClash = are_flawed SortClash (later_but_first SortClash) (refl, tt)
order ScopeFull = tt

pub first_places : AreFlawed Unbound twice_flawed
first_places = are_flawed Unbound twice_flawed (refl, (refl, (refl, tt)))
