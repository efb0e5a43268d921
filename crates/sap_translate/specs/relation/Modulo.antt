-- Lists of trees up to the theory, one by one.
use Rattle.std.specs.Prelude.{List, [], ◌∷◌}
use Rattle.std.specs.List.{AllZip}
use Rattle.sap_terms.specs.Equal.{IsTheoryEqual}
use Rattle.sap_terms.specs.Normal.{IsNormalForm, IsNormal}
use Rattle.sap_terms.specs.Equations.{Equations}
use Rattle.sap_terms.specs.Tree.{Tree}

-- the second are the normal forms of the first
abbrev pub AreForms : Equations → List Tree → List Tree → Type 0
AreForms e ts ns = AllZip (IsNormalForm e) ts ns

-- they are theory-equal
abbrev pub AreEqual : Equations → List Tree → List Tree → Type 0
AreEqual e ts us = AllZip (IsTheoryEqual e) ts us

-- each of these is normal
abbrev pub AreNormalTerms : Equations → List Tree → Type 0
AreNormalTerms e [] = Unit {0}
AreNormalTerms e (t ∷ ts) = IsNormal e t × AreNormalTerms e ts
