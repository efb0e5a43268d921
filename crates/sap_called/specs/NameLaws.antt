-- What is so of names as they are called.
use Rattle.std.specs.Prelude.{◌≡◌, ◌<◌, ◌^◌, ℕ, ◌+◌, true, false, codes, decimal, List, ◌∷◌, ◌++◌, [], length}
use Rattle.sap_grammar.specs.FactText.{fact_text}
use Rattle.sap_grammar.specs.TermText.{tree_text}
use Rattle.sap_terms.specs.declared.fact.Fact.{Fact}
use Rattle.sap_terms.specs.Tree.{Tree}
use Rattle.sap_called.specs.NamedTerms.{named, named_fact}
use Rattle.sap_called.specs.Names.{Draw, called, count_of, is_drawn, numbered}

-- Two names are called by two texts, also where the one is told when these were drawn, and the other when more were; whatever bytes
-- their words have.
abbrev pub NamesAreToldApart : Type 0
NamesAreToldApart =
    (ds es : List Draw) (a b : ℕ) → length (ds ++ es) + 1 < 2 ^ 64 → a < 2 ^ 64 → b < 2 ^ 64
    → called ds a ≡ called (ds ++ es) b → a ≡ b

-- a name that was drawn is called the same wherever more were drawn behind it
abbrev pub NamesKeepTheirTexts : Type 0
NamesKeepTheirTexts =
    (ds es : List Draw) (n : ℕ) → is_drawn ds n ≡ true → called (ds ++ es) n ≡ called ds n

-- a name that is drawn is called by its word and by which one of this word it is
abbrev pub NamesAreCalledByTheirWords : Type 0
NamesAreCalledByTheirWords =
    (ds es : List Draw) (d : Draw) → is_drawn ds d.name ≡ false
    → called (ds ++ d ∷ es) d.name ≡ numbered d.word (count_of d.word ds + 1)

-- and one that wasn't, by its number
abbrev pub OtherNamesAreCalledByTheirNumbers : Type 0
OtherNamesAreCalledByTheirNumbers =
    (ds : List Draw) (n : ℕ) → is_drawn ds n ≡ false → called ds n ≡ codes "~" ++ decimal n

-- where no name was drawn, terms and facts are told as they are spelled
abbrev pub TermsAreToldAsSpelled : Type 0
TermsAreToldAsSpelled = (t : Tree) → tree_text (named [] t) ≡ tree_text t

abbrev pub FactsAreToldAsSpelled : Type 0
FactsAreToldAsSpelled = (f : Fact) → fact_text (named_fact [] f) ≡ fact_text f
