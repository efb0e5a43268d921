-- How facts are written.
use Rattle.std.specs.Prelude.{ℕ, if◌then◌else◌, codes, List, [], ◌∷◌, ◌++◌, map}
use Rattle.sap_terms.specs.declared.fact.Fact.{Fact}
use Rattle.sap_grammar.specs.Pieces.{joined}
use Rattle.sap_grammar.specs.TermText.{tree_text}

-- its name and its arguments, behind ! where it is persistent
abbrev pub fact_text : Fact → List ℕ
fact_text f = (if f.persistent then codes "!" else [])
    ++ (f.name ++ (codes "(" ++ (joined (codes ",") (map tree_text f.args) ++ codes ")")))

-- the facts with commas between them
abbrev pub fact_list : List Fact → List ℕ
fact_list fs = joined (codes ", ") (map fact_text fs)

-- a side of a rule
abbrev pub facts_text : List Fact → List ℕ
facts_text [] = codes "[ ]"
facts_text (f ∷ fs) = codes "[ " ++ (fact_list (f ∷ fs) ++ codes " ]")

-- the arrow of a rule, with what the rule shows
abbrev pub arrow_text : List Fact → List ℕ
arrow_text [] = codes " --> "
arrow_text (f ∷ fs) = codes " --[ " ++ (fact_list (f ∷ fs) ++ codes " ]-> ")
