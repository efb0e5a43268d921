-- The identifiers of a file.
use Rattle.std.specs.Prelude.{ℕ, List, [], ◌∷◌, ◌++◌}
use Rattle.sap_grammar.specs.Words.{Word, mark, name, number, quoted}

-- the word, where it is an identifier
abbrev pub identifier_in : Word → List (List ℕ)
identifier_in (mark s) = []
identifier_in (name x) = x ∷ []
identifier_in (number n) = []
identifier_in (quoted s) = []

-- the identifiers among words, each where it stands; reserved words are none
abbrev pub identifiers_of : List Word → List (List ℕ)
identifiers_of [] = []
identifiers_of (w ∷ ws) = identifier_in w ++ identifiers_of ws
