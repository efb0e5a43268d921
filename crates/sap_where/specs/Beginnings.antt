-- Which words an item begins with.
use Rattle.std.specs.Prelude.{ℕ, Bool, false, ◌&&◌, ◌||◌, codes, List, [], ◌∷◌, drop}
use Rattle.sap_grammar.specs.Cut.{is_item_word}
use Rattle.sap_grammar.specs.Reading.{names}
use Rattle.sap_grammar.specs.Words.{Word, starts}

-- an item begins with the first word
abbrev pub begins_item : List Word → Bool
begins_item [] = false
begins_item (w ∷ ws) = is_item_word w

-- the words begin the restriction or lemma of this name
abbrev pub begins_statement : List ℕ → List Word → Bool
begins_statement x ws = (starts (codes "restriction") ws || starts (codes "lemma") ws)
    && names x (drop 1 ws)

-- they begin the definition of this name
abbrev pub begins_definition : List ℕ → List Word → Bool
begins_definition x ws = starts (codes "let") ws && names x (drop 1 ws)
