-- Nodes of a definition's body by hand, and what is told of them.
use Rattle.std.specs.Prelude.{◌≡◌, ℕ, codes, List, [], ◌∷◌, map}
use Rattle.sap_terms.specs.Signature.{Sig}
use Rattle.sap_text.specs.declared.token.Token.{Token}
use Rattle.sap_grammar.specs.TermGrammar.{IsConstant}
use Rattle.sap_grammar.specs.Words.{Word, mark, name, words_of}
use Rattle.sap_macro.specs.Located.{Located, call_at}
use Rattle.sap_origin.specs.Definitions.{LocatedDefinition}
use Rattle.sap_seen.specs.Examples.{b_body, defines, var}
use Rattle.sap_read.specs.SpelledBodies.{item_end}
use Rattle.sap_read_places.specs.declared.told.Told.{Told}
use Rattle.sap_read_places.specs.Placed.{stretch_before}

-- the definition of B, whose body is looked at
abbrev pub b_is : LocatedDefinition
b_is = defines (codes "B") (codes "y" ∷ []) b_body 7

-- the arguments of the two uses of A that are left
abbrev pub r : List ℕ
r = codes "r"

abbrev pub q : List ℕ
q = codes "q"

-- a use `A ( x )` at the end of an item, 4 words
abbrev pub a_use : List ℕ → Located
a_use x = call_at 4 (codes "A") (var x ∷ [])

abbrev pub use_words : List ℕ → List Word
use_words x = name (codes "A") ∷ mark (codes "(") ∷ name x ∷ mark (codes ")") ∷ []

-- these are the last words of the item behind which so many words of the file are, and the argument is no constant
abbrev pub IsUseSpelled : Sig → List ℕ → List Token → List ℕ → ℕ → Type 0
IsUseSpelled g z ts x behind =
    (item_end (words_of z ts) 4 behind ≡ use_words x) × (IsConstant g x → ⊥)

-- the word from which so many words of the file are left, below the uses from whose names so many are
abbrev pub told_before : List Token → ℕ → List ℕ → Told
told_before ts n us = record { word = stretch_before ts n; uses = map (stretch_before ts) us }
