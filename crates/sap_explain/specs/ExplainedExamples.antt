-- Small files, and what is told of them.
use Rattle.std.specs.Prelude.{ℕ, codes, decimal, List, [], ◌∷◌, ◌++◌}
use Rattle.sap_text.specs.declared.token.Kind.TheVariants.{Symbol}
use Rattle.sap_text.specs.declared.token.Token.{Token}
use Rattle.sap_stretches.specs.declared.stretch.Stretch.{Stretch}

-- a name on two lines, and where it stands on the first, and on the second
abbrev pub uses : List ℕ
uses = codes "P\n P"

abbrev pub first_word : Stretch
first_word = record { from = 0; to = 1 }

abbrev pub used_word : Stretch
used_word = record { from = 3; to = 4 }

-- its two tokens, and that the second is open
abbrev pub used_tokens : List Token
used_tokens = record { kind = Symbol; from = 0; to = 1; line = 1 } ∷ record { kind = Symbol; from = 3; to = 4; line = 2 } ∷ []

abbrev pub open_there : List ℕ
open_there = codes "Open is P at line " ++ (decimal 2 ++ (codes ", column " ++ (decimal 2 ++ (10 ∷ []))))

-- what is told of its use on the one, and on the other
abbrev pub first_use : List ℕ
first_use = codes "in P, used at line 1\n"

abbrev pub second_use : List ℕ
second_use = codes "in P, used at line 2\n"

-- four uses, and what is told of them
abbrev pub four_words : List Stretch
four_words = first_word ∷ first_word ∷ first_word ∷ first_word ∷ []

abbrev pub four_uses : List ℕ
four_uses = first_use ++ (first_use ++ (first_use ++ first_use))

-- nine uses, the outermost on the second line
abbrev pub nine_words : List Stretch
nine_words = four_words ++ (four_words ++ (used_word ∷ []))

-- a byte that begins no token, and what is told of it
abbrev pub one_mark : List ℕ
one_mark = codes "?"

abbrev pub shown_byte : List ℕ
shown_byte = codes "line " ++ decimal 1 ++ codes ", column " ++ decimal 1 ++ codes "\n" ++ codes "?\n^\n"

abbrev pub first_byte : List ℕ
first_byte = shown_byte
    ++ codes "Take this byte away: no word begins with it here, and quotes hold printable ASCII alone.\n"
