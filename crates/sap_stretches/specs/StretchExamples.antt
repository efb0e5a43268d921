-- Small files, and which of their stretches are told.
use Rattle.std.specs.Prelude.{ℕ, List, [], ◌∷◌}
use Rattle.sap_text.specs.declared.token.Kind.TheVariants.{Ident}
use Rattle.sap_text.specs.declared.token.Token.{Token}
use Rattle.sap_stretches.specs.declared.stretch.Stretch.{Stretch}

abbrev pub stretch : (from to : ℕ) → Stretch
stretch from to = record { from = from; to = to }

-- a word on one line, and on any
abbrev pub word : (from to : ℕ) → Token
word from to = record { kind = Ident; from = from; to = to; line = 1 }

abbrev pub on_line : (line from to : ℕ) → Token
on_line line from to = record { kind = Ident; from = from; to = to; line = line }

-- the tokens of a file of three lines, `theory T begin`, `let P=(0` and `end`
abbrev pub three_lines_tokens : List Token
three_lines_tokens =
    on_line 1 0 6 ∷ on_line 1 7 8 ∷ on_line 1 9 14 ∷ on_line 2 15 18 ∷ on_line 2 19 20
    ∷ on_line 2 20 21
    ∷ on_line 2 21 22 ∷ on_line 2 22 23 ∷ on_line 3 24 27 ∷ []
