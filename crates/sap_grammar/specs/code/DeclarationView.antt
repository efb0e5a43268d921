-- What the answers of the code that reads declarations stand for.
use Rattle.std.specs.Prelude.{◌≡◌, ℕ, List, ◌∷◌, ◌++◌, [], map, Option, Some, None, Result, Ok, Err, ⊤, Vec}
use Rattle.std.specs.Borrow.{Bor}
use Rattle.std.specs.declared.alloc.Global.{Global}
use Rattle.sap_terms.specs.declared.mem.Mem.{Mem}
use Rattle.sap_text.specs.declared.token.Token.{Token}
use Rattle.sap_grammar.specs.declared.declaration.Declaration as code
use Rattle.sap_grammar.specs.declared.declaration.Declaration.TheVariants.{Builtin, Symbol}
use Rattle.sap_grammar.specs.Words.{word_of, words_of}
use Rattle.sap_grammar.specs.Reading.{Read}
use Rattle.sap_grammar.specs.Declarations.{Declaration, of_builtin, of_symbol}
use Rattle.sap_grammar.specs.Cut.{Placed}

-- a declaration of the program's own type
abbrev pub declaration : code.Declaration → Declaration
declaration (Builtin b) = of_builtin b
declaration (Symbol s) = of_symbol s

-- declarations of the program's own type
abbrev pub declarations : Vec code.Declaration Global → List Declaration
declarations ds = map declaration ds.items

-- the declaration that was read stands last, and these are the tokens behind it
abbrev pub IsNext : List ℕ → Result (Option (Bor (List Token))) Mem → Read Declaration → List code.Declaration → List code.Declaration → Type 0
IsNext bytes (Err e) read before after = ⊤
IsNext bytes (Ok None) read before after = read ≡ None
IsNext bytes (Ok (Some r)) read before after = (d : Declaration) × (read ≡ Some (d, words_of bytes r.now)) × (map declaration after ≡ map declaration before ++ d ∷ [])

-- the word of a token on its line
abbrev pub placed_token : List ℕ → Token → Placed
placed_token bytes t = record { word = word_of bytes t; line = t.line }
