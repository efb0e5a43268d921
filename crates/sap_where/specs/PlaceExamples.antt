-- Small files, and where in them is what.
use Rattle.std.specs.Prelude.{ℕ, codes, List, [], ◌∷◌}
use Rattle.sap_text.specs.declared.token.Kind.TheVariants.{Number, Symbol}
use Rattle.sap_text.specs.declared.token.Token.{Token}
use Rattle.sap_grammar.specs.Words.{Word, mark, name}
use Rattle.sap_stretches.specs.StretchExamples.{word}
use Rattle.sap_where.specs.FileDeclarations.{IsClashAt}
use Rattle.sap_where.specs.OtherPlaces.{IsDeclaredFirstAt, IsRepeatedFirstAt}
use Rattle.sap_where.specs.Where.{IsRepeatedAt}

-- a header with `end` where `begin` is wanted, and one without a name
abbrev pub ended_header : List Word
ended_header = mark (codes "theory") ∷ name (codes "T") ∷ mark (codes "end") ∷ []

abbrev pub nameless_header : List Word
nameless_header = mark (codes "theory") ∷ mark (codes "begin") ∷ []

-- three items' beginnings: a definition of P, a lemma P, and a definition of P again
abbrev pub twice : List ℕ
twice = codes "let P lemma P let P"

abbrev pub twice_tokens : List Token
twice_tokens = word 0 3 ∷ word 4 5 ∷ word 6 11 ∷ word 12 13 ∷ word 14 17 ∷ word 18 19 ∷ []

-- the first two of them; and items that no definition is among: a lemma P, and a restriction P
abbrev pub once_tokens : List Token
once_tokens = word 0 3 ∷ word 4 5 ∷ word 6 11 ∷ word 12 13 ∷ []

abbrev pub stated : List ℕ
stated = codes "lemma P restriction P"

abbrev pub stated_tokens : List Token
stated_tokens = word 0 5 ∷ word 6 7 ∷ word 8 19 ∷ word 20 21 ∷ []

abbrev pub sign : (from to : ℕ) → Token
sign from to = record { kind = Symbol; from = from; to = to; line = 1 }

-- three definitions: in the first x is a parameter once, in the second three times, in the third twice
abbrev pub three_headings : List ℕ
three_headings = codes "let P ( x , y ) = 0 let Q ( x , y , x , x ) = 0 let R ( x , x ) = 0"

abbrev pub digit : (from to : ℕ) → Token
digit from to = record { kind = Number; from = from; to = to; line = 1 }

abbrev pub three_headings_tokens : List Token
three_headings_tokens =
    word 0 3 ∷ word 4 5 ∷ sign 6 7 ∷ word 8 9 ∷ sign 10 11 ∷ word 12 13 ∷ sign 14 15
    ∷ sign 16 17 ∷ digit 18 19 ∷ word 20 23 ∷ word 24 25 ∷ sign 26 27 ∷ word 28 29
    ∷ sign 30 31 ∷ word 32 33 ∷ sign 34 35 ∷ word 36 37 ∷ sign 38 39 ∷ word 40 41
    ∷ sign 42 43 ∷ sign 44 45 ∷ digit 46 47 ∷ word 48 51 ∷ word 52 53 ∷ sign 54 55
    ∷ word 56 57 ∷ sign 58 59 ∷ word 60 61 ∷ sign 62 63 ∷ sign 64 65 ∷ digit 66 67 ∷ []

-- token number k of these is where x is told to stand twice among parameters
abbrev pub IsTwice : ℕ → Type 0
IsTwice k = IsRepeatedAt three_headings three_headings_tokens (codes "x") k

-- declarations: h of two terms, f of one, the same again; hashing, which has h of one; and f of two
abbrev pub many_declared : List ℕ
many_declared = codes "functions : h / 2 , f / 1 , f / 1 builtins : hashing functions : f / 2 end"

abbrev pub many_declared_tokens : List Token
many_declared_tokens =
    word 0 9 ∷ sign 10 11 ∷ word 12 13 ∷ sign 14 15 ∷ digit 16 17 ∷ sign 18 19 ∷ word 20 21
    ∷ sign 22 23 ∷ digit 24 25 ∷ sign 26 27 ∷ word 28 29 ∷ sign 30 31 ∷ digit 32 33
    ∷ word 34 42 ∷ sign 43 44 ∷ word 45 52 ∷ word 53 62 ∷ sign 63 64 ∷ word 65 66
    ∷ sign 67 68 ∷ digit 69 70 ∷ word 71 74 ∷ []

-- these without the builtins
abbrev pub few_declared_tokens : List Token
few_declared_tokens =
    word 0 9 ∷ sign 10 11 ∷ word 12 13 ∷ sign 14 15 ∷ digit 16 17 ∷ sign 18 19 ∷ word 20 21
    ∷ sign 22 23 ∷ digit 24 25 ∷ sign 26 27 ∷ word 28 29 ∷ sign 30 31 ∷ digit 32 33
    ∷ word 53 62 ∷ sign 63 64 ∷ word 65 66 ∷ sign 67 68 ∷ digit 69 70 ∷ word 71 74 ∷ []

-- token number k of these is where this name is told to be declared otherwise
abbrev pub IsClash : List ℕ → ℕ → Type 0
IsClash x k = IsClashAt many_declared many_declared_tokens x k

-- token number k of the three definitions is where x stands first in the one in which it stands twice
abbrev pub IsTwiceFirst : ℕ → Type 0
IsTwiceFirst k = IsRepeatedFirstAt three_headings three_headings_tokens (codes "x") k

-- token number k of the declarations without the builtins is where f is declared first, before it is otherwise
abbrev pub IsFirstF : ℕ → Type 0
IsFirstF k = IsDeclaredFirstAt many_declared few_declared_tokens (codes "f") k

-- hashing, which has h of one, and then h of two; and a symbol of pairs, which no word declares otherwise before
abbrev pub after_builtin : List ℕ
after_builtin = codes "builtins : hashing functions : h / 2 end"

abbrev pub after_builtin_tokens : List Token
after_builtin_tokens =
    word 0 8 ∷ sign 9 10 ∷ word 11 18 ∷ word 19 28 ∷ sign 29 30 ∷ word 31 32 ∷ sign 33 34 ∷ digit 35 36 ∷ word 37 40 ∷ []

abbrev pub of_pairs : List ℕ
of_pairs = codes "functions : fst / 3 end"

abbrev pub of_pairs_tokens : List Token
of_pairs_tokens = word 0 9 ∷ sign 10 11 ∷ word 12 15 ∷ sign 16 17 ∷ digit 18 19 ∷ word 20 23 ∷ []

-- two processes
abbrev pub two_processes : List ℕ
two_processes = codes "process : 0 process : 0"

abbrev pub two_processes_tokens : List Token
two_processes_tokens = word 0 7 ∷ sign 8 9 ∷ digit 10 11 ∷ word 12 19 ∷ sign 20 21 ∷ digit 22 23 ∷ []
