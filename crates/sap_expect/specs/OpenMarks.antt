-- Brackets and quotation marks that are open behind words.
use Rattle.std.specs.Prelude.{ℕ, ◌+◌, ◌-◌, Bool, true, false, codes, length, List, [], ◌∷◌, ◌++◌, take, Option, Some, None, if◌then◌else◌, slice_get}
use Rattle.sap_grammar.specs.Words.{Word, is_mark}
use Rattle.sap_expect.specs.Kinds.{is_one_of}

-- the brackets that open, and those that close
abbrev pub opening_marks : List (List ℕ)
opening_marks = codes "(" ∷ codes "[" ∷ codes "--[" ∷ []

abbrev pub closing_marks : List (List ℕ)
closing_marks = codes ")" ∷ codes "]" ∷ codes "]->" ∷ []

-- one that is open: how many words stand before it, and whether it is a quotation mark
abbrev pub OpenMark : Type 0
OpenMark = ℕ × Bool

-- the innermost stands last
abbrev pub last_of : List OpenMark → Option OpenMark
last_of os = slice_get os (length os - 1)

abbrev pub without_last : List OpenMark → List OpenMark
without_last os = take (length os - 1) os

-- it is a quotation mark
abbrev pub is_quotation : Option OpenMark → Bool
is_quotation None = false
is_quotation (Some o) = o.1

-- what is open behind this word: a bracket opens, or closes the innermost; a quotation mark closes one that is innermost, and else opens
abbrev pub behind_word : ℕ → Word → List OpenMark → List OpenMark
behind_word k w os =
    if is_one_of opening_marks w then os ++ (k, false) ∷ []
    else if is_one_of closing_marks w then without_last os
    else if is_mark (codes "\"") w then (if is_quotation (last_of os) then without_last os else os ++ (k, true) ∷ [])
    else os

-- behind these words, where so many are before them and these are open
abbrev pub open_behind : ℕ → List OpenMark → List Word → List OpenMark
open_behind k os [] = os
open_behind k os (w ∷ ws) = open_behind (k + 1) (behind_word k w os) ws

-- how many words stand before the innermost that is open behind these
abbrev pub number_of : Option OpenMark → Option ℕ
number_of None = None
number_of (Some o) = Some o.0

abbrev pub innermost_open : List Word → Option ℕ
innermost_open ws = number_of (last_of (open_behind 0 [] ws))
