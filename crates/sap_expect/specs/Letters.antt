-- Words whose names begin with a letter, as those of tokens do.
use Rattle.std.specs.Prelude.{◌≡◌, ◌||◌, true, List, [], ◌∷◌}
use Rattle.sap_grammar.specs.Words.{Word, is_lower, is_upper, mark, name, number, quoted}

-- where the word is a name, it begins with a letter
abbrev pub IsLettered : Word → Type 0
IsLettered (mark x) = Unit {0}
IsLettered (name x) = (is_lower x || is_upper x) ≡ true
IsLettered (number x) = Unit {0}
IsLettered (quoted x) = Unit {0}

-- so of each word
abbrev pub AreLettered : List Word → Type 0
AreLettered [] = Unit {0}
AreLettered (w ∷ ws) = IsLettered w × AreLettered ws
