-- The word of the first use with another number of arguments.
use Rattle.std.specs.Prelude.{◌==◌, ℕ, List, [], ◌∷◌, length, Option, Some, None, if◌then◌else◌}
use Rattle.sap_use_words.specs.WrittenUses.{LocatedUse}

-- the word of the first of these uses that has not so many arguments
abbrev pub first_word : (List ℕ → ℕ) → List LocatedUse → Option ℕ
first_word count [] = None
first_word count (u ∷ us) =
    if length u.args == count u.name then first_word count us else Some u.word
