-- Words of small files, to try by hand which bracket or quotation mark is open behind them.
use Rattle.std.specs.Prelude.{◌≡◌, ℕ, codes, List, [], ◌∷◌, Some, None}
use Rattle.sap_grammar.specs.Words.{Word, mark, name}
use Rattle.sap_expect.specs.ItemExamples.{headed, running}
use Rattle.sap_expect.specs.OpenMarks.{innermost_open}

-- behind `theory T begin process :` and these words the innermost that is open is word k; none is
abbrev pub IsOpenAt : List Word → ℕ → Type 0
IsOpenAt ws k = innermost_open (running ws) ≡ Some k

abbrev pub NoneIsOpen : List Word → Type 0
NoneIsOpen ws = innermost_open (running ws) ≡ None

-- the same behind `theory T begin lemma a : "` and these
abbrev pub formula : List Word → List Word
formula ws = headed (mark (codes "lemma") ∷ name (codes "a") ∷ mark (codes ":") ∷ mark (codes "\"") ∷ ws)

abbrev pub IsOpenInFormula : List Word → ℕ → Type 0
IsOpenInFormula ws k = innermost_open (formula ws) ≡ Some k

abbrev pub NoneIsOpenInFormula : List Word → Type 0
NoneIsOpenInFormula ws = innermost_open (formula ws) ≡ None

-- `out ( h (`; behind it `)`; and behind this another
abbrev pub nested : List Word
nested = mark (codes "out") ∷ mark (codes "(") ∷ name (codes "h") ∷ mark (codes "(") ∷ []

abbrev pub one_closed : List Word
one_closed =
    mark (codes "out") ∷ mark (codes "(") ∷ name (codes "h") ∷ mark (codes "(") ∷ mark (codes ")") ∷ []

abbrev pub both_closed : List Word
both_closed =
    mark (codes "out") ∷ mark (codes "(") ∷ name (codes "h") ∷ mark (codes "(") ∷ mark (codes ")") ∷ mark (codes ")") ∷ []

-- `[ ] --[`; behind it `]->`; and behind this `[`
abbrev pub shown : List Word
shown = mark (codes "[") ∷ mark (codes "]") ∷ mark (codes "--[") ∷ []

abbrev pub shown_closed : List Word
shown_closed = mark (codes "[") ∷ mark (codes "]") ∷ mark (codes "--[") ∷ mark (codes "]->") ∷ []

abbrev pub facts_behind : List Word
facts_behind =
    mark (codes "[") ∷ mark (codes "]") ∷ mark (codes "--[") ∷ mark (codes "]->") ∷ mark (codes "[") ∷ []
