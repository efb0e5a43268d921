-- A walk that goes past a word or nowhere.
use Rattle.std.specs.Prelude.{◌≡◌, ℕ, Bool, true, false, List}
use Rattle.sap_grammar.specs.Words.{Word}
use Rattle.sap_expect.specs.FileTable.{Open, Takes}
use Rattle.sap_expect.specs.OpenMarks.{behind_word}
use Rattle.sap_expect.specs.declared.way.Way.{Way}
use Rattle.sap_expect.specs.code.WantedView.{stacked}

-- the word is taken, and what is open behind it is open; or it may not stand there, and all is as it was
abbrev pub Passed : Word → ℕ → Way → Way → Bool → Type 0
Passed w k old new true =
    Takes old.walk.levels (stacked old.walk.stack.items) w new.walk.levels (stacked new.walk.stack.items)
    × (new.marks.items ≡ behind_word k w old.marks.items)
Passed w k old new false =
    ((j : ℕ) (next : List Open) → Takes old.walk.levels (stacked old.walk.stack.items) w j next → ⊥)
    × (new.walk ≡ old.walk) × (new.marks ≡ old.marks)
