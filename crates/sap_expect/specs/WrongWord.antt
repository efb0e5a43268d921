-- What is found of words that are no file's.
use Rattle.std.specs.Prelude.{◌≡◌, ℕ, List, MatchOption, Option, take}
use Rattle.sap_grammar.specs.Words.{Word}
use Rattle.sap_expect.specs.Expected.{IsExpected, expected_of}
use Rattle.sap_expect.specs.FileWords.{IsFileWords}
use Rattle.sap_expect.specs.FirstWrong.{IsFirstWrong}
use Rattle.sap_expect.specs.OpenMarks.{innermost_open}
use Rattle.sap_expect.specs.declared.wrong.Wrong.{Wrong}

-- so many words stand before the first with which the words are no file's any more, this is expected in its place, and so many stand
-- before the innermost bracket or quotation mark that is open there
pub record IsWrongWord (ws : List Word) (w : Wrong) : Type 0 where
  pub first : IsFirstWrong IsFileWords ws w.number
  pub expected : IsExpected ws w.number (expected_of w.expected)
  pub open_there : w.open ≡ innermost_open (take w.number ws)

-- the words are a file's, or so many stand before the first wrong one
abbrev pub IsWrongAt : List Word → Option ℕ → Type 0
IsWrongAt ws o = MatchOption o (IsFileWords ws) (λ k. IsFirstWrong IsFileWords ws k)

-- they are, or this is wrong
abbrev pub IsFound : List Word → Option Wrong → Type 0
IsFound ws o = MatchOption o (IsFileWords ws) (λ w. IsWrongWord ws w)
