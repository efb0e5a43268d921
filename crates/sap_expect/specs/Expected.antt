-- What is expected in place of a word with which no file goes on.
use Rattle.std.specs.Prelude.{ℕ, ◌+◌, List, map, take}
use Rattle.sap_grammar.specs.Words.{Word}
use Rattle.sap_expect.specs.declared.expected.Expected as code
use Rattle.sap_expect.specs.declared.expected.Expected.TheVariants.{OneOf, FewerLevels}
use Rattle.sap_expect.specs.declared.nested.Nested.{Nested}
use Rattle.sap_expect.specs.Kinds.{Kind, kind_of}
use Rattle.sap_expect.specs.Levels.{IsTooDeep}
use Rattle.sap_expect.specs.MayStand.{IsWantedList}

-- a word of one of these kinds; or fewer levels of terms, processes or formulas
pub data Expected : Type 0 where
  one_of : List Kind → Expected
  fewer_levels : Nested → Expected

-- at word number k, the first with which the words are no file's any more: fewer levels, where the limit of these alone keeps the word from
-- standing there; else a word of the kinds that may stand
pub data IsExpected (ws : List Word) (k : ℕ) : Expected → Type 0 where
  too_deep : {c : Nested} → IsTooDeep c (take (k + 1) ws) → IsExpected ws k (fewer_levels c)
  may_stand : {those : List Kind} → ((c : Nested) → IsTooDeep c (take (k + 1) ws) → ⊥)
      → IsWantedList (take k ws) those → IsExpected ws k (one_of those)

-- what the code says
abbrev pub expected_of : code.Expected → Expected
expected_of (OneOf ks) = one_of (map kind_of ks.items)
expected_of (FewerLevels c) = fewer_levels c
