-- The word that tells the place to which one comes along a path, and the names of the uses through which one comes.
use Rattle.std.specs.Prelude.{◌≡◌, ℕ, ◌+◌, List, [], map, reverse}
use Rattle.sap_macro.specs.Located.{Located}
use Rattle.sap_origin.specs.Definitions.{LocatedDefinition}
use Rattle.sap_origin.specs.Reached.{Reaches, Standing, number_of}
use Rattle.sap_origin.specs.declared.origin.FileWord.{FileWord}
use Rattle.sap_origin.specs.declared.origin.Origin.{Origin}

-- how many words of the file are left from this one
abbrev pub words_left : FileWord → ℕ
words_left w = w.left + w.behind

-- at the process behind whose item so many words of the file are
abbrev pub start : ℕ → Standing
start n = record { behind = n; uses = [] }

-- along this path one comes, from a process behind whose item so many words of the file are, to a place that this word tells, through
-- uses with these names and no others, the outermost first
pub record IsOrigin (ds : List LocatedDefinition) (p : Located) (behind : ℕ) (path : List ℕ) (o : Origin)
    : Type 0 where
  pub standing : Standing
  pub place : Located
  pub reaches : Reaches ds (start behind) p path standing place
  pub word_is : words_left o.word ≡ number_of place + standing.behind
  pub uses_are : reverse (map words_left o.uses) ≡ standing.uses
