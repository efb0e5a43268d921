-- Words that the limits of levels alone keep from being a file's.
use Rattle.std.specs.Prelude.{ℕ, List, [], ◌∷◌}
use Rattle.sap_grammar.specs.Words.{Word}
use Rattle.sap_expect.specs.declared.nested.Nested.{Nested}
use Rattle.sap_expect.specs.FileTable.{Counting, Open, TakesBy, all_but, every_level, file}
use Rattle.sap_expect.specs.FileWords.{IsFileWords}
use Rattle.sap_expect.specs.FirstWrong.{GoOn}

-- the words are taken one by one, where levels count so
pub data AreTakenBy (s : Counting) : ℕ → List Open → List Word → ℕ → List Open → Type 0 where
  none_taken : {n : ℕ} {vs : List Open} → AreTakenBy s n vs [] n vs
  more_taken : {n k j : ℕ} {vs next us : List Open} {w : Word} {ws : List Word} → TakesBy s n vs w k next
      → AreTakenBy s k next ws j us → AreTakenBy s n vs (w ∷ ws) j us

-- where all levels count
abbrev pub AreTaken : ℕ → List Open → List Word → ℕ → List Open → Type 0
AreTaken = AreTakenBy every_level

-- by the table the words go on to a file's, where levels count so
abbrev pub GoesBy : Counting → List Word → Type 0
GoesBy s ws = (n : ℕ) × (vs : List Open) × AreTakenBy s 0 file ws n vs

-- no file begins with the words, but by the table they would go on if these levels didn't count
pub record IsTooDeep (c : Nested) (ws : List Word) : Type 0 where
  pub isnt : GoOn IsFileWords ws → ⊥
  pub alone : GoesBy (all_but c) ws
