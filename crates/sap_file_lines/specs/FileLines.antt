-- On which line of a file the place stands to which one comes along a path.
use Rattle.std.specs.Prelude.{◌≡◌, ℕ, ◌+◌, ◌-◌, List, [], ◌∷◌, ◌++◌, length, take, Bool, true, false, Option, Some, None}
use Rattle.sap_text.specs.Tokens.{line_feeds}
use Rattle.sap_text.specs.declared.token.Token.{Token}
use Rattle.sap_stretches.specs.Stretches.{stretch_at}
use Rattle.sap_macro.specs.Located.{Located, nil_at, call_at, parallel_at, replicated_at, act_at, test_at, lookup_at}
use Rattle.sap_origin.specs.Definitions.{LocatedDefinition}
use Rattle.sap_origin.specs.Origins.{start}
use Rattle.sap_origin.specs.Reached.{Reaches, Standing, number_of}

-- how many words of the file are left from the word that tells the place: the first of its head, of a parallel its sign
abbrev pub words_from : Standing → Located → ℕ
words_from z q = number_of q + z.behind

-- the line of the word from which so many of the file are left: one more than the line feeds before it
abbrev pub line_before : List ℕ → List Token → ℕ → ℕ
line_before bytes ts n = line_feeds (take (stretch_at ts (length ts - n)).from bytes) + 1

-- it is `0`
abbrev pub is_nothing : Located → Bool
is_nothing (nil_at k) = true
is_nothing (call_at k f ts) = false
is_nothing (parallel_at k p q) = false
is_nothing (replicated_at k p) = false
is_nothing (act_at k a p) = false
is_nothing (test_at k t u p q) = false
is_nothing (lookup_at k t x p q) = false

-- The place, to which one comes along this path, is a `0` that nobody wrote: it has no word of its own, and is told by that of the place
-- above it, behind which it is missing.
pub record IsMissing (ds : List LocatedDefinition) (p : Located) (behind : ℕ) (path : List ℕ) (z : Standing)
    (q : Located) : Type 0 where
  pub nothing : is_nothing q ≡ true
  pub front : List ℕ
  pub digit : ℕ
  pub path_is : path ≡ front ++ digit ∷ []
  pub standing : Standing
  pub above : Located
  pub reaches : Reaches ds (start behind) p front standing above
  pub one_word : words_from standing above ≡ words_from z q

-- In the file of these bytes and tokens, with these definitions and this process, behind whose item so many words are, one comes along
-- this path to a place that somebody wrote, and this is the line of the word that tells it: of the body of a `let`, where it stands
-- there.
pub record IsLineAt (bytes : List ℕ) (ts : List Token) (ds : List LocatedDefinition) (p : Located) (behind : ℕ)
    (path : List ℕ) (line : ℕ) : Type 0 where
  pub standing : Standing
  pub place : Located
  pub reaches : Reaches ds (start behind) p path standing place
  pub is_written : IsMissing ds p behind path standing place → ⊥
  pub line_is : line ≡ line_before bytes ts (words_from standing place)

-- these are the lines of all its places, by their paths: none exactly where one comes to no place that somebody wrote
pub record AreLinesByPath (bytes : List ℕ) (ts : List Token) (ds : List LocatedDefinition) (p : Located) (behind : ℕ)
    (lines : List ℕ → Option ℕ) : Type 0 where
  pub some : (path : List ℕ) (n : ℕ) → lines path ≡ Some n → IsLineAt bytes ts ds p behind path n
  pub none : (path : List ℕ) (n : ℕ) → lines path ≡ None → IsLineAt bytes ts ds p behind path n → ⊥
