-- Which words of a file are parameters of definitions.
use Rattle.std.specs.Prelude.{◌≡◌, ◌<◌, ◌+◌, ◌*◌, ℕ, Bool, true, ◌&&◌, codes, List, drop}
use Rattle.sap_text.specs.declared.token.Token.{Token}
use Rattle.sap_grammar.specs.Words.{words_of}
use Rattle.sap_grammar.specs.Reading.{names}
use Rattle.sap_where.specs.TokenWords.{is_named, stands}

-- a definition with parameters begins with token number i: `let`, a name, and a parenthesis
abbrev pub opens_parameters : List ℕ → List Token → ℕ → Bool
opens_parameters z ts i =
    stands z ts (codes "let") i && is_named z ts (i + 1) && stands z ts (codes "(") (i + 2)

-- a parameter stands there, with a comma behind it
abbrev pub goes_on : List ℕ → List Token → ℕ → Bool
goes_on z ts n = is_named z ts n && stands z ts (codes ",") (n + 1)

-- where parameter number j of that definition stands, from 0: before it the first three words, and two for each parameter before it
abbrev pub parameter_at : (i j : ℕ) → ℕ
parameter_at i j = i + (3 + 2 * j)

-- as token number n a parameter of the definition that begins with token i can stand: behind the parenthesis, or behind parameters with
-- a comma behind each
pub record CanBeParameter (z : List ℕ) (ts : List Token) (i n : ℕ) : Type 0 where
  pub opens : opens_parameters z ts i ≡ true
  pub number : ℕ
  pub place : n ≡ parameter_at i number
  pub before : (j : ℕ) → j < number → goes_on z ts (parameter_at i j) ≡ true

-- this name stands there
pub record IsParameter (z : List ℕ) (ts : List Token) (x : List ℕ) (i n : ℕ) : Type 0 where
  pub can : CanBeParameter z ts i n
  pub is : names x (words_of z (drop n ts)) ≡ true
