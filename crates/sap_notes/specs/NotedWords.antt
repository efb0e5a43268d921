-- Which words of a file declare functions and name definitions.
use Rattle.std.specs.Prelude.{◌≡◌, ◌<◌, ℕ, zero, suc, Bool, true, false, codes, List, drop}
use Rattle.sap_text.specs.declared.token.Token.{Token}
use Rattle.sap_grammar.specs.Reading.{names}
use Rattle.sap_grammar.specs.Words.{words_of}
use Rattle.sap_where.specs.FileDeclarations.{in_item, is_next}
use Rattle.sap_where.specs.TokenWords.{stands}

-- token number k is this name, and a function of this name is declared there: it is behind the colon or a comma of an item of functions
pub record IsDeclaredAt (z : List ℕ) (ts : List Token) (x : List ℕ) (k : ℕ) : Type 0 where
  pub is : names x (words_of z (drop k ts)) ≡ true
  pub item : in_item z ts (codes "functions") k ≡ true
  pub next : is_next z ts k ≡ true

-- and none is before it
pub record IsFirstDeclaredAt (z : List ℕ) (ts : List Token) (x : List ℕ) (k : ℕ) : Type 0 where
  pub here : IsDeclaredAt z ts x k
  pub none_before : (i : ℕ) → i < k → IsDeclaredAt z ts x i → ⊥

-- `let` stands before token number k
abbrev pub is_behind_let : List ℕ → List Token → ℕ → Bool
is_behind_let z ts zero = false
is_behind_let z ts (suc k) = stands z ts (codes "let") k

-- token number k is this name, and a definition has it
pub record IsDefinedAt (z : List ℕ) (ts : List Token) (x : List ℕ) (k : ℕ) : Type 0 where
  pub is : names x (words_of z (drop k ts)) ≡ true
  pub behind : is_behind_let z ts k ≡ true
