-- The words of a line, one blank between each two.
-- Bytes by their codes: 32 is a space, 39 `'`, 61 `=`, 126 `~`.
use Rattle.std.specs.Prelude.{ℕ, decimal, List, [], ◌∷◌, ◌++◌}
use Rattle.sap_text.specs.declared.token.Kind.TheVariants as kind
use Rattle.sap_text.specs.Tokens.{IsToken}
use Rattle.sap_terms.specs.declared.var.Var.{Var}
use Rattle.sap_terms.specs.Tree.{Tree}
use Rattle.sap_grammar.specs.TermText.{variable_text}
use Rattle.sap_runs.specs.Limits.{HasFewNodes}
use Rattle.sap_run_lines.specs.RunTerms.{IsNumber, IsRunName, IsRunContent, IsRunTerm}

-- an identifier, a number, a fresh name by its number, a public name, a variable with the term that stands for it
pub data LineWord : Type 0 where
  identifier : List ℕ → LineWord
  number : ℕ → LineWord
  fresh_name : ℕ → LineWord
  public_name : List ℕ → LineWord
  bound : Var → Tree → LineWord

-- the word, the bytes from its first on, the bytes behind its last; a term has at most 256 nodes
pub data IsLineWord : LineWord → List ℕ → List ℕ → Type 0 where
  word_identifier : {x k : List ℕ} → IsToken kind.Ident x → IsLineWord (identifier x) (x ++ k) k
  word_number : {n : ℕ} {k : List ℕ} → IsNumber n → IsLineWord (number n) (decimal n ++ k) k
  word_fresh : {n : ℕ} {k : List ℕ} → IsNumber n
      → IsLineWord (fresh_name n) (126 ∷ (decimal n ++ k)) k
  word_public : {s k : List ℕ} → IsRunContent s
      → IsLineWord (public_name s) (39 ∷ (s ++ (39 ∷ k))) k
  word_bound : {v : Var} {t : Tree} {z k : List ℕ} → IsRunName v.name → IsRunTerm t z k
      → HasFewNodes t
      → IsLineWord (bound v t) (variable_text v ++ (61 ∷ z)) k

-- all of the bytes are these words, one or more, with one blank between each two
pub data AreLineWords : List LineWord → List ℕ → Type 0 where
  words_last : {w : LineWord} {z : List ℕ} → IsLineWord w z [] → AreLineWords (w ∷ []) z
  words_more : {w : LineWord} {ws : List LineWord} {x z : List ℕ} → IsLineWord w x (32 ∷ z)
      → AreLineWords ws z → AreLineWords (w ∷ ws) x
