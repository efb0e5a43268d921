-- Which bytes spell a ground term in a run: the term, the bytes from its first on, the bytes behind its last.
-- Bytes by their codes: 39 is `'`, 40 and 41 are parentheses, 44 a comma, 60 `<`, 62 `>`, 126 `~`.
use Rattle.std.specs.Prelude.{◌<◌, ℕ, ◌^◌, decimal, List, ◌∷◌, ◌++◌}
use Rattle.sap_terms.specs.declared.limits.TheConstants.{MOST_FILE_NAME_BYTES, MOST_THEORY_NAME_BYTES}
use Rattle.sap_terms.specs.Tree.{Tree, public, fresh, apply, Trees, none, more}
use Rattle.sap_grammar.specs.TermGrammar.{pair}
use Rattle.sap_grammar.specs.ByteWords.{IsName, IsContent}

-- a number that lines write: at most the greatest of 64 bits
abbrev pub IsNumber : ℕ → Type 0
IsNumber n = n < 2 ^ 64

-- the name of a symbol, a rule or a variable
abbrev pub IsRunName : List ℕ → Type 0
IsRunName = IsName MOST_THEORY_NAME_BYTES

-- a public name without its quotes
abbrev pub IsRunContent : List ℕ → Type 0
IsRunContent = IsContent MOST_FILE_NAME_BYTES

mutual
  -- a public name in quotes; a fresh name, `~` before its number; a lone name, which is a symbol without terms; a symbol
  -- before terms in parentheses; a tuple of two parts or more. No blank stands outside of quotes
  pub data IsRunTerm : Tree → List ℕ → List ℕ → Type 0 where
    term_public : {s k : List ℕ} → IsRunContent s → IsRunTerm (public s) (39 ∷ (s ++ (39 ∷ k))) k
    term_fresh : {n : ℕ} {k : List ℕ} → IsNumber n → IsRunTerm (fresh n) (126 ∷ (decimal n ++ k)) k
    term_constant : {f k : List ℕ} → IsRunName f → IsRunTerm (apply f none) (f ++ k) k
    term_symbol : {f z k : List ℕ} {ts : Trees} → IsRunName f → AreRunTerms ts z k
        → IsRunTerm (apply f ts) (f ++ (40 ∷ z)) k
    term_tuple : {t u : Tree} {x y k : List ℕ} → IsRunTerm t x (44 ∷ y) → IsRunRest u y k
        → IsRunTerm (pair t u) (60 ∷ x) k

  -- the parts of a tuple behind a comma, paired to the right, and the tuple's end
  pub data IsRunRest : Tree → List ℕ → List ℕ → Type 0 where
    rest_last : {t : Tree} {z k : List ℕ} → IsRunTerm t z (62 ∷ k) → IsRunRest t z k
    rest_more : {t u : Tree} {x y k : List ℕ} → IsRunTerm t x (44 ∷ y) → IsRunRest u y k
        → IsRunRest (pair t u) x k

  -- terms, one or more, with commas between them and a closing parenthesis behind
  pub data AreRunTerms : Trees → List ℕ → List ℕ → Type 0 where
    terms_last : {t : Tree} {z k : List ℕ} → IsRunTerm t z (41 ∷ k) → AreRunTerms (more t none) z k
    terms_more : {t : Tree} {ts : Trees} {x y k : List ℕ} → IsRunTerm t x (44 ∷ y)
        → AreRunTerms ts y k → AreRunTerms (more t ts) x k
