-- The nodes of a term that words spell, in preorder, a symbol before its arguments, each with the words that are left from the one
-- that tells it: of a variable and a symbol its name, also behind a sign, of a public name that name, of a tuple its `<`. A tuple of
-- more than two parts is a pair whose second part is a pair again: that one has the first word of its first part.
use Rattle.std.specs.Prelude.{◌≡◌, ℕ, suc, ◌-◌, codes, List, [], ◌∷◌, ◌++◌, length, drop}
use Rattle.sap_terms.specs.Signature.{Sig}
use Rattle.sap_terms.specs.declared.var.Sort.{Sort}
use Rattle.sap_terms.specs.Tree.{Tree, variable, public, fresh, apply, Trees, none, more}
use Rattle.sap_grammar.specs.Words.{Word, mark, name, quoted}
use Rattle.sap_grammar.specs.TermGrammar.{sorted, pair, IsTerm, IsRest, IsList, IsArgs, term_constant, term_message, term_fresh, term_pub, term_quoted, term_symbol, term_tuple, rest_last, rest_more, list_last, list_more, args_none, args_some}

abbrev mutual
  -- of each node the number of words from its own on, to the end of all words
  pub term_words : {g : Sig} {t : Tree} {a b : List Word} → IsTerm g t a b → List ℕ
  term_words (term_constant {a = a} is) = suc (length a) ∷ []
  term_words (term_message {a = a} is) = suc (length a) ∷ []
  term_words (term_fresh {a = a}) = suc (length a) ∷ []
  term_words (term_pub {a = a}) = suc (length a) ∷ []
  term_words (term_quoted {a = a}) = suc (length a) ∷ []
  term_words (term_symbol {a = a} low r) = suc (suc (length a)) ∷ args_words r
  term_words (term_tuple {a = a} r s) = suc (length a) ∷ (term_words r ++ rest_words s)

  -- so of the parts of a tuple behind a comma
  pub rest_words : {g : Sig} {t : Tree} {a b : List Word} → IsRest g t a b → List ℕ
  rest_words (rest_last r) = term_words r
  rest_words (rest_more {a = a} r s) = length a ∷ (term_words r ++ rest_words s)

  -- so of terms with commas between them
  pub list_words : {g : Sig} {ts : List Tree} {a b : List Word} → IsList g ts a b → List ℕ
  list_words (list_last r) = term_words r
  list_words (list_more r s) = term_words r ++ list_words s

  -- so of arguments
  pub args_words : {g : Sig} {ts : List Tree} {a b : List Word} → IsArgs g ts a b → List ℕ
  args_words args_none = []
  args_words (args_some r) = list_words r

-- all of the words spell this term, and its nodes have these numbers
pub record HasWords (g : Sig) (t : Tree) (a : List Word) (ns : List ℕ) : Type 0 where
  pub spelled : IsTerm g t a []
  pub numbers : term_words spelled ≡ ns

abbrev mutual
  -- the subterms of a term in preorder, one for each node
  pub nodes : Tree → List Tree
  nodes (variable v) = variable v ∷ []
  nodes (public n) = public n ∷ []
  nodes (fresh k) = fresh k ∷ []
  nodes (apply f ts) = apply f ts ∷ nodes_of ts

  -- those of terms, one after the other
  pub nodes_of : Trees → List Tree
  nodes_of none = []
  nodes_of (more t ts) = nodes t ++ nodes_of ts

-- which words a node has from its own on: of a variable its name, of a public name that name; of a symbol or tuple those that spell
-- it; of a pair behind a comma those of its first part, the comma, and the rest of the tuple
pub data StandsAt (g : Sig) : Tree → List Word → Type 0 where
  at_name : {s : Sort} {x : List ℕ} {a : List Word} → StandsAt g (sorted s x) (name x ∷ a)
  at_public : {s : List ℕ} {a : List Word} → StandsAt g (public s) (quoted s ∷ a)
  at_symbol : {f : List ℕ} {ts : Trees} {a b : List Word} → IsTerm g (apply f ts) (name f ∷ a) b
      → StandsAt g (apply f ts) (name f ∷ a)
  at_tuple : {t u : Tree} {a b : List Word} → IsTerm g (pair t u) (mark (codes "<") ∷ a) b
      → StandsAt g (pair t u) (mark (codes "<") ∷ a)
  at_rest : {t u : Tree} {a b c : List Word} → IsTerm g t a (mark (codes ",") ∷ b) → IsRest g u b c
      → StandsAt g (pair t u) a

-- the last words, so many
abbrev pub last_words : ℕ → List Word → List Word
last_words n a = drop (length a - n) a
