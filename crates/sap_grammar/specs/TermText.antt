-- How terms are written.
use Rattle.std.specs.Prelude.{ℕ, Bool, true, false, if◌then◌else◌, codes, decimal, List, [], ◌∷◌, ◌++◌}
use Rattle.std.specs.Str.{bytes_eq}
use Rattle.sap_terms.specs.declared.var.Sort.{Sort}
use Rattle.sap_terms.specs.declared.var.Sort.TheVariants.{Msg, Fresh, Pub}
use Rattle.sap_terms.specs.declared.var.Var.{Var}
use Rattle.sap_terms.specs.Tree.{Tree, variable, public, fresh, apply, Trees, none, more}
use Rattle.sap_grammar.specs.Pieces.{joined}

-- what a variable of this sort begins with
abbrev pub sign_of : Sort → List ℕ
sign_of Msg = []
sign_of Fresh = codes "~"
sign_of Pub = codes "$"

-- the variable with its sign
abbrev pub variable_text : Var → List ℕ
variable_text v = sign_of v.sort ++ v.name

-- the symbol of pairs on two terms
abbrev pub is_pair : List ℕ → Trees → Bool
is_pair f (more t (more u none)) = bytes_eq f (codes "pair")
is_pair f ts = false

-- the parts of a pair, with brackets unless some are open
abbrev pub in_brackets : Bool → List ℕ → List ℕ
in_brackets is_open text = if is_open then text else codes "<" ++ (text ++ codes ">")

-- a symbol with its arguments; a constant has no parentheses
abbrev pub applied : List ℕ → List (List ℕ) → List ℕ
applied f [] = f
applied f (text ∷ texts) = f ++ (codes "(" ++ (joined (codes ",") (text ∷ texts) ++ codes ")"))

abbrev mutual
  -- a term without blanks; the second part of a pair goes on inside the brackets of the first
  pub term_text : Bool → Tree → List ℕ
  term_text is_open (variable v) = variable_text v
  term_text is_open (public n) = codes "'" ++ (n ++ codes "'")
  term_text is_open (fresh k) = codes "~" ++ decimal k
  term_text is_open (apply f ts) = if is_pair f ts then in_brackets is_open (pair_text ts)
      else applied f (term_texts ts)

  -- the two parts of a pair, with a comma between them
  pub pair_text : Trees → List ℕ
  pair_text (more t (more u ts)) = term_text false t ++ (codes "," ++ term_text true u)
  pair_text _ = []

  -- each of these by itself
  pub term_texts : Trees → List (List ℕ)
  term_texts none = []
  term_texts (more t ts) = term_text false t ∷ term_texts ts

-- a term whose brackets aren't open
abbrev pub tree_text : Tree → List ℕ
tree_text t = term_text false t
