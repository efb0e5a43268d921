-- The words of a term and of a fact as they are printed, before other words.
use Rattle.std.specs.Prelude.{ℕ, Bool, true, false, if◌then◌else◌, codes, decimal, List, [], ◌∷◌}
use Rattle.sap_terms.specs.declared.fact.Fact.{Fact}
use Rattle.sap_terms.specs.declared.var.Sort.{Sort}
use Rattle.sap_terms.specs.declared.var.Sort.TheVariants.{Msg, Fresh, Pub}
use Rattle.sap_terms.specs.Tree.{Tree, variable, public, fresh, apply, Trees, none, more, trees_of}
use Rattle.sap_grammar.specs.Words.{Word, mark, name, number, quoted}
use Rattle.sap_grammar.specs.TermText.{is_pair}

-- some words before others
abbrev pub Before : Type 0
Before = List Word → List Word

-- words in these marks, where that is asked for
abbrev pub enclosed : Bool → List ℕ → List ℕ → Before → Before
enclosed asked opening closing words k = if asked then mark opening ∷ words (mark closing ∷ k) else words k

-- a variable with its sign
abbrev pub variable_words : Sort → List ℕ → Before
variable_words Msg x k = name x ∷ k
variable_words Fresh x k = mark (codes "~") ∷ name x ∷ k
variable_words Pub x k = mark (codes "$") ∷ name x ∷ k

abbrev mutual
  -- a term; the second part of a pair goes on inside the brackets of the first
  pub term_words : Bool → Tree → Before
  term_words is_open (variable v) k = variable_words v.sort v.name k
  term_words is_open (public n) k = quoted n ∷ k
  term_words is_open (fresh i) k = mark (codes "~") ∷ number (decimal i) ∷ k
  term_words is_open (apply f ts) k =
      if is_pair f ts then enclosed (if is_open then false else true) (codes "<") (codes ">") (pair_words ts) k
      else name f ∷ args_words ts k

  -- both parts of a pair
  pub pair_words : Trees → Before
  pair_words (more t (more u ts)) k = term_words false t (mark (codes ",") ∷ term_words true u k)
  pair_words _ k = k

  -- arguments in parentheses, where there are some
  pub args_words : Trees → Before
  args_words none k = k
  args_words (more t ts) k = mark (codes "(") ∷ term_words false t (rest_words ts (mark (codes ")") ∷ k))

  -- further arguments, each behind a comma
  pub rest_words : Trees → Before
  rest_words none k = k
  rest_words (more t ts) k = mark (codes ",") ∷ term_words false t (rest_words ts k)

-- arguments of a fact, and the closing parenthesis
abbrev pub list_words : List Tree → Before
list_words [] k = mark (codes ")") ∷ k
list_words (t ∷ ts) k = term_words false t (rest_words (trees_of ts) (mark (codes ")") ∷ k))

-- a fact, behind `!` where it is persistent
abbrev pub fact_words : Fact → Before
fact_words f k =
    if f.persistent then mark (codes "!") ∷ name f.name ∷ mark (codes "(") ∷ list_words f.args k
    else name f.name ∷ mark (codes "(") ∷ list_words f.args k
