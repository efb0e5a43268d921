-- Formulas and their words, by hand.
use Rattle.std.specs.Prelude.{ℕ, false, codes, List, [], ◌∷◌, ◌++◌, None}
use Rattle.sap_terms.specs.declared.var.Sort.TheVariants.{Msg, Fresh, Pub}
use Rattle.sap_terms.specs.Tree.{Tree, public, apply, none}
use Rattle.sap_formula.specs.Form.{Form, truth, action, equal, same_time, earlier, negation, both, either, implies, equivalent, every, exists}
use Rattle.sap_formula.specs.declared.binder.Binder.TheVariants.{Message, Time}
use Rattle.sap_formula.specs.declared.lemma.Mode.TheVariants.{ExistsTrace}
use Rattle.sap_grammar.specs.Words.{Word, mark, name, quoted}
use Rattle.sap_grammar.specs.TermGrammar.{pair, sorted}
use Rattle.sap_grammar.specs.FactGrammar.{fact}
use Rattle.sap_grammar.specs.declared.limits.Limits.{Limits}
use Rattle.sap_formula_grammar.specs.FormulaGrammar.{var}
use Rattle.sap_statements.specs.declared.statement.Statement.{Statement}
use Rattle.sap_statements.specs.declared.statement.Statement.TheVariants.{Restriction as restriction, Lemma as lemma}

abbrev pub a : Tree
a = public (codes "a")

abbrev pub x : Tree
x = sorted Msg (codes "x")

-- one number, two, and so on
abbrev pub one_of : ℕ → List ℕ
one_of n = n ∷ []

abbrev pub two_of : ℕ → ℕ → List ℕ
two_of n m = n ∷ m ∷ []

abbrev pub four_of : ℕ → ℕ → ℕ → ℕ → List ℕ
four_of n m k i = n ∷ m ∷ k ∷ i ∷ []

abbrev pub five_of : ℕ → ℕ → ℕ → ℕ → ℕ → List ℕ
five_of n m k i j = n ∷ m ∷ k ∷ i ∷ j ∷ []

-- `T & 'a' = T`, 5 words: the first `T` is a truth value, the last a variable
abbrev pub truth_words : List Word
truth_words = name (codes "T") ∷ mark (codes "&") ∷ quoted (codes "a") ∷ mark (codes "=") ∷ name (codes "T") ∷ []

abbrev pub truth_formula : Form
truth_formula = both truth (equal a (sorted Msg (codes "T")))

-- `x = 'a' & x = 'a' | x = 'a' ==> x = 'a'`, 15 words
abbrev pub equal_words : List Word
equal_words = name (codes "x") ∷ mark (codes "=") ∷ quoted (codes "a") ∷ []

abbrev pub four_words : List Word
four_words = equal_words ++ mark (codes "&") ∷ (equal_words ++ mark (codes "|") ∷ (equal_words ++ mark (codes "==>") ∷ equal_words))

abbrev pub four_times : Form
four_times = implies (either (both (equal x a) (equal x a)) (equal x a)) (equal x a)

-- `All c # i . A ( c ) @ i ==> T`, 13 words, where `c` is a constant
abbrev pub constant_words : List Word
constant_words =
    mark (codes "All") ∷ name (codes "c") ∷ mark (codes "#") ∷ name (codes "i") ∷ mark (codes ".") ∷ name (codes "A") ∷ mark (codes "(") ∷ name (codes "c")
    ∷ mark (codes ")") ∷ mark (codes "@") ∷ name (codes "i") ∷ mark (codes "==>") ∷ name (codes "T") ∷ []

abbrev pub constant_formula : Form
constant_formula =
    every (Message (var Msg (codes "c")) ∷ Time (codes "i") ∷ []) (implies (action (fact false (codes "A") (apply (codes "c") none ∷ [])) (codes "i")) truth)

-- `( not Ex ~ x $ y . ( i < # j ) ) <=> # i = # j`, 21 words
abbrev pub enclosed_words : List Word
enclosed_words =
    mark (codes "(") ∷ mark (codes "not") ∷ mark (codes "Ex") ∷ mark (codes "~") ∷ name (codes "x") ∷ mark (codes "$") ∷ name (codes "y") ∷ mark (codes ".")
    ∷ mark (codes "(") ∷ name (codes "i") ∷ mark (codes "<") ∷ mark (codes "#") ∷ name (codes "j") ∷ mark (codes ")") ∷ mark (codes ")") ∷ mark (codes "<=>")
    ∷ mark (codes "#") ∷ name (codes "i") ∷ mark (codes "=") ∷ mark (codes "#") ∷ name (codes "j") ∷ []

abbrev pub enclosed_formula : Form
enclosed_formula =
    equivalent (negation (exists (Message (var Fresh (codes "x")) ∷ Message (var Pub (codes "y")) ∷ []) (earlier (codes "i") (codes "j")))) (same_time (codes "i") (codes "j"))

-- numbers of its binders, of the times on the left, and of those on the right
abbrev pub enclosed_with : ℕ → ℕ → ℕ → ℕ → ℕ → ℕ → List ℕ
enclosed_with first second i j k l = first ∷ second ∷ i ∷ j ∷ k ∷ l ∷ []

-- `F ( < x , 'a' , ~ y > , x ) @ # i`, 16 words
abbrev pub shown_words : List Word
shown_words =
    name (codes "F") ∷ mark (codes "(") ∷ mark (codes "<") ∷ name (codes "x") ∷ mark (codes ",") ∷ quoted (codes "a") ∷ mark (codes ",") ∷ mark (codes "~")
    ∷ name (codes "y") ∷ mark (codes ">") ∷ mark (codes ",") ∷ name (codes "x") ∷ mark (codes ")") ∷ mark (codes "@") ∷ mark (codes "#") ∷ name (codes "i") ∷ []

abbrev pub shown : Form
shown = action (fact false (codes "F") (pair x (pair a (sorted Fresh (codes "y"))) ∷ x ∷ [])) (codes "i")

-- numbers of the fact, the tuple, its first part, the pair behind the comma, its last part, the second argument, the time
abbrev pub shown_with : ℕ → ℕ → ℕ → ℕ → ℕ → ℕ → ℕ → List ℕ
shown_with head tuple first rest last second time = head ∷ tuple ∷ first ∷ rest ∷ last ∷ second ∷ time ∷ []

-- these words and a closing quotation mark
abbrev pub quoted_words : List Word
quoted_words =
    name (codes "T") ∷ mark (codes "&") ∷ quoted (codes "a") ∷ mark (codes "=") ∷ name (codes "T") ∷ mark (codes "\"") ∷ []

-- `lemma L [ reuse ] : exists - trace " T & 'a' = T "`, 16 words
abbrev pub lemma_words : List Word
lemma_words =
    mark (codes "lemma") ∷ name (codes "L") ∷ mark (codes "[") ∷ name (codes "reuse") ∷ mark (codes "]") ∷ mark (codes ":") ∷ name (codes "exists")
    ∷ mark (codes "-") ∷ name (codes "trace") ∷ mark (codes "\"") ∷ quoted_words

abbrev pub a_lemma : Statement
a_lemma = lemma (record { name = codes "L"; attributes = codes "reuse" ∷ []; mode = ExistsTrace; formula = truth_formula })

-- `restriction R : " T & 'a' = T "`, 10 words
abbrev pub restriction_words : List Word
restriction_words =
    mark (codes "restriction") ∷ name (codes "R") ∷ mark (codes ":") ∷ mark (codes "\"") ∷ quoted_words

abbrev pub a_restriction : Statement
a_restriction = restriction (record { name = codes "R"; formula = truth_formula })

-- limits of two levels of formulas, and terms of one
abbrev pub limits : Limits
limits = record { name_bytes = 1; term_levels = 1; term_nodes = None; formula_levels = 2 }
