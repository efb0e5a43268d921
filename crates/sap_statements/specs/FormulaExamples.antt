-- Words of formulas and of a lemma, worked by hand.
use Rattle.std.specs.Prelude.{codes, List, [], ◌∷◌}
use Rattle.sap_terms.specs.declared.var.Sort.TheVariants.{Msg}
use Rattle.sap_formula.specs.Form.{Form, truth, falsity, equal, same_time, negation, both, either, implies, equivalent, every, exists}
use Rattle.sap_formula.specs.declared.binder.Binder.TheVariants.{Message, Time}
use Rattle.sap_formula.specs.declared.lemma.Mode.TheVariants.{ExistsTrace}
use Rattle.sap_grammar.specs.TermGrammar.{sorted}
use Rattle.sap_grammar.specs.Words.{Word, mark, name}
use Rattle.sap_formula_grammar.specs.FormulaGrammar.{var}
use Rattle.sap_statements.specs.Statements.{Statement, lemma}

-- a closing quotation mark and nothing behind it
abbrev pub closing : List Word
closing = mark (codes "\"") ∷ []

-- `T & F | not T ==> F <=> T`: each connective binds more than the next
abbrev pub precedence_words : List Word
precedence_words =
    name (codes "T") ∷ mark (codes "&") ∷ name (codes "F") ∷ mark (codes "|") ∷ mark (codes "not") ∷ name (codes "T") ∷ mark (codes "==>")
    ∷ name (codes "F") ∷ mark (codes "<=>") ∷ name (codes "T") ∷ closing

abbrev pub precedence_formula : Form
precedence_formula = equivalent (implies (either (both truth falsity) (negation truth)) falsity) truth

-- `T & F & T`
abbrev pub left_words : List Word
left_words = name (codes "T") ∷ mark (codes "&") ∷ name (codes "F") ∷ mark (codes "&") ∷ name (codes "T") ∷ closing

abbrev pub left_formula : Form
left_formula = both (both truth falsity) truth

-- `T ==> F ==> T`
abbrev pub right_words : List Word
right_words = name (codes "T") ∷ mark (codes "==>") ∷ name (codes "F") ∷ mark (codes "==>") ∷ name (codes "T") ∷ closing

abbrev pub right_formula : Form
right_formula = implies truth (implies falsity truth)

-- `Ex x #i. #i = #i & F`: the body reaches to the right end
abbrev pub body_words : List Word
body_words =
    mark (codes "Ex") ∷ name (codes "x") ∷ mark (codes "#") ∷ name (codes "i") ∷ mark (codes ".") ∷ mark (codes "#") ∷ name (codes "i") ∷ mark (codes "=")
    ∷ mark (codes "#") ∷ name (codes "i") ∷ mark (codes "&") ∷ name (codes "F") ∷ closing

abbrev pub body_formula : Form
body_formula = exists (Message (var Msg (codes "x")) ∷ Time (codes "i") ∷ []) (both (same_time (codes "i") (codes "i")) falsity)

-- `All #i. T <=> T <=> T`: the second `<=>` would follow a quantifier without parentheses round it
abbrev pub chain_words : List Word
chain_words =
    mark (codes "All") ∷ mark (codes "#") ∷ name (codes "i") ∷ mark (codes ".") ∷ name (codes "T") ∷ mark (codes "<=>") ∷ name (codes "T")
    ∷ mark (codes "<=>") ∷ name (codes "T") ∷ closing

-- `(All #i. T <=> T) <=> T`
abbrev pub enclosed_words : List Word
enclosed_words =
    mark (codes "(") ∷ mark (codes "All") ∷ mark (codes "#") ∷ name (codes "i") ∷ mark (codes ".") ∷ name (codes "T") ∷ mark (codes "<=>") ∷ name (codes "T")
    ∷ mark (codes ")") ∷ mark (codes "<=>") ∷ name (codes "T") ∷ closing

abbrev pub enclosed_formula : Form
enclosed_formula = equivalent (every (Time (codes "i") ∷ []) (equivalent truth truth)) truth

-- `x = T`: a variable of the name of a truth value
abbrev pub name_words : List Word
name_words = name (codes "x") ∷ mark (codes "=") ∷ name (codes "T") ∷ closing

abbrev pub name_formula : Form
name_formula = equal (sorted Msg (codes "x")) (sorted Msg (codes "T"))

-- `T = x`: begins with a truth value
abbrev pub truth_words : List Word
truth_words = name (codes "T") ∷ mark (codes "=") ∷ name (codes "x") ∷ closing

-- `lemma l [reuse, use_induction]: exists-trace "F"`
abbrev pub lemma_words : List Word
lemma_words =
    mark (codes "lemma") ∷ name (codes "l") ∷ mark (codes "[") ∷ name (codes "reuse") ∷ mark (codes ",") ∷ name (codes "use_induction") ∷ mark (codes "]")
    ∷ mark (codes ":") ∷ name (codes "exists") ∷ mark (codes "-") ∷ name (codes "trace") ∷ mark (codes "\"") ∷ name (codes "F") ∷ closing

abbrev pub lemma_statement : Statement
lemma_statement =
    lemma (record { name = codes "l"; attributes = codes "reuse" ∷ codes "use_induction" ∷ []; mode = ExistsTrace; formula = falsity })
