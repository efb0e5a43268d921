use Rattle.std.proofs.Common.{arith}
use Rattle.sap_formula_words.proofs.Counts.{part_counts, part_within}
use Rattle.sap_formula_words.proofs.Few.{part_fit}
use Rattle.sap_formula_words.proofs.Same.{same_parts, one_numbers}
use Rattle.sap_formula_words.proofs.Stand.{stand}
use Rattle.sap_formula_words.proofs.laws.parts_and_words.Goals as goal

pub returns-clause-parts : goal.returns-clause-parts
returns-clause-parts c = λ g e f n a b r scope. part_counts (record { counts = c.nodes_and_words.ensures.nodes; within = c.nodes_and_words.ensures.within; words = c.nodes_and_words.ensures.words; same = c.nodes_and_words.ensures.same }) scope r

pub returns-clause-few : goal.returns-clause-few
returns-clause-few c = λ g e f n a b r. omega (arith, part_fit r)

pub returns-clause-within : goal.returns-clause-within
returns-clause-within c = λ g e f n a b r. part_within (record { counts = c.nodes_and_words.ensures.nodes; within = c.nodes_and_words.ensures.within; words = c.nodes_and_words.ensures.words; same = c.nodes_and_words.ensures.same }) r

pub returns-clause-words : goal.returns-clause-words
returns-clause-words c = λ g e f n a b r scope. stand (record { counts = c.nodes_and_words.ensures.nodes; within = c.nodes_and_words.ensures.within; words = c.nodes_and_words.ensures.words; same = c.nodes_and_words.ensures.same }) scope r

pub returns-clause-same : goal.returns-clause-same
returns-clause-same c = λ g h d e f n k a b z r s. same_parts (record { counts = c.nodes_and_words.ensures.nodes; within = c.nodes_and_words.ensures.within; words = c.nodes_and_words.ensures.words; same = c.nodes_and_words.ensures.same }) r s

pub returns-clause-one : goal.returns-clause-one
returns-clause-one c = λ g d e f h n k a b z r s x y.
    let is = c.one_formula.ensures.words g d e n k f h a b z r s x y in
    one_numbers (record { counts = c.nodes_and_words.ensures.nodes; within = c.nodes_and_words.ensures.within; words = c.nodes_and_words.ensures.words; same = c.nodes_and_words.ensures.same }) r s is.0
