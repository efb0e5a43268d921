use Rattle.std.proofs.Common.{◌≡◌, ◌≤◌, ◌+◌, ◌*◌, ℕ}
use Rattle.sap_grammar.specs.Words.{words_of}
use Rattle.sap_formula_grammar.specs.FormulaReading.{turns}
use Rattle.sap_formula_grammar.specs.code.FormulaView.{levelled, made, operand, sign_of}
use Rattle.sap_formula_grammar.specs.declared.formula.build.Connective.{Connective}
use Rattle.sap_formula_grammar.specs.declared.formula.build.Connective.TheVariants.{And, Or, Imp, Iff}
use Rattle.sap_formula_grammar.proofs.formula.grammar.+read.Given as goal

-- what is called first at one depth comes last
abbrev rank : Connective → ℕ
rank And = 0
rank Or = 4
rank Imp = 8
rank Iff = 13

abbrev pub decreases-read_un : goal.decreases-read_un
decreases-read_un l = 32 * l.depth

abbrev pub decreases-read_negation : goal.decreases-read_negation
decreases-read_negation l = 32 * l.depth + 1

abbrev pub decreases-read_operand : goal.decreases-read_operand
decreases-read_operand l = 32 * l.depth + rank l.connective + 1

abbrev pub decreases-read_second : goal.decreases-read_second
decreases-read_second l = 32 * l.depth + rank l.connective + 2

abbrev pub decreases-read_turns : goal.decreases-read_turns
decreases-read_turns l = 32 * l.depth + rank l.connective + 3

abbrev pub decreases-read_chain : goal.decreases-read_chain
decreases-read_chain l = 32 * l.depth + rank l.connective + 4

abbrev pub decreases-read_imp : goal.decreases-read_imp
decreases-read_imp l = 32 * l.depth + 13

abbrev pub decreases-read_last : goal.decreases-read_last
decreases-read_last l = 32 * l.depth + 18

abbrev pub decreases-read_iff : goal.decreases-read_iff
decreases-read_iff l = 32 * l.depth + 19

abbrev pub decreases-read_enclosed : goal.decreases-read_enclosed
decreases-read_enclosed l = 32 * l.depth + 20

abbrev pub decreases-read_quantified : goal.decreases-read_quantified
decreases-read_quantified l = 32 * l.depth + 21

abbrev pub invariant-read_turns-loop-turns : goal.invariant-read_turns-loop-turns
invariant-read_turns-loop-turns l =
    (turns (operand l.fn.sig l.fn.limits l.fn.depth l.fn.connective) l.fn.depth (made l.fn.connective) (sign_of l.fn.connective) l.fn.most (levelled l.fn.first) (words_of l.fn.bytes l.fn.tokens)
    ≡ turns (operand l.fn.sig l.fn.limits l.fn.depth l.fn.connective) l.fn.depth (made l.fn.connective) (sign_of l.fn.connective) l.turns (levelled l.left) (words_of l.fn.bytes l.rest))
    × (1 ≤ l.left.levels) × (l.left.levels ≤ l.fn.depth)

abbrev pub decreases-read_turns-loop-turns : goal.decreases-read_turns-loop-turns
decreases-read_turns-loop-turns l = l.turns
