use Rattle.std.proofs.Common.{refl}
use Rattle.sap_formula_grammar.specs.FormulaGrammar.{EndsFormula, reaching}
use Rattle.sap_statements.specs.FormulaExamples.{body_formula, body_words, closing}
use Rattle.sap_statements.proofs.ByHand.{precedence_is, left_is, right_is, body_is, chain_is_none, enclosed_is, name_is, truth_is_none, lemma_is}
use Rattle.sap_statements.proofs.laws.formulas_by_hand.Goals as goal

pub returns-clause-precedence : goal.returns-clause-precedence
returns-clause-precedence c = precedence_is

pub returns-clause-left : goal.returns-clause-left
returns-clause-left c = left_is

pub returns-clause-right : goal.returns-clause-right
returns-clause-right c = right_is

pub returns-clause-body : goal.returns-clause-body
returns-clause-body c = body_is

pub returns-clause-one_body : goal.returns-clause-one_body
returns-clause-one_body c = λ g e n f r.
    let ends : EndsFormula closing = record { no_parenthesis = refl; no_and = refl; no_or = refl; no_imp = refl; no_iff = refl } in
    let same = c.one_formula.ensures.words g e reaching n 3 f body_formula body_words closing closing r (body_is g) ends ends in
    same.0

pub returns-clause-chain : goal.returns-clause-chain
returns-clause-chain c = chain_is_none c.formula_laws.ensures

pub returns-clause-enclosed : goal.returns-clause-enclosed
returns-clause-enclosed c = enclosed_is

pub returns-clause-name : goal.returns-clause-name
returns-clause-name c = name_is

pub returns-clause-truth : goal.returns-clause-truth
returns-clause-truth c = truth_is_none c.formula_laws.ensures

pub returns-clause-said : goal.returns-clause-said
returns-clause-said c = lemma_is
