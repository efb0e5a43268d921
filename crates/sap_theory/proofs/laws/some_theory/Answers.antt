use Rattle.sap_theory.proofs.SomeTheory.{some_theory}
use Rattle.sap_terms.specs.declared.limits.TheConstants.{MOST_THEORY_NAME_BYTES}
use Rattle.sap_theory.proofs.laws.some_theory.Goals as goal

pub returns : goal.returns
returns c = λ z.
    let tokens = c.some_answer.ensures MOST_THEORY_NAME_BYTES z in
    some_theory c.term_laws.ensures.read c.term_laws.ensures.spelled c.item_laws.ensures c.statement_laws.ensures c.one_faulty_statement.ensures.some c.headers_are_read.ensures.found c.headers_are_read.ensures.none z tokens.0 tokens.1
