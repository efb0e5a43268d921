use Rattle.sap_formula_grammar.proofs.formula.read_formula.Goals as goal

pub returns-in-None-clause-none : goal.returns-in-None-clause-none
returns-in-None-clause-none c = rw (c.in-None.is, c.as_slice.ensures.value) at c.in_ok-read_boxed.ensures.none
