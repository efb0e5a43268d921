use Rattle.sap_read.proofs.laws.grammar_is_one.Goals as goal

pub returns-clause-terms : goal.returns-clause-terms
returns-clause-terms c = λ g h t a b r. let u = c.same_grammar.ensures.terms g h t a b r in (u.0, u.1, u.2)

pub returns-clause-facts : goal.returns-clause-facts
returns-clause-facts c = λ g h f a b r. let u = c.same_grammar.ensures.facts g h f a b r in (u.0, u.1, u.2)

pub returns-clause-processes : goal.returns-clause-processes
returns-clause-processes c = c.same_processes.ensures

pub returns-clause-statements : goal.returns-clause-statements
returns-clause-statements c = c.statement_laws.ensures.too
