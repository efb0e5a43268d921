use Rattle.sap_terms.specs.declared.limits.TheConstants.{MOST_FILE_NAME_BYTES}
use Rattle.sap_read.proofs.SomeFile.{some_file}
use Rattle.sap_read.proofs.laws.some_file.Goals as goal

pub returns : goal.returns
returns c = λ z.
    let o = c.some_answer.ensures MOST_FILE_NAME_BYTES z in
    some_file c.item_laws.ensures c.statement_laws.ensures c.process_laws.ensures c.one_faulty_statement.ensures.some c.some_flaw.ensures c.annotations_of_processes.ensures.some c.some_macro_cause.ensures z o.0 o.1
