use Rattle.sap_read.proofs.OneFile.{one_file}
use Rattle.sap_read.proofs.laws.one_file.Goals as goal

pub returns : goal.returns
returns c =
    let locks = c.annotations_of_processes.ensures in
    one_file c.item_laws.ensures c.statement_laws.ensures c.process_laws.ensures c.one_macro_cause.ensures c.one_faulty_statement.ensures.one c.one_faulty_statement.ensures.never c.one_flaw.ensures.flaw c.one_flaw.ensures.none locks.one locks.one_path locks.one_cause locks.never_both c.one_answer.ensures
