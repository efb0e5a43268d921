use Rattle.sap_json.proofs.OneOperands.{one_operands}
use Rattle.sap_json.proofs.SomeRun.{some_read}
use Rattle.sap_json.proofs.laws.some_json_run.Goals as goal

pub returns : goal.returns
returns c =
    let one = one_operands c.one_run_term.ensures c.one_run_word.ensures.fresh c.one_run_word.ensures.public c.one_run_word.ensures.variable in
    let words = c.run_words_are_decided.ensures in
    some_read one words.name words.fresh words.public words.variable words.term
