use Rattle.sap_json.proofs.OneOperands.{one_operands}
use Rattle.sap_json.proofs.StepsRead.{one_process, one_rule}
use Rattle.sap_json.proofs.RunsRead.{one_read}
use Rattle.sap_json.proofs.laws.one_json_run.Goals as goal

pub returns : goal.returns
returns c =
    let one = one_operands c.one_run_term.ensures c.one_run_word.ensures.fresh c.one_run_word.ensures.public c.one_run_word.ensures.variable in
    one_read (one_process one) (one_rule one)
